-- Laws of the file that parts make.
use Rattle.std.proofs.Common.{◌≡◌, ℕ, suc, ◌+◌, ◌-◌, ◌/◌, ◌<◌, ◌≤◌, Bool, true, false, cond, ltb, List, [], ◌∷◌, ◌++◌, length, map, All, Option, Some, None, Result, Ok, Err, ◌⊎◌, inl, inr, refl, sym, ◌∙◌, ap, arith}
use Rattle.std.proofs.lemmas.Bool.Decides.{nat_tests}
use Rattle.std.specs.Prelude.{find}
use Rattle.std.specs.Option.{option_map}
use Rattle.std.specs.List.{range_with_len}
use Rattle.craig_spec.specs.AigerFault.{Fault, FaultKind}
use Rattle.craig_spec.specs.AigerReading.{Symbol, Use, moved, name_of, named_latches, named_roots, unless_found, uses_other, ◌>>=◌}
use Rattle.craig_spec.proofs.AigerBinaryLemmas.{ok-is}
use Rattle.craig_aiger_read.specs.declared.latch_line.LatchLine.{LatchLine}
use Rattle.craig_aiger_read.specs.declared.root_line.RootLine.{RootLine}
use Rattle.craig_aiger_read.specs.ReadFiles.{latches_with, roots_with}
use Rattle.craig_aiger_read.specs.ReadNumbers.{lines_numbered}
use Rattle.craig_aiger_read.specs.ReadOrder.{AreNewVariables, moved_by}
use Rattle.craig_aiger_read.specs.ReadViews.{as_latch, as_root}

-- the first line that uses what is undefined is the fault
abbrev pub UndefinedAt : List ℕ → List Use → Fault → Type 0
UndefinedAt variables uses f = (u : Use) × (find (uses_other variables) uses ≡ Some u) × (f ≡ record { kind = FaultKind.Undefined; offset = u.offset })

lines-by : {X : Type 0} (o : Option Use) (all : List X) (made : List X) → unless_found FaultKind.Undefined (option_map (λ (u : Use). u.offset) o) (Ok all) ≡ Ok made → (o ≡ None) × (made ≡ all)
lines-by None all made e = (refl, sym (ok-is all made e))
lines-by (Some u) all made e = cc

pub lines-ok : {L X : Type 0} (variables : List ℕ) (use_of : L → Use) (make : L → X) (lines : List L) (made : List X) → lines_numbered variables use_of make lines ≡ Ok made →
    (find (uses_other variables) (map use_of lines) ≡ None) × (made ≡ map make lines)
lines-ok variables use_of make lines made e = lines-by (find (uses_other variables) (map use_of lines)) (map make lines) made e

err-same : {A : Type 0} (x y : Fault) → ◌≡◌ {A = Result A Fault} (Err x) (Err y) → x ≡ y
err-same x y e = cc

lines-err-by : {X : Type 0} (o : Option Use) (all : List X) (f : Fault) → unless_found FaultKind.Undefined (option_map (λ (u : Use). u.offset) o) (Ok all) ≡ Err f →
    (u : Use) × (o ≡ Some u) × (f ≡ record { kind = FaultKind.Undefined; offset = u.offset })
lines-err-by None all f e = cc
lines-err-by {X = X} (Some u) all f e = (u, refl, sym (err-same {A = List X} (record { kind = FaultKind.Undefined; offset = u.offset }) f e))

pub lines-err : {L X : Type 0} (variables : List ℕ) (use_of : L → Use) (make : L → X) (lines : List L) (f : Fault) → lines_numbered variables use_of make lines ≡ Err f → UndefinedAt variables (map use_of lines) f
lines-err variables use_of make lines f e = lines-err-by (find (uses_other variables) (map use_of lines)) (map make lines) f e

left-by : (p : Use → Bool) (t : Bool) (x u : Use) (a b : Option Use) → cond t (Some x) a ≡ Some u → (a ≡ Some u → b ≡ Some u) → cond t (Some x) b ≡ Some u
left-by p true x u a b e h = e
left-by p false x u a b e h = h e

find-left : (p : Use → Bool) (xs ys : List Use) (u : Use) → find p xs ≡ Some u → find p (xs ++ ys) ≡ Some u
find-left p [] ys u e = cc
find-left p (x ∷ xs) ys u e = left-by p (p x) x u (find p xs) (find p (xs ++ ys)) e (find-left p xs ys u)

right-by : (t : Bool) (x : Use) (a b c : Option Use) → cond t (Some x) a ≡ None → (a ≡ None → b ≡ c) → cond t (Some x) b ≡ c
right-by true x a b c e h = cc
right-by false x a b c e h = h e

pub find-right : (p : Use → Bool) (xs ys : List Use) → find p xs ≡ None → find p (xs ++ ys) ≡ find p ys
find-right p [] ys e = refl
find-right p (x ∷ xs) ys e = right-by (p x) x (find p xs) (find p (xs ++ ys)) (find p ys) e (find-right p xs ys)

undefined-left : (variables : List ℕ) (xs ys : List Use) (f : Fault) → UndefinedAt variables xs f → UndefinedAt variables (xs ++ ys) f
undefined-left variables xs ys f h = (h.0, find-left (uses_other variables) xs ys h.0 h.1, h.2)

undefined-right : (variables : List ℕ) (xs ys : List Use) (f : Fault) → find (uses_other variables) xs ≡ None → UndefinedAt variables ys f → UndefinedAt variables (xs ++ ys) f
undefined-right variables xs ys f none h = (h.0, find-right (uses_other variables) xs ys none ∙ h.1, h.2)

bind-err : {A B : Type 0} (r : Result A Fault) (k : A → Result B Fault) (f : Fault) → (r >>= k) ≡ Err f → (r ≡ Err f) ⊎ ((x : A) × (r ≡ Ok x) × (k x ≡ Err f))
bind-err {A = A} {B = B} (Ok x) k f e = inr (x, refl, e)
bind-err {A = A} {B = B} (Err g) k f e = inl (ap (λ (z : Fault). Err z) (err-same {A = B} g f e))

ok-err : {f : Fault} → ◌≡◌ {A = Result (Unit {0}) Fault} (Ok tt) (Err f) → ⊥
ok-err e = cc

-- four lists of lines, the first fault of which is that of all
pub undefined-four : {First Second Third Fourth X1 X2 X3 X4 : Type 0} (variables : List ℕ) (u1 : First → Use) (u2 : Second → Use) (u3 : Third → Use) (u4 : Fourth → Use) (m1 : First → X1) (m2 : Second → X2) (m3 : Third → X3) (m4 : Fourth → X4)
    (l1 : List First) (l2 : List Second) (l3 : List Third) (l4 : List Fourth) (f : Fault) →
    (lines_numbered variables u1 m1 l1 >>= λ a. (lines_numbered variables u2 m2 l2 >>= λ b. (lines_numbered variables u3 m3 l3 >>= λ c. (lines_numbered variables u4 m4 l4 >>= λ d. Ok (tt {0}))))) ≡ Err f →
    UndefinedAt variables (map u1 l1 ++ (map u2 l2 ++ (map u3 l3 ++ map u4 l4))) f
undefined-four variables u1 u2 u3 u4 m1 m2 m3 m4 l1 l2 l3 l4 f e =
    elim (bind-err (lines_numbered variables u1 m1 l1) _ f e) as (λ _. UndefinedAt variables (map u1 l1 ++ (map u2 l2 ++ (map u3 l3 ++ map u4 l4))) f) [
      | inl h ↦ undefined-left variables (map u1 l1) _ f (lines-err variables u1 m1 l1 f h)
      | inr p ↦ undefined-right variables (map u1 l1) _ f (lines-ok variables u1 m1 l1 p.0 p.1).0
          (elim (bind-err (lines_numbered variables u2 m2 l2) _ f p.2) as (λ _. UndefinedAt variables (map u2 l2 ++ (map u3 l3 ++ map u4 l4)) f) [
            | inl h ↦ undefined-left variables (map u2 l2) _ f (lines-err variables u2 m2 l2 f h)
            | inr q ↦ undefined-right variables (map u2 l2) _ f (lines-ok variables u2 m2 l2 q.0 q.1).0
                (elim (bind-err (lines_numbered variables u3 m3 l3) _ f q.2) as (λ _. UndefinedAt variables (map u3 l3 ++ map u4 l4) f) [
                  | inl h ↦ undefined-left variables (map u3 l3) _ f (lines-err variables u3 m3 l3 f h)
                  | inr r ↦ undefined-right variables (map u3 l3) _ f (lines-ok variables u3 m3 l3 r.0 r.1).0
                      (elim (bind-err (lines_numbered variables u4 m4 l4) _ f r.2) as (λ _. UndefinedAt variables (map u4 l4) f) [
                        | inl h ↦ lines-err variables u4 m4 l4 f h
                        | inr s ↦ absurd (ok-err s.2)
                      ])
                ])
          ])
    ]

-- a literal is moved by the variables as by the order
moved-by-test : (first : ℕ) (order variables : List ℕ) (l : ℕ) (t : Bool) → ltb (l / 2) first ≡ t → AreNewVariables first order variables → l / 2 < first + length variables → moved_by first variables l ≡ moved first order l
moved-by-test first order variables l true test h within = rw test refl
moved-by-test first order variables l false test h within =
    let high : first ≤ l / 2 = grind (arith, nat_tests, test) in
    rw (test, h (l / 2 - first) (omega (arith, high, within))) refl

pub moved_by-is : (first : ℕ) (order variables : List ℕ) (l : ℕ) → AreNewVariables first order variables → l / 2 < first + length variables → moved_by first variables l ≡ moved first order l
moved_by-is first order variables l h within = moved-by-test first order variables l (ltb (l / 2) first) refl h within

-- roots with their names
pub roots-named : (f g : ℕ → ℕ) (number : ℕ → ℕ) (symbols : List Symbol) (letter i : ℕ) (rs : List RootLine) →
    All (λ l. f l ≡ g l) (map (λ (r : RootLine). number r.literal) rs) →
    roots_with f (map (λ (r : RootLine). number r.literal) rs) (map (name_of symbols letter) (range_with_len i (length (map as_root rs)))) ≡ named_roots (λ l. g (number l)) symbols letter i (map as_root rs)
roots-named f g number symbols letter i [] h = refl
roots-named f g number symbols letter i (r ∷ rs) h =
    let here : f (number r.literal) ≡ g (number r.literal) = h 0 0 (omega arith) in
    rw (here, roots-named f g number symbols letter (i + 1) rs (λ k d low. h (suc k) d (omega arith))) refl

-- latches with their names
pub latches-named : (f g : ℕ → ℕ) (number : ℕ → ℕ) (symbols : List Symbol) (i : ℕ) (ls : List LatchLine) →
    All (λ l. f l ≡ g l) (map (λ (l : LatchLine). number l.next) ls) →
    latches_with f ls (map (λ (l : LatchLine). number l.next) ls) (map (name_of symbols 108) (range_with_len i (length (map as_latch ls)))) ≡ named_latches (λ l. g (number l)) symbols i (map as_latch ls)
latches-named f g number symbols i [] h = refl
latches-named f g number symbols i (l ∷ ls) h =
    let here : f (number l.next) ≡ g (number l.next) = h 0 0 (omega arith) in
    rw (here, latches-named f g number symbols (i + 1) ls (λ k d low. h (suc k) d (omega arith))) refl

pub none-four : (p : Use → Bool) (a b c d : List Use) → find p a ≡ None → find p b ≡ None → find p c ≡ None → find p d ≡ None → find p (a ++ (b ++ (c ++ d))) ≡ None
none-four p a b c d ha hb hc hd = find-right p a (b ++ (c ++ d)) ha ∙ find-right p b (c ++ d) hb ∙ find-right p c d hc ∙ hd
