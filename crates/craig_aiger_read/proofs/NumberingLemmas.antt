-- Laws of lines that are numbered one after the other.
use Rattle.std.proofs.Common.{◌≡◌, ℕ, ◌+◌, ◌<◌, ◌≤◌, Bool, true, false, ◌||◌, cond, List, [], ◌∷◌, ◌++◌, length, take, drop, map, get_or, Option, Some, None, Ok, refl, sym, ◌∙◌, ap}
use Rattle.std.proofs.lemmas.List.{drop_all, drop_more, get_or_default, map_push, take_all, take_more}
use Rattle.std.specs.Prelude.{find}
use Rattle.craig_spec.specs.AigerReading.{Use, fault, uses_other}
use Rattle.craig_spec.specs.AigerFault.{FaultKind}
use Rattle.craig_aiger_read.specs.ReadNumbers.{lines_numbered}

-- so many lines have numbers, and nothing of them is undefined
pub record NumberedSoFar {L X : Type 0} (variables : List ℕ) (use_of : L → Use) (make : L → X) (lines : List L) (i : ℕ) (made : List X) : Type 0 where
  pub found : find (uses_other variables) (map use_of (drop i lines)) ≡ find (uses_other variables) (map use_of lines)
  pub is : made ≡ map make (take i lines)

pub numbered-none : {L X : Type 0} (variables : List ℕ) (use_of : L → Use) (make : L → X) (lines : List L) → NumberedSoFar variables use_of make lines 0 []
numbered-none variables use_of make lines = record { found = refl; is = refl }

here : {L : Type 0} (p : Use → Bool) (use_of : L → Use) (x : L) (xs : List L) (t : Bool) → p (use_of x) ≡ t → find p (map use_of (x ∷ xs)) ≡ cond t (Some (use_of x)) (find p (map use_of xs))
here p use_of x xs t e = ap (λ z. cond z (Some (use_of x)) (find p (map use_of xs))) e

pub numbered-more : {L X : Type 0} (variables : List ℕ) (use_of : L → Use) (make : L → X) (lines : List L) (i : ℕ) (made : List X) (x : L) (y : X) →
    NumberedSoFar variables use_of make lines i made → i < length lines → x ≡ get_or lines i x → uses_other variables (use_of x) ≡ false → y ≡ make x →
    NumberedSoFar variables use_of make lines (i + 1) (made ++ y ∷ [])
numbered-more variables use_of make lines i made x y h inside at fine is =
    let split : drop i lines ≡ x ∷ drop (i + 1) lines = drop_more lines i x inside ∙ ap (λ z. z ∷ drop (i + 1) lines) (sym at) in
    let front : take (i + 1) lines ≡ take i lines ++ x ∷ [] = take_more lines i x inside ∙ ap (λ z. take i lines ++ z ∷ []) (sym at) in
    record {
      found = sym (here (uses_other variables) use_of x (drop (i + 1) lines) false fine) ∙ ap (λ z. find (uses_other variables) (map use_of z)) (sym split) ∙ h.found;
      is = ap (λ z. made ++ z ∷ []) is ∙ ap (λ z. z ++ make x ∷ []) h.is ∙ sym (map_push make (take i lines) x) ∙ ap (map make) (sym front);
    }

-- a line that uses what is undefined
pub numbered-undefined : {L X : Type 0} (variables : List ℕ) (use_of : L → Use) (make : L → X) (lines : List L) (i : ℕ) (made : List X) (x : L) →
    NumberedSoFar variables use_of make lines i made → i < length lines → x ≡ get_or lines i x → uses_other variables (use_of x) ≡ true →
    lines_numbered variables use_of make lines ≡ fault FaultKind.Undefined (use_of x).offset
numbered-undefined variables use_of make lines i made x h inside at wrong =
    let split : drop i lines ≡ x ∷ drop (i + 1) lines = drop_more lines i x inside ∙ ap (λ z. z ∷ drop (i + 1) lines) (sym at) in
    let found : find (uses_other variables) (map use_of lines) ≡ Some (use_of x) =
    sym h.found ∙ ap (λ z. find (uses_other variables) (map use_of z)) split ∙ here (uses_other variables) use_of x (drop (i + 1) lines) true wrong in
    rw found refl

-- after the last line
pub numbered-all : {L X : Type 0} (variables : List ℕ) (use_of : L → Use) (make : L → X) (lines : List L) (i : ℕ) (made : List X) →
    NumberedSoFar variables use_of make lines i made → length lines ≤ i → lines_numbered variables use_of make lines ≡ Ok made
numbered-all variables use_of make lines i made h past =
    let found : find (uses_other variables) (map use_of lines) ≡ None =
    sym h.found ∙ ap (λ z. find (uses_other variables) (map use_of z)) (drop_all i lines past) in
    let all : map make lines ≡ made = sym (h.is ∙ ap (map make) (take_all i lines past)) in
    rw (found, all) refl

-- what a test refuses, where a value that it lets through would have an answer
refused : {X : Type 0} (t : Bool) (z : X) → None ≡ cond t None (Some z) → t ≡ true
refused true z e = refl
refused false z e = cc

-- what a test lets through
passed : {X : Type 0} (t : Bool) (y z : X) → Some y ≡ cond t None (Some z) → (t ≡ false) × (y ≡ z)
passed true y z e = absurd cc
passed false y z e = (refl, cc)

-- a line with one literal is refused where the literal is
pub one_literal : {X : Type 0} (t : Bool) (o : Option X) (z : X) → o ≡ cond t None (Some z) → o ≡ cond (t || false) None (Some z)
one_literal true o z e = e
one_literal false o z e = e

-- and one with two where one of them is
pub first_literal : {X Y : Type 0} (t u : Bool) (y : Y) (z : X) → None ≡ cond t None (Some y) → None ≡ cond (t || (u || false)) None (Some z)
first_literal true u y z e = refl
first_literal false u y z e = absurd cc

pub second_literal : {X Y : Type 0} (t u : Bool) (y : Y) (z : X) → None ≡ cond u None (Some y) → None ≡ cond (t || (u || false)) None (Some z)
second_literal true u y z e = refl
second_literal false true y z e = refl
second_literal false false y z e = absurd cc

pub both_literals : {X Y : Type 0} (t u : Bool) (l m y w : Y) (make : Y → Y → X) → Some l ≡ cond t None (Some y) → Some m ≡ cond u None (Some w) → Some (make l m) ≡ cond (t || (u || false)) None (Some (make y w))
both_literals true u l m y w make e f = absurd cc
both_literals false true l m y w make e f = absurd cc
both_literals false false l m y w make e f = let p : l ≡ y = cc in let q : m ≡ w = cc in ap Some (ap (make l) q ∙ ap (λ z. make z w) p)

-- the next line, where something is made of it unless it uses what is undefined
pub numbered-next : {L X : Type 0} (variables : List ℕ) (use_of : L → Use) (make : L → X) (lines : List L) (i : ℕ) (made : List X) (d : L) (y : X) →
    NumberedSoFar variables use_of make lines i made → i < length lines → Some y ≡ cond (uses_other variables (use_of (get_or lines i d))) None (Some (make (get_or lines i d))) →
    NumberedSoFar variables use_of make lines (i + 1) (made ++ y ∷ [])
numbered-next variables use_of make lines i made d y h inside e =
    let x = get_or lines i d in
    let p = passed (uses_other variables (use_of x)) y (make x) e in
    numbered-more variables use_of make lines i made x y h inside (get_or_default lines i d x inside) p.0 p.1

-- and where nothing is
pub numbered-refused : {L X : Type 0} (variables : List ℕ) (use_of : L → Use) (make : L → X) (lines : List L) (i : ℕ) (made : List X) (d : L) →
    NumberedSoFar variables use_of make lines i made → i < length lines → None ≡ cond (uses_other variables (use_of (get_or lines i d))) None (Some (make (get_or lines i d))) →
    lines_numbered variables use_of make lines ≡ fault FaultKind.Undefined (use_of (get_or lines i d)).offset
numbered-refused variables use_of make lines i made d h inside e =
    let x = get_or lines i d in
    numbered-undefined variables use_of make lines i made x h inside (get_or_default lines i d x inside) (refused (uses_other variables (use_of x)) (make x) e)
