-- The greatest of some levels, and how many of them differ.
use Rattle.std.proofs.Common.{◌≡◌, ◌↔◌, inl, inr, ℕ, ◌+◌, ◌<◌, ◌≤◌, Bool, true, false, cond, eqb, List, [], ◌∷◌, ◌++◌, length, get_or, take, map, All, Contains, max, refl, sym, ap, subst, ◌∙◌, arith, eq-eqb}
use Rattle.std.specs.List.{AllByRecursion, IsDistinct}
use Rattle.std.proofs.lemmas.Bool.Decides.{leb_tells}
use Rattle.std.proofs.lemmas.List.Sums.{sum_by-cons}
use Rattle.std.proofs.lemmas.Map.Steps.{length-le_from_distinct_below}
use Rattle.std.proofs.lemmas.List.{map_more, take_all}
use Rattle.std.proofs.lemmas.List.Elements.{All-push, All-map, All-weaker, Contains-push, Contains-push_cases, Contains-append_left, Contains-get_or, All-contains}
use Rattle.craig_spec.specs.Literal.{Literal, Clause}
use Rattle.craig_base.specs.Counting.{NoneMoreThan, count_of}
use Rattle.craig_watch.specs.Trail.{Trail, level_at}
use Rattle.craig_watch.specs.Held.{HeldView, IsConsistent}
use Rattle.craig_watch.proofs.TrailLemmas.{member-below}
use Rattle.craig_analyze.specs.Learnt.{IsGreatestOf}
use Rattle.craig_analyze.specs.Marks.{IsMarked}
use Rattle.craig_analyze.proofs.LevelLemmas.{level_at-le}

-- one level more
pub IsGreatestOf-push : (ns : List ℕ) (m n g : ℕ) → IsGreatestOf ns m → g ≡ max n m → IsGreatestOf (ns ++ n ∷ []) g
IsGreatestOf-push ns m n g (below, there) is = (
  All-push (λ k. k ≤ g) ns n (All-weaker (λ k. k ≤ m) (λ k. k ≤ g) (λ k le. omega arith) ns below) (omega arith),
  inl (elim (leb_tells m n) [
    | inl up ↦ let le : m ≤ n = up.1 in let e : n ≡ g = omega arith in subst (Contains (ns ++ n ∷ [])) e (Contains-push ns n)
    | inr down ↦
        let lt : n < m = down.1 in
        let e : m ≡ g = omega arith in
        elim there [
          | inl has ↦ subst (Contains (ns ++ n ∷ [])) e (Contains-append_left ns (n ∷ []) m has)
          | inr none ↦ absurd (let z : m ≡ 0 = none.1 in omega arith)
        ]
  ]),
)

level-item : (t : Trail) (lits : Clause) (i : ℕ) (l : Literal) → i < length lits → l ≡ get_or lits i l → map (level_at t) (take (i + 1) lits) ≡ map (level_at t) (take i lits) ++ level_at t l ∷ []
level-item t lits i l within is = map_more (level_at t) lits i l within ∙ ap (λ (m : Literal). map (level_at t) (take i lits) ++ level_at t m ∷ []) (sym is)

pub greatest-step : (t : Trail) (lits : Clause) (i : ℕ) (l : Literal) (m n g : ℕ) → i < length lits → l ≡ get_or lits i l → IsGreatestOf (map (level_at t) (take i lits)) m → n ≡ level_at t l → g ≡ max n m → IsGreatestOf (map (level_at t) (take (i + 1) lits)) g
greatest-step t lits i l m n g within is h n_is g_is =
    subst (λ (ns : List ℕ). IsGreatestOf ns g) (sym (level-item t lits i l within is)) (IsGreatestOf-push (map (level_at t) (take i lits)) m (level_at t l) g h (omega arith))

pub greatest-end : (t : Trail) (lits : Clause) (i g : ℕ) → length lits ≤ i → IsGreatestOf (map (level_at t) (take i lits)) g → IsGreatestOf (map (level_at t) lits) g
greatest-end t lits i g past h = subst (λ (c : Clause). IsGreatestOf (map (level_at t) c) g) (take_all i lits past) h

-- the same numbers
abbrev pub SameNumbers : List ℕ → List ℕ → Type 0
SameNumbers xs ys = (n : ℕ) → Contains xs n ↔ Contains ys n

Contains-more : (xs ys : List ℕ) (x n : ℕ) → SameNumbers xs ys → Contains (xs ++ x ∷ []) n → Contains (ys ++ x ∷ []) n
Contains-more xs ys x n same h =
    elim (Contains-push_cases xs x n h) [ inl old ↦ Contains-append_left ys (x ∷ []) n ((same n).0 old) | inr is ↦ subst (Contains (ys ++ x ∷ [])) is (Contains-push ys x) ]

same-marked : (b : Bool) (x : ℕ) (old new ys : List ℕ) → IsMarked x old new b → SameNumbers old ys → SameNumbers new (ys ++ x ∷ [])
same-marked true x old new ys (fresh, is) same n = (
  λ h. Contains-more old ys x n same (subst (λ (xs : List ℕ). Contains xs n) is h),
  λ h. subst (λ (xs : List ℕ). Contains xs n) (sym is) (Contains-more ys old x n (λ k. ((same k).1, (same k).0)) h),
)
same-marked false x old new ys (has, is) same n = (
  λ h. Contains-append_left ys (x ∷ []) n ((same n).0 (subst (λ (xs : List ℕ). Contains xs n) is h)),
  λ h. subst (λ (xs : List ℕ). Contains xs n) (sym is) (elim (Contains-push_cases ys x n h) [ inl old_one ↦ (same n).1 old_one | inr e ↦ subst (Contains old) e has ]),
)

pub count-step : (t : Trail) (lits : Clause) (i : ℕ) (l : Literal) (n : ℕ) (b : Bool) (old new : List ℕ) → i < length lits → l ≡ get_or lits i l → SameNumbers old (map (level_at t) (take i lits)) → n ≡ level_at t l → IsMarked n old new b → SameNumbers new (map (level_at t) (take (i + 1) lits))
count-step t lits i l n b old new within is same n_is marked =
    subst (SameNumbers new) (sym (level-item t lits i l within is)) (same-marked b (level_at t l) old new (map (level_at t) (take i lits)) (subst (λ (k : ℕ). IsMarked k old new b) n_is marked) same)

pub count-end : (t : Trail) (lits : Clause) (i : ℕ) (marks : List ℕ) → length lits ≤ i → SameNumbers marks (map (level_at t) (take i lits)) → SameNumbers marks (map (level_at t) lits)
count-end t lits i marks past h = subst (λ (c : Clause). SameNumbers marks (map (level_at t) c)) (take_all i lits past) h

-- a number that stands nowhere in a list differs from each member
absent_step : (b : Bool) (x y : ℕ) (xs : List ℕ) → eqb x y ≡ b → cond b 1 0 + count_of x xs ≡ 0 → (count_of x xs ≡ 0 → AllByRecursion (λ z. eqb x z ≡ false) xs) → (eqb x y ≡ false) × AllByRecursion (λ z. eqb x z ≡ false) xs
absent_step true x y xs is none rest = absurd (omega arith)
absent_step false x y xs is none rest = (is, rest (omega arith))

absent : (x : ℕ) (xs : List ℕ) → count_of x xs ≡ 0 → AllByRecursion (λ y. eqb x y ≡ false) xs
absent x [] none = tt
absent x (y ∷ xs) none = absent_step (eqb x y) x y xs refl (sym (sum_by-cons (λ z. cond (eqb x z) 1 0) y xs) ∙ none) (absent x xs)

-- numbers of which none stands twice are distinct
IsDistinct-once : (xs : List ℕ) → NoneMoreThan 1 xs → IsDistinct eqb xs
unfolding IsDistinct
IsDistinct-once [] once = tt
IsDistinct-once (x ∷ xs) once =
    let itself : eqb x x ≡ true = eq-eqb x x refl in
    let here : count_of x (x ∷ xs) ≡ 1 + count_of x xs = sum_by-cons (λ z. cond (eqb x z) 1 0) x xs ∙ ap (λ (b : Bool). cond b 1 0 + count_of x xs) itself in
    let none : count_of x xs ≡ 0 = omega (arith, here, once x) in
    (absent x xs none, IsDistinct-once xs (λ y. let more = sum_by-cons (λ z. cond (eqb y z) 1 0) x xs in omega (arith, more, once y)))

-- so there are few different levels
levels-small : (h : HeldView) (lits : Clause) → IsConsistent h → All (λ n. n < h.level + 1) (map (level_at h.trail) lits)
levels-small h lits ok = All-map (λ n. n < h.level + 1) (level_at h.trail) lits (λ k d w. let le : level_at h.trail (get_or lits k d) ≤ h.level = level_at-le h (get_or lits k d) ok in omega arith)

pub few-levels : (h : HeldView) (lits : Clause) (marks : List ℕ) → IsConsistent h → h.level ≤ h.vars → NoneMoreThan 1 marks → SameNumbers marks (map (level_at h.trail) lits) → length marks < 4294967296
few-levels h lits marks ok vars once same =
    let small : All (λ n. n < h.level + 1) marks = λ k d w.
    let n : ℕ = get_or marks k d in
    let there = (same n).0 (Contains-get_or marks k d w) in
    All-contains (λ n. n < h.level + 1) (map (level_at h.trail) lits) n (levels-small h lits ok) there in
    let few : length marks ≤ h.level + 1 = length-le_from_distinct_below marks (h.level + 1) (IsDistinct-once marks once) (λ q is. member-below (h.level + 1) marks q small is) in
    let bound = ok.few in
    omega arith
