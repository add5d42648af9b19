-- Places in a list of numbers that stand by rising depth.
use Rattle.std.proofs.Common.{◌≡◌, ℕ, zero, suc, ◌+◌, ◌<◌, ◌≤◌, Bool, true, false, ◌&&◌, ◌||◌, eqb, eqb-true, eq-eqb, nat_lt, List, [], ◌∷◌, ◌++◌, length, get_or, refl, sym, ap, ◌∙◌, length-append, arith}
use native.Mathlib.Decide.{dec_lt}
use Rattle.std.specs.List.{filter, flat_map, list_any, list_all, range_with_len}
use Rattle.std.proofs.Math.Bool.{and-false, and-true}
use Rattle.std.proofs.lemmas.Bool.{and_parts, or_parts, or_right}
use Rattle.std.proofs.lemmas.Bool.Decides.{nat_tests}
use Rattle.std.proofs.lemmas.List.Folds.{list_all-append}
use Rattle.std.proofs.lemmas.List.Sums.{fails_before_first}
use Rattle.craig_spec.specs.AigerReading.{place_in}

-- whether the number is in the list
abbrev pub has : List ℕ → ℕ → Bool
has xs j = list_any (eqb j) xs

-- where a number of the first part stands
pub record InFirst (xs ys : List ℕ) (j : ℕ) : Type 0 where
  pub same : place_in (xs ++ ys) j ≡ place_in xs j
  pub within : place_in xs j < length xs

in_first_by : (x : ℕ) (xs ys : List ℕ) (j : ℕ) (t : Bool) → eqb j x ≡ t → (t || has xs j) ≡ true → (has xs j ≡ true → InFirst xs ys j) → InFirst (x ∷ xs) ys j
in_first_by x xs ys j true e some rest = record { same = rw e refl; within = rw e (omega arith) }
in_first_by x xs ys j false e some rest =
    let r : InFirst xs ys j = rest some in
    record { same = rw e (ap (λ n. 1 + n) r.same); within = rw e (omega (arith, r.within)) }

-- what is in the first part is found there
pub in_first : (xs ys : List ℕ) (j : ℕ) → has xs j ≡ true → InFirst xs ys j
in_first [] ys j e = absurd cc
in_first (x ∷ xs) ys j e = in_first_by x xs ys j (eqb j x) refl e (in_first xs ys j)

-- where a number stands that is not in the first part
past_first : (xs ys : List ℕ) (j : ℕ) → has xs j ≡ false → place_in (xs ++ ys) j ≡ length xs + place_in ys j
past_first [] ys j e = omega arith
past_first (x ∷ xs) ys j e =
    let n = or_parts (eqb j x) (has xs j) e in
    rw (n.0) (omega (arith, past_first xs ys j n.1))

at_place_by : (x : ℕ) (xs : List ℕ) (j : ℕ) (t : Bool) → eqb j x ≡ t → place_in (x ∷ xs) j < length (x ∷ xs) → (place_in xs j < length xs → get_or xs (place_in xs j) 0 ≡ j) → get_or (x ∷ xs) (place_in (x ∷ xs) j) 0 ≡ j
at_place_by x xs j true e within rest = rw e (sym (eqb-true j x e))
at_place_by x xs j false e within rest =
    let p : place_in (x ∷ xs) j ≡ suc (place_in xs j) = rw e (omega arith) in
    rw p (rest (omega (arith, p, within)))

-- what stands at the place of a number
pub at_place : (xs : List ℕ) (j : ℕ) → place_in xs j < length xs → get_or xs (place_in xs j) 0 ≡ j
at_place [] j within = absurd (omega arith)
at_place (x ∷ xs) j within = at_place_by x xs j (eqb j x) refl within (at_place xs j)

-- a number stands nowhere before its place
pub first_place : (xs : List ℕ) (p : ℕ) → p < length xs → place_in xs (get_or xs p 0) ≤ p
first_place xs p within =
    elim (dec_lt p (place_in xs (get_or xs p 0))) [
      | Prim.yes early ↦ absurd (let e : eqb (get_or xs p 0) (get_or xs p 0) ≡ false = fails_before_first (eqb (get_or xs p 0)) xs p 0 early in let f : eqb (get_or xs p 0) (get_or xs p 0) ≡ true = eq-eqb (get_or xs p 0) (get_or xs p 0) refl in cc)
      | Prim.no not_early ↦ (let n : p < place_in xs (get_or xs p 0) → ⊥ = not_early in omega arith)
    ]

apart : (m n : ℕ) → n < m → eqb m n ≡ false
apart m n h = grind (arith, nat_tests, h)

has-filter_by : (test : ℕ → Bool) (x : ℕ) (xs : List ℕ) (j : ℕ) (t u v : Bool) → test j ≡ t → test x ≡ u → eqb j x ≡ v → has (filter test xs) j ≡ (t && has xs j) → has (filter test (x ∷ xs)) j ≡ (t && has (x ∷ xs) j)
has-filter_by test x xs j t true true e f g rest =
    let same : t ≡ true = sym e ∙ ap test (eqb-true j x g) ∙ f in
    rw (f, g, same) refl
has-filter_by test x xs j t true false e f g rest = rw (f, g) rest
has-filter_by test x xs j t false true e f g rest =
    let same : t ≡ false = sym e ∙ ap test (eqb-true j x g) ∙ f in
    rw (f, g, same) (rest ∙ ap (λ b. b && has xs j) same)
has-filter_by test x xs j t false false e f g rest = rw (f, g) rest

has-filter : (test : ℕ → Bool) (xs : List ℕ) (j : ℕ) (t : Bool) → test j ≡ t → has (filter test xs) j ≡ (t && has xs j)
has-filter test [] j t e = sym (and-false t)
has-filter test (x ∷ xs) j t e = has-filter_by test x xs j t (test x) (eqb j x) e refl refl (has-filter test xs j t e)

pub has-range : (a n j : ℕ) → a ≤ j → j < a + n → has (range_with_len a n) j ≡ true
has-range a zero j low high = absurd (omega arith)
has-range a (suc n) j low high =
    elim (dec_lt a j) [
      | Prim.yes above ↦ or_right (eqb j a) (has (range_with_len (a + 1) n) j) (has-range (a + 1) n j (omega (arith, above)) (omega arith))
      | Prim.no not_above ↦ (let not_lt : a < j → ⊥ = not_above in let e : eqb j a ≡ true = eq-eqb j a (omega arith) in rw e refl)
    ]

all-filter_by : (p test : ℕ → Bool) (x : ℕ) (xs : List ℕ) (t u : Bool) → p x ≡ t → test x ≡ u → (t && list_all p xs) ≡ true → (list_all p xs ≡ true → list_all p (filter test xs) ≡ true) → list_all p (filter test (x ∷ xs)) ≡ true
all-filter_by p test x xs true true e f h rest = rw (f, e) (rest h)
all-filter_by p test x xs true false e f h rest = rw f (rest h)
all-filter_by p test x xs false u e f h rest = absurd cc

all-filter : (p test : ℕ → Bool) (xs : List ℕ) → list_all p xs ≡ true → list_all p (filter test xs) ≡ true
all-filter p test [] e = refl
all-filter p test (x ∷ xs) e = all-filter_by p test x xs (p x) (test x) refl refl e (all-filter p test xs)

all-range : (p : ℕ → Bool) (a n : ℕ) → ((j : ℕ) → a ≤ j → j < a + n → p j ≡ true) → list_all p (range_with_len a n) ≡ true
all-range p a zero h = refl
all-range p a (suc n) h = let here : p a ≡ true = h a (omega arith) (omega arith) in rw here (all-range p (a + 1) n (λ j low high. h j (omega arith) (omega arith)))

element : (p : ℕ → Bool) (xs : List ℕ) (i : ℕ) → list_all p xs ≡ true → i < length xs → p (get_or xs i 0) ≡ true
element p [] i e within = absurd (omega arith)
element p (x ∷ xs) zero e within = (and_parts (p x) (list_all p xs) e).0
element p (x ∷ xs) (suc i) e within = element p xs i ((and_parts (p x) (list_all p xs) e).1) (omega arith)

-- numbers below a bound by rising depth, where the test says which have a depth
module _ (bound : ℕ) (test : ℕ → ℕ → Bool) (deep : ℕ → ℕ) (tests : (n j : ℕ) → j < bound → test n j ≡ eqb (deep j) n) where
  -- those of one depth
  abbrev level : ℕ → List ℕ
  level n = filter (test n) (range_with_len 0 bound)

  abbrev pub ordered_from : ℕ → ℕ → List ℕ
  ordered_from a n = flat_map (λ m. filter (test m) (range_with_len 0 bound)) (range_with_len a n)

  has-level : (n j : ℕ) → j < bound → has (level n) j ≡ eqb (deep j) n
  has-level n j within = has-filter (test n) (range_with_len 0 bound) j (eqb (deep j) n) (tests n j within) ∙ ap (λ b. eqb (deep j) n && b) (has-range 0 bound j (omega arith) (omega arith)) ∙ and-true (eqb (deep j) n)

  -- each stands somewhere
  pub ordered_within : (a n j : ℕ) → j < bound → a ≤ deep j → deep j < a + n → place_in (ordered_from a n) j < length (ordered_from a n)
  ordered_within a zero j within low high = absurd (omega arith)
  ordered_within a (suc n) j within low high =
      let l : length (level a ++ ordered_from (a + 1) n) ≡ length (level a) + length (ordered_from (a + 1) n) = length-append (level a) (ordered_from (a + 1) n) in
      elim (dec_lt a (deep j)) [
        | Prim.yes above ↦
            (let out : has (level a) j ≡ false = has-level a j within ∙ apart (deep j) a (omega (arith, above)) in
            omega (arith, l, past_first (level a) (ordered_from (a + 1) n) j out, ordered_within (a + 1) n j within (omega (arith, above)) (omega arith)))
        | Prim.no not_above ↦
            (let not_lt : a < deep j → ⊥ = not_above in
            let f : InFirst (level a) (ordered_from (a + 1) n) j = in_first (level a) (ordered_from (a + 1) n) j (has-level a j within ∙ eq-eqb (deep j) a (omega arith)) in
            omega (arith, l, f.same, f.within))
      ]

  -- what is less deep stands before what is deeper
  pub ordered_before : (a n i j : ℕ) → i < bound → j < bound → a ≤ deep i → deep i < a + n → deep i < deep j → place_in (ordered_from a n) i < place_in (ordered_from a n) j
  ordered_before a zero i j within_i within_j low high less = absurd (omega arith)
  ordered_before a (suc n) i j within_i within_j low high less =
      let out_j : has (level a) j ≡ false = has-level a j within_j ∙ apart (deep j) a (omega arith) in
      let past_j : place_in (level a ++ ordered_from (a + 1) n) j ≡ length (level a) + place_in (ordered_from (a + 1) n) j = past_first (level a) (ordered_from (a + 1) n) j out_j in
      elim (dec_lt a (deep i)) [
        | Prim.yes above ↦
            (let out : has (level a) i ≡ false = has-level a i within_i ∙ apart (deep i) a (omega (arith, above)) in
            omega (arith, past_j, past_first (level a) (ordered_from (a + 1) n) i out, ordered_before (a + 1) n i j within_i within_j (omega (arith, above)) (omega arith) less))
        | Prim.no not_above ↦
            (let not_lt : a < deep i → ⊥ = not_above in
            let f : InFirst (level a) (ordered_from (a + 1) n) i = in_first (level a) (ordered_from (a + 1) n) i (has-level a i within_i ∙ eq-eqb (deep i) a (omega arith)) in
            omega (arith, past_j, f.same, f.within))
      ]

  all_below : (a n : ℕ) → list_all (λ j. nat_lt j bound) (ordered_from a n) ≡ true
  all_below a zero = refl
  all_below a (suc n) =
      let here : list_all (λ j. nat_lt j bound) (level a) ≡ true = all-filter (λ j. nat_lt j bound) (test a) (range_with_len 0 bound) (all-range (λ j. nat_lt j bound) 0 bound (λ j low high. let h : j < bound = omega arith in grind (arith, nat_tests, h))) in
      list_all-append (λ j. nat_lt j bound) (level a) (ordered_from (a + 1) n) ∙ ap (λ b. b && list_all (λ j. nat_lt j bound) (ordered_from (a + 1) n)) here ∙ all_below (a + 1) n

  -- what stands there is below the bound
  pub ordered_below : (a n p : ℕ) → p < length (ordered_from a n) → get_or (ordered_from a n) p 0 < bound
  ordered_below a n p within = let e : nat_lt (get_or (ordered_from a n) p 0) bound ≡ true = element (λ j. nat_lt j bound) (ordered_from a n) p (all_below a n) within in grind (arith, nat_tests, e)
