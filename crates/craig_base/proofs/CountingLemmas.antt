-- How long a list of small numbers can be in which none stands too often.
use Rattle.std.proofs.Common.{◌≡◌, ◌≢◌, inl, inr, ℕ, suc, zero, ◌+◌, ◌*◌, ◌<◌, ◌≤◌, Bool, true, false, cond, not, eqb, List, [], ◌∷◌, length, get_or, All, refl, sym, arith, eqb-true, mul-suc, zero-add}
use Rattle.std.proofs.lemmas.Bool.{cases_eq, eqb-false}
use Rattle.std.specs.List.{filter, IsDistinct, AllByRecursion}
use Rattle.std.proofs.lemmas.List.Elements.{All-head, All-tail, All-cons, All-nil}
use Rattle.std.proofs.lemmas.List.Filters.{length-filter_both}
use Rattle.std.proofs.lemmas.List.Sums.{length-filter, sum_by-cons}
use Rattle.std.proofs.lemmas.Map.Keys.{IsDistinct-head, IsDistinct-tail}
use Rattle.craig_base.specs.Counting.{count_of, NoneMoreThan}

-- one more number at the front
pub count_of-cons : (x y : ℕ) (xs : List ℕ) → count_of x (y ∷ xs) ≡ cond (eqb x y) 1 0 + count_of x xs
count_of-cons x y xs = sum_by-cons (λ z. cond (eqb x z) 1 0) y xs

-- taking some members out makes no number more frequent
count_of-filter : (p : ℕ → Bool) (x : ℕ) (xs : List ℕ) → count_of x (filter p xs) ≤ count_of x xs
count_of-filter p x [] = omega arith
count_of-filter p x (y ∷ xs) =
    elim (p y) as (λ b. count_of x (cond b (y ∷ filter p xs) (filter p xs)) ≤ count_of x (y ∷ xs)) [
      | true ↦ rw (count_of-cons x y (filter p xs), count_of-cons x y xs) (omega (arith, count_of-filter p x xs))
      | false ↦ rw (count_of-cons x y xs) (omega (arith, count_of-filter p x xs))
    ]

-- the members other than b, of a list below b + 1, are below b
below-cons : (b y : ℕ) (kept : List ℕ) (t : Bool) → eqb b y ≡ t → y < suc b → All (λ x. x < b) kept → All (λ x. x < b) (cond (not t) (y ∷ kept) kept)
below-cons b y kept true e h rest = rest
below-cons b y kept false e h rest = All-cons (λ x. x < b) y kept (omega (arith, eqb-false b y e)) rest

All-filter_below : (b : ℕ) (xs : List ℕ) → All (λ x. x < suc b) xs → All (λ x. x < b) (filter (λ x. not (eqb b x)) xs)
All-filter_below b [] h = All-nil (λ x. x < b)
All-filter_below b (y ∷ xs) h =
    below-cons b y (filter (λ x. not (eqb b x)) xs) (eqb b y) refl (All-head (λ x. x < suc b) y xs h) (All-filter_below b xs (All-tail (λ x. x < suc b) y xs h))

-- a list of numbers below b in which none stands more than m times has at most m * b members
pub length-le_from_counts : (b m : ℕ) (xs : List ℕ) → All (λ x. x < b) xs → NoneMoreThan m xs → length xs ≤ m * b
length-le_from_counts zero m [] below few = omega arith
length-le_from_counts zero m (x ∷ xs) below few = absurd (let k : x < 0 = All-head (λ z. z < 0) x xs below in omega arith)
length-le_from_counts (suc b) m xs below few =
    let rest : List ℕ = filter (λ x. not (eqb b x)) xs in
    let fewer : NoneMoreThan m rest = λ x. let le : count_of x rest ≤ count_of x xs = count_of-filter (λ z. not (eqb b z)) x xs in let most : count_of x xs ≤ m = few x in omega arith in
    let shorter : length rest ≤ m * b = length-le_from_counts b m rest (All-filter_below b xs below) fewer in
    let parts : length (filter (eqb b) xs) + length rest ≡ length xs = length-filter_both (eqb b) (λ x. not (eqb b x)) (λ _. refl) xs in
    let those : length (filter (eqb b) xs) ≡ count_of b xs = length-filter (eqb b) xs in
    let most : count_of b xs ≤ m = few b in
    rw mul-suc (omega arith)

-- a number that differs from each member doesn't stand in the list
count_of-absent : (x : ℕ) (xs : List ℕ) → AllByRecursion (λ y. eqb x y ≡ false) xs → count_of x xs ≡ 0
count_of-absent x [] h = refl
count_of-absent x (y ∷ xs) h = rw (count_of-cons x y xs, h.0, zero-add) (count_of-absent x xs h.1)

-- in a list without repeats no number stands more than once
pub NoneMoreThan-IsDistinct : (xs : List ℕ) → IsDistinct eqb xs → NoneMoreThan 1 xs
NoneMoreThan-IsDistinct [] h = λ x. omega arith
NoneMoreThan-IsDistinct (y ∷ xs) h = λ x.
    let rest : count_of x xs ≤ 1 = NoneMoreThan-IsDistinct xs (IsDistinct-tail eqb y xs h) x in
    let gone : count_of y xs ≡ 0 = count_of-absent y xs (IsDistinct-head eqb y xs h) in
    rw (count_of-cons x y xs) (grind (arith, eqb-true))

-- what one member counts
count-one : (b : Bool) → cond {A = ℕ} b 1 0 ≤ 1
count-one true = omega arith
count-one false = omega arith

count-other : (b : Bool) (x y : ℕ) → eqb x y ≡ b → y ≢ x → cond {A = ℕ} b 1 0 ≡ 0
count-other true x y is other = absurd (other (sym (eqb-true x y is)))
count-other false x y is other = refl

-- a number that stands at no place
count_of-nowhere : (x : ℕ) (xs : List ℕ) → ((k : ℕ) → k < length xs → get_or xs k 0 ≢ x) → count_of x xs ≡ 0
count_of-nowhere x [] none = refl
count_of-nowhere x (y ∷ xs) none =
    let here : cond {A = ℕ} (eqb x y) 1 0 ≡ 0 = count-other (eqb x y) x y refl (none 0 (omega arith)) in
    let rest : count_of x xs ≡ 0 = count_of-nowhere x xs (λ k within. none (suc k) (omega (arith, within))) in
    rw (count_of-cons x y xs) (omega arith)

-- at no two places
count_of-once : (x : ℕ) (xs : List ℕ) → ((j k : ℕ) → j < k → k < length xs → get_or xs j 0 ≡ x → get_or xs k 0 ≢ x) → count_of x xs ≤ 1
count_of-once x [] once = omega arith
count_of-once x (y ∷ xs) once = elim (cases_eq y x) [
  | inl same ↦
      let here : cond {A = ℕ} (eqb x y) 1 0 ≤ 1 = count-one (eqb x y) in
      let rest : count_of x xs ≡ 0 = count_of-nowhere x xs (λ k within. once 0 (suc k) (omega arith) (omega (arith, within)) same) in
      rw (count_of-cons x y xs) (omega arith)
  | inr other ↦
      let here : cond {A = ℕ} (eqb x y) 1 0 ≡ 0 = count-other (eqb x y) x y refl other in
      let rest : count_of x xs ≤ 1 = count_of-once x xs (λ j k before within. once (suc j) (suc k) (omega (arith, before)) (omega (arith, within))) in
      rw (count_of-cons x y xs) (omega arith)
]

-- at no three places
pub count_of-twice : (x : ℕ) (xs : List ℕ) → ((i j k : ℕ) → i < j → j < k → k < length xs → get_or xs i 0 ≡ x → get_or xs j 0 ≡ x → get_or xs k 0 ≢ x) → count_of x xs ≤ 2
count_of-twice x [] twice = omega arith
count_of-twice x (y ∷ xs) twice = elim (cases_eq y x) [
  | inl same ↦
      let here : cond {A = ℕ} (eqb x y) 1 0 ≤ 1 = count-one (eqb x y) in
      let rest : count_of x xs ≤ 1 = count_of-once x xs (λ j k before within. twice 0 (suc j) (suc k) (omega arith) (omega (arith, before)) (omega (arith, within)) same) in
      rw (count_of-cons x y xs) (omega arith)
  | inr other ↦
      let here : cond {A = ℕ} (eqb x y) 1 0 ≡ 0 = count-other (eqb x y) x y refl other in
      let rest : count_of x xs ≤ 2 = count_of-twice x xs (λ i j k before later within. twice (suc i) (suc j) (suc k) (omega (arith, before)) (omega (arith, later)) (omega (arith, within))) in
      rw (count_of-cons x y xs) (omega arith)
]
