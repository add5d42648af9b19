-- Lists whose elements ascend by a key, and that their members determine them.
use Rattle.std.proofs.Common.{◌≡◌, ◌∙◌, sym, ap, subst, refl, inl, inr, ℕ, suc, ◌<◌, true, eqb, eqb-true, eq-eqb, List, [], ◌∷◌, Contains, AllPairs, ◌⊎◌, arith}
use Rattle.std.specs.List.{list_any}
use Rattle.craig_spec.proofs.MemberLemmas.{Contains-cases, Contains-front, Contains-later, list_any-find, list_any-member}

-- the relation holds of each element and each later one
abbrev pub EachBefore : {X : Type 0} → (X → X → Type 0) → List X → Type 0
EachBefore R [] = Unit {0}
EachBefore {X} R (x ∷ xs) = ((y : X) → Contains xs y → R x y) × EachBefore R xs

-- each key is below the later ones
abbrev pub Ascends : {X : Type 0} → (X → ℕ) → List X → Type 0
Ascends key xs = EachBefore (λ x y. key x < key y) xs

pub EachBefore-from_pairs : {X : Type 0} (R : X → X → Type 0) (xs : List X) → AllPairs R xs → EachBefore R xs
EachBefore-from_pairs R [] h = tt
EachBefore-from_pairs R (x ∷ xs) h = (
  λ y (k, within, at). subst (λ z. R x z) at (h 0 (suc k) y (omega arith) (omega (arith, within))),
  EachBefore-from_pairs R xs (λ i j d less within. h (suc i) (suc j) d (omega (arith, less)) (omega (arith, within))),
)

pub EachBefore-and : {X : Type 0} (P Q R : X → X → Type 0) (xs : List X) → ((x y : X) → P x y → Q x y → R x y) → EachBefore P xs → EachBefore Q xs → EachBefore R xs
EachBefore-and P Q R [] f p q = tt
EachBefore-and P Q R (x ∷ xs) f p q = (λ y h. f x y (p.0 y h) (q.0 y h), EachBefore-and P Q R xs f p.1 q.1)

none : {X : Type 0} (x : X) → Contains [] x → ⊥
none x (k, within, at) = omega (arith, within)

first_same : {X : Type 0} (key : X → ℕ) (x y : X) (xs ys : List X) → (y ≡ x) ⊎ Contains ys x → (x ≡ y) ⊎ Contains xs y → ((z : X) → Contains xs z → key x < key z) → ((z : X) → Contains ys z → key y < key z) → x ≡ y
first_same key x y xs ys (inl e) q a b = sym e
first_same key x y xs ys (inr h) (inl e) a b = e
first_same key x y xs ys (inr h) (inr k) a b = absurd (omega (arith, a y k, b x h))

in_rest : {X : Type 0} (key : X → ℕ) (x y z : X) (ys : List X) → x ≡ y → key x < key z → (y ≡ z) ⊎ Contains ys z → Contains ys z
in_rest key x y z ys same below (inl e) = absurd (omega (arith, below, ap key (same ∙ e)))
in_rest key x y z ys same below (inr h) = h

-- two such lists with the same members are the same
pub ascending_unique : {X : Type 0} (key : X → ℕ) (xs ys : List X) → Ascends key xs → Ascends key ys → ((z : X) → Contains xs z → Contains ys z) → ((z : X) → Contains ys z → Contains xs z) → xs ≡ ys
ascending_unique key [] [] a b f g = refl
ascending_unique key [] (y ∷ ys) a b f g = absurd (none y (g y (Contains-front y ys)))
ascending_unique key (x ∷ xs) [] a b f g = absurd (none x (f x (Contains-front x xs)))
ascending_unique key (x ∷ xs) (y ∷ ys) a b f g =
    let same : x ≡ y = first_same key x y xs ys (Contains-cases y ys x (f x (Contains-front x xs))) (Contains-cases x xs y (g y (Contains-front y ys))) a.0 b.0 in
    let rest : xs ≡ ys = ascending_unique key xs ys a.1 b.1
    (λ z h. in_rest key x y z ys same (a.0 z h) (Contains-cases y ys z (f z (Contains-later x xs z h))))
    (λ z h. in_rest key y x z xs (sym same) (b.0 z h) (Contains-cases x xs z (g z (Contains-later y ys z h)))) in
    ap (λ l. x ∷ l) rest ∙ ap (λ w. w ∷ ys) same

-- a test on numbers finds the members
pub Contains-from_test : (xs : List ℕ) (x : ℕ) → list_any (eqb x) xs ≡ true → Contains xs x
Contains-from_test xs x e = let found = list_any-find (eqb x) xs e in subst (Contains xs) (sym (eqb-true x found.0 found.2)) found.1

pub test-from_Contains : (xs : List ℕ) (x : ℕ) → Contains xs x → list_any (eqb x) xs ≡ true
test-from_Contains xs x h = list_any-member (eqb x) xs x h (eq-eqb x x refl)

-- so numbers that rise are determined by the test
pub rising_unique : (xs ys : List ℕ) → Ascends (λ x. x) xs → Ascends (λ x. x) ys → ((z : ℕ) → list_any (eqb z) xs ≡ list_any (eqb z) ys) → xs ≡ ys
rising_unique xs ys a b same =
    ascending_unique (λ x. x) xs ys a b
    (λ z h. Contains-from_test ys z (sym (same z) ∙ test-from_Contains xs z h))
    (λ z h. Contains-from_test xs z (same z ∙ test-from_Contains ys z h))
