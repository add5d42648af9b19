-- Members of lists, tests and places.
use Rattle.std.proofs.Common.{◌≡◌, ◌∙◌, sym, ap, refl, ℕ, zero, suc, ◌<◌, Bool, true, ◌⊎◌, List, [], ◌∷◌, ◌++◌, length, length-take, take, map, All, Contains, Some, option_map, slice_get, arith, filter, inl, inr}
use Rattle.std.specs.List.{list_any, list_all}
use Rattle.std.proofs.lemmas.Bool.{and_parts, and_from, or_left, or_right, or_cases}
use Rattle.std.proofs.lemmas.List.{get_or-map, get_or-take, length-map}
use Rattle.std.proofs.lemmas.Option.{slice_get-map}

pub Contains-front : {A : Type 0} (x : A) (xs : List A) → Contains (x ∷ xs) x
Contains-front x xs = (0, omega arith, refl)

pub Contains-later : {A : Type 0} (y : A) (xs : List A) (x : A) → Contains xs x → Contains (y ∷ xs) x
Contains-later y xs x (k, within, at) = (suc k, omega (arith, within), at)

pub Contains-cases : {A : Type 0} (y : A) (xs : List A) (x : A) → Contains (y ∷ xs) x → (y ≡ x) ⊎ Contains xs x
Contains-cases y xs x (zero, within, at) = inl at
Contains-cases y xs x (suc k, within, at) = inr (k, omega (arith, within), at)

-- a member's image is a member of the images, and each member of those is one
pub Contains-image : {X Y : Type 0} (f : X → Y) (xs : List X) (x : X) → Contains xs x → Contains (map f xs) (f x)
Contains-image f xs x (k, within, at) = (k, omega (arith, within, length-map xs f), get_or-map f xs k x (f x) within ∙ ap f at)

pub Contains-from_image : {X Y : Type 0} (f : X → Y) (xs : List X) (y : Y) → Contains (map f xs) y → (x : X) × Contains xs x × (y ≡ f x)
Contains-from_image f [] y (k, within, at) = absurd (omega (arith, within))
Contains-from_image f (x ∷ xs) y (zero, within, at) = (x, Contains-front x xs, sym at)
Contains-from_image f (x ∷ xs) y (suc k, within, at) =
    let found = Contains-from_image f xs y (k, omega (arith, within), at) in
    (found.0, Contains-later x xs found.0 found.1, found.2)

-- the only member
pub Contains-one : {A : Type 0} (y x : A) → Contains (y ∷ []) x → y ≡ x
Contains-one y x (zero, within, at) = at
Contains-one y x (suc k, within, at) = absurd (omega (arith, within))

-- what holds of the only member holds of all
pub All-alone : {A : Type 0} (P : A → Type 0) (x : A) → P x → All P (x ∷ [])
All-alone P x p zero d within = p
All-alone P x p (suc k) d within = absurd (omega (arith, within))

-- a test passes where a member does
pub list_any-member : {A : Type 0} (p : A → Bool) (xs : List A) (x : A) → Contains xs x → p x ≡ true → list_any p xs ≡ true
list_any-member p [] x (k, within, at) e = absurd (omega (arith, within))
list_any-member p (y ∷ xs) x (zero, within, at) e = or_left _ _ (ap p at ∙ e)
list_any-member p (y ∷ xs) x (suc k, within, at) e = or_right _ _ (list_any-member p xs x (k, omega (arith, within), at) e)

-- and at a member
pub list_any-find : {A : Type 0} (p : A → Bool) (xs : List A) → list_any p xs ≡ true → (x : A) × Contains xs x × (p x ≡ true)
list_any-find p [] e = cc
list_any-find p (y ∷ xs) e = elim (or_cases _ _ e) [
  | inl here ↦ (y, Contains-front y xs, here)
  | inr later ↦ (let found = list_any-find p xs later in (found.0, Contains-later y xs found.0 found.1, found.2))
]

-- so two lists with the same members pass the same tests
pub list_any-more : {A : Type 0} (p : A → Bool) (xs ys : List A) → ((x : A) → Contains xs x → Contains ys x) → list_any p xs ≡ true → list_any p ys ≡ true
list_any-more p xs ys more e = let found = list_any-find p xs e in list_any-member p ys found.0 (more found.0 found.1) found.2

-- what all pass each member does
pub list_all-member : {A : Type 0} (p : A → Bool) (xs : List A) (x : A) → Contains xs x → list_all p xs ≡ true → p x ≡ true
list_all-member p [] x (k, within, at) e = absurd (omega (arith, within))
list_all-member p (y ∷ xs) x (zero, within, at) e = sym (ap p at) ∙ (and_parts _ _ e).0
list_all-member p (y ∷ xs) x (suc k, within, at) e = list_all-member p xs x (k, omega (arith, within), at) (and_parts _ _ e).1

-- and all pass where each member does
pub list_all-members : {A : Type 0} (p : A → Bool) (xs : List A) → ((x : A) → Contains xs x → p x ≡ true) → list_all p xs ≡ true
list_all-members p [] each = refl
list_all-members p (y ∷ xs) each =
    and_from _ _ (each y (Contains-front y xs)) (list_all-members p xs (λ x here. each x (Contains-later y xs x here)))

-- the place of an image is that of what it is the image of
pub slice_get-from_map : {A B : Type 0} (f : A → B) (xs : List A) (k : ℕ) (y : B) → slice_get (map f xs) k ≡ Some y → (x : A) × (slice_get xs k ≡ Some x) × (f x ≡ y)
slice_get-from_map f [] k y e = cc
slice_get-from_map f (x ∷ xs) zero y e = (x, refl, (let same : f x ≡ y = cc in same))
slice_get-from_map f (x ∷ xs) (suc k) y e = slice_get-from_map f xs k y e

pub slice_get-to_map : {A B : Type 0} (f : A → B) (xs : List A) (k : ℕ) (x : A) → slice_get xs k ≡ Some x → slice_get (map f xs) k ≡ Some (f x)
slice_get-to_map f xs k x e = slice_get-map f xs k ∙ ap (option_map f) e

-- what stands at a place is a member, and each member stands at one
pub Contains-from_slice_get : {A : Type 0} (xs : List A) (k : ℕ) (x : A) → slice_get xs k ≡ Some x → Contains xs x
Contains-from_slice_get [] k x e = cc
Contains-from_slice_get (y ∷ xs) zero x e = (0, omega arith, (let same : y ≡ x = cc in same))
Contains-from_slice_get (y ∷ xs) (suc k) x e = Contains-later y xs x (Contains-from_slice_get xs k x e)

pub slice_get-within : {A : Type 0} (xs : List A) (k : ℕ) → k < length xs → (x : A) × (slice_get xs k ≡ Some x)
slice_get-within [] k h = absurd (omega (arith, h))
slice_get-within (y ∷ xs) zero h = (y, refl)
slice_get-within (y ∷ xs) (suc k) h = slice_get-within xs k (omega (arith, h))

pub slice_get-below : {A : Type 0} (xs : List A) (k : ℕ) (x : A) → slice_get xs k ≡ Some x → k < length xs
slice_get-below [] k x e = cc
slice_get-below (y ∷ xs) zero x e = omega arith
slice_get-below (y ∷ xs) (suc k) x e = (let h : k < length xs = slice_get-below xs k x e in omega (arith, h))

-- a filter that all pass keeps the list
pub filter-all : {A : Type 0} (xs : List A) → xs ≡ filter (λ _. true) xs
filter-all [] = refl
filter-all (x ∷ xs) = ap (λ ys. x ∷ ys) (filter-all xs)

-- a member of the front is one of the whole
pub Contains-take : {A : Type 0} (n : ℕ) (xs : List A) (x : A) → Contains (take n xs) x → Contains xs x
Contains-take n xs x (k, within, at) =
    let before : k < n = omega (arith, within, length-take n xs) in
    (k, omega (arith, within, length-take n xs), sym (get_or-take n xs k x before) ∙ at)

-- what stands behind a front stands at its length
pub slice_get-front : {A : Type 0} (front : List A) (x : A) (back : List A) → slice_get (front ++ x ∷ back) (length front) ≡ Some x
slice_get-front [] x back = refl
slice_get-front (y ∷ front) x back = slice_get-front front x back

-- the images of images
pub map-map : {A B C : Type 0} (g : B → C) (f : A → B) (xs : List A) → map g (map f xs) ≡ map (λ x. g (f x)) xs
map-map g f [] = refl
map-map g f (x ∷ xs) = ap (λ z. g (f x) ∷ z) (map-map g f xs)
