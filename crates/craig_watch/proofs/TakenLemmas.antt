-- Lists from which an element was taken, the last one put in its place.
use Rattle.std.proofs.Common.{◌≡◌, ◌≢◌, ◌⊎◌, inl, inr, ℕ, ◌<◌, Bool, true, false, eqb, List, length, get_or, AllPairs, Contains, refl, sym, ap, ◌∙◌, arith, eqb-true}
use Rattle.std.proofs.lemmas.Bool.{eqb-false}
use Rattle.craig_watch.specs.Watches.{IsTakenOut}
use Rattle.craig_watch.proofs.SwapLemmas.{differ-at}

-- where an element stood before
taken-cases : {X : Type 0} (b : Bool) (index : ℕ) (xs ys : List X) (k : ℕ) → eqb k index ≡ b → IsTakenOut index xs ys → index < length xs → k < length ys → (j : ℕ) × (j < length xs) × (j ≢ index) × ((d : X) → get_or ys k d ≡ get_or xs j d) × (((k ≢ index) × (j ≡ k)) ⊎ ((k ≡ index) × (j ≡ length ys)))
taken-cases true index xs ys k is h low within =
    let same : k ≡ index = eqb-true k index is in
    let less = h.less in
    (length ys, omega arith, (λ e. (let p : length ys ≡ index = e in omega arith)), (λ d. ap (λ (n : ℕ). get_or ys n d) same ∙ h.last d (omega arith)), inr (same, refl))
taken-cases false index xs ys k is h low within =
    let less = h.less in
    (k, omega arith, eqb-false k index is, (λ d. h.rest k d (eqb-false k index is) within), inl (eqb-false k index is, refl))

pub taken-from : {X : Type 0} (index : ℕ) (xs ys : List X) (k : ℕ) → IsTakenOut index xs ys → index < length xs → k < length ys → (j : ℕ) × (j < length xs) × (j ≢ index) × ((d : X) → get_or ys k d ≡ get_or xs j d) × (((k ≢ index) × (j ≡ k)) ⊎ ((k ≡ index) × (j ≡ length ys)))
taken-from index xs ys k h low within = taken-cases (eqb k index) index xs ys k refl h low within

-- what is left was there, and is another element
pub Contains-taken : {X : Type 0} (index : ℕ) (xs ys : List X) (x : X) → IsTakenOut index xs ys → index < length xs → AllPairs (λ a b. a ≢ b) xs → Contains ys x → Contains xs x × (get_or xs index x ≢ x)
Contains-taken index xs ys x h low apart (k, within, at) =
    let f = taken-from index xs ys k h low within in
    let here : get_or xs f.0 x ≡ x = sym (f.3 x) ∙ at in
    ((f.0, f.1, here), λ e. differ-at xs f.0 index x apart f.1 low f.2 (here ∙ sym e))

-- and what was there and is another element is left
left-cases : {X : Type 0} (b : Bool) (index : ℕ) (xs ys : List X) (x : X) (j : ℕ) → eqb j (length ys) ≡ b → IsTakenOut index xs ys → index < length xs → j < length xs → get_or xs j x ≡ x → get_or xs index x ≢ x → Contains ys x
left-cases true index xs ys x j is h low within at ne =
    let same : j ≡ length ys = eqb-true j (length ys) is in
    let less = h.less in
    let other : index ≢ j = λ e. ne (ap (λ (n : ℕ). get_or xs n x) e ∙ at) in
    let short : index < length ys = omega (arith, other) in
    (index, short, h.last x short ∙ ap (λ (n : ℕ). get_or xs n x) (sym same) ∙ at)
left-cases false index xs ys x j is h low within at ne =
    let less = h.less in
    let not_last : j ≢ length ys = eqb-false j (length ys) is in
    let short : j < length ys = omega (arith, not_last) in
    (j, short, h.rest j x (λ e. ne (ap (λ (n : ℕ). get_or xs n x) (sym e) ∙ at)) short ∙ at)

pub Contains-left : {X : Type 0} (index : ℕ) (xs ys : List X) (x : X) → IsTakenOut index xs ys → index < length xs → Contains xs x → get_or xs index x ≢ x → Contains ys x
Contains-left index xs ys x h low (j, within, at) ne = left-cases (eqb j (length ys)) index xs ys x j refl h low within at ne

places-differ : (m n index i j last : ℕ) → m < n → n < last → i ≡ j → ((m ≢ index) × (i ≡ m)) ⊎ ((m ≡ index) × (i ≡ last)) → ((n ≢ index) × (j ≡ n)) ⊎ ((n ≡ index) × (j ≡ last)) → ⊥
places-differ m n index i j last before within e (inl a) (inl b) = (let p = a.1 in let q = b.1 in omega arith)
places-differ m n index i j last before within e (inl a) (inr b) = (let p = a.1 in let q = b.1 in omega arith)
places-differ m n index i j last before within e (inr a) (inl b) = (let p = a.1 in let q = b.1 in omega arith)
places-differ m n index i j last before within e (inr a) (inr b) = (let p = a.0 in let q = b.0 in omega arith)

-- no element stands twice
pub distinct-taken : {X : Type 0} (index : ℕ) (xs ys : List X) → IsTakenOut index xs ys → index < length xs → AllPairs (λ a b. a ≢ b) xs → AllPairs (λ a b. a ≢ b) ys
distinct-taken index xs ys h low apart m n d before within same =
    let f = taken-from index xs ys m h low (omega arith) in
    let g = taken-from index xs ys n h low within in
    differ-at xs f.0 g.0 d apart f.1 g.1 (λ e. places-differ m n index f.0 g.0 (length ys) before within e f.4 g.4) (sym (f.3 d) ∙ same ∙ g.3 d)
