-- Clauses two of whose literals change their places.
use Rattle.std.proofs.Common.{◌≡◌, ◌≢◌, ◌⊎◌, inl, inr, ℕ, suc, ◌<◌, ◌≤◌, Bool, true, false, cond, eqb, List, [], ◌∷◌, length, get_or, set, swap, AllPairs, Contains, refl, sym, ap, ◌∙◌, arith, eqb-true}
use Rattle.std.proofs.lemmas.Bool.{eqb-false}
use Rattle.std.proofs.lemmas.Bool.Decides.{leb_tells}
use Rattle.std.proofs.lemmas.List.{length-set, get_or-set_same, get_or-set_other, get_or_default}
use Rattle.std.proofs.lemmas.List.Edits.{length-swap}
use Rattle.craig_spec.specs.Literal.{Literal, Clause, negation}
use Rattle.craig_spec.specs.Chain.{SameLiterals}
use Rattle.craig_base.specs.Clauses.{IsNormal}
use Rattle.craig_watch.specs.Watches.{IsWatch}

-- where the element at a place stood before
abbrev pub exchanged : ℕ → ℕ → ℕ → ℕ
exchanged i j k = cond (eqb k i) j (cond (eqb k j) i k)

at-cases : {X : Type 0} (b e : Bool) (x : X) (xs : List X) (i j k : ℕ) (d : X) → eqb k i ≡ b → eqb k j ≡ e → i < length (x ∷ xs) → j < length (x ∷ xs) → k < length (x ∷ xs) → get_or (set (set (x ∷ xs) i (get_or (x ∷ xs) j x)) j (get_or (x ∷ xs) i x)) k d ≡ get_or (x ∷ xs) (cond b j (cond e i k)) d
at-cases true true x xs i j k d is too low_i low_j low_k =
    let one : k ≡ i = eqb-true k i is in
    let two : k ≡ j = eqb-true k j too in
    let same : i ≡ j = omega arith in
    let first = set (x ∷ xs) i (get_or (x ∷ xs) j x) in
    let long : length first ≡ length (x ∷ xs) = length-set (x ∷ xs) i (get_or (x ∷ xs) j x) in
    ap (λ (n : ℕ). get_or (set first j (get_or (x ∷ xs) i x)) n d) two ∙ get_or-set_same first j (get_or (x ∷ xs) i x) d (omega arith) ∙ ap (λ (n : ℕ). get_or (x ∷ xs) n x) same ∙ get_or_default (x ∷ xs) j x d low_j
at-cases true false x xs i j k d is too low_i low_j low_k =
    let one : k ≡ i = eqb-true k i is in
    let first = set (x ∷ xs) i (get_or (x ∷ xs) j x) in
    get_or-set_other first j k (get_or (x ∷ xs) i x) d (eqb-false k j too) ∙ ap (λ (n : ℕ). get_or first n d) one ∙ get_or-set_same (x ∷ xs) i (get_or (x ∷ xs) j x) d low_i ∙ get_or_default (x ∷ xs) j x d low_j
at-cases false true x xs i j k d is too low_i low_j low_k =
    let two : k ≡ j = eqb-true k j too in
    let first = set (x ∷ xs) i (get_or (x ∷ xs) j x) in
    let long : length first ≡ length (x ∷ xs) = length-set (x ∷ xs) i (get_or (x ∷ xs) j x) in
    ap (λ (n : ℕ). get_or (set first j (get_or (x ∷ xs) i x)) n d) two ∙ get_or-set_same first j (get_or (x ∷ xs) i x) d (omega arith) ∙ get_or_default (x ∷ xs) i x d low_i
at-cases false false x xs i j k d is too low_i low_j low_k =
    let first = set (x ∷ xs) i (get_or (x ∷ xs) j x) in
    get_or-set_other first j k (get_or (x ∷ xs) i x) d (eqb-false k j too) ∙ get_or-set_other (x ∷ xs) i k (get_or (x ∷ xs) j x) d (eqb-false k i is)

-- an element after the exchange
pub swap-at : {X : Type 0} (xs : List X) (i j k : ℕ) (d : X) → i < length xs → j < length xs → k < length xs → get_or (swap xs i j) k d ≡ get_or xs (exchanged i j k) d
swap-at [] i j k d low_i low_j low_k = absurd (omega arith)
swap-at (x ∷ xs) i j k d low_i low_j low_k = at-cases (eqb k i) (eqb k j) x xs i j k d refl refl low_i low_j low_k

within-cases : (b e : Bool) (i j k n : ℕ) → i < n → j < n → k < n → cond b j (cond e i k) < n
within-cases true e i j k n low_i low_j low_k = low_j
within-cases false true i j k n low_i low_j low_k = low_i
within-cases false false i j k n low_i low_j low_k = low_k

pub exchanged-within : (i j k n : ℕ) → i < n → j < n → k < n → exchanged i j k < n
exchanged-within i j k n low_i low_j low_k = within-cases (eqb k i) (eqb k j) i j k n low_i low_j low_k

-- the place where it stands now
which : (b e : Bool) (i j k : ℕ) → eqb k i ≡ b → eqb k j ≡ e → ((k ≡ i) × (cond b j (cond e i k) ≡ j)) ⊎ (((k ≡ j) × (cond b j (cond e i k) ≡ i)) ⊎ ((k ≢ i) × (k ≢ j) × (cond b j (cond e i k) ≡ k)))
which true e i j k is too = inl (eqb-true k i is, refl)
which false true i j k is too = inr (inl (eqb-true k j too, refl))
which false false i j k is too = inr (inr (eqb-false k i is, eqb-false k j too, refl))

pub exchanged-cases : (i j k : ℕ) → ((k ≡ i) × (exchanged i j k ≡ j)) ⊎ (((k ≡ j) × (exchanged i j k ≡ i)) ⊎ ((k ≢ i) × (k ≢ j) × (exchanged i j k ≡ k)))
exchanged-cases i j k = which (eqb k i) (eqb k j) i j k refl refl

pub exchanged-twice : (i j k : ℕ) → exchanged i j (exchanged i j k) ≡ k
exchanged-twice i j k =
    elim (exchanged-cases i j k) [
      | inl first ↦ elim (exchanged-cases i j (exchanged i j k)) [
        | inl one ↦ (let a = first.0 in let b = first.1 in let c = one.0 in let e = one.1 in omega arith)
        | inr rest ↦ elim rest [
          | inl two ↦ (let a = first.0 in let b = first.1 in let c = two.0 in let e = two.1 in omega arith)
          | inr none ↦ absurd (none.1 first.1)
        ]
      ]
      | inr rest ↦ elim rest [
        | inl second ↦ elim (exchanged-cases i j (exchanged i j k)) [
          | inl one ↦ (let a = second.0 in let b = second.1 in let c = one.0 in let e = one.1 in omega arith)
          | inr rest ↦ elim rest [
            | inl two ↦ (let a = second.0 in let b = second.1 in let c = two.0 in let e = two.1 in omega arith)
            | inr none ↦ absurd (none.0 second.1)
          ]
        ]
        | inr none ↦ ap (exchanged i j) none.2 ∙ none.2
      ]
    ]

-- the same elements in another order
swapped-has : {X : Type 0} (xs : List X) (i j : ℕ) (x : X) → i < length xs → j < length xs → Contains xs x → Contains (swap xs i j) x
swapped-has xs i j x low_i low_j (k, within, at) =
    let long : length (swap xs i j) ≡ length xs = length-swap xs i j in
    let low : exchanged i j k < length xs = exchanged-within i j k (length xs) low_i low_j within in
    (exchanged i j k, omega arith, swap-at xs i j (exchanged i j k) x low_i low_j low ∙ ap (λ (n : ℕ). get_or xs n x) (exchanged-twice i j k) ∙ at)

had-before : {X : Type 0} (xs : List X) (i j : ℕ) (x : X) → i < length xs → j < length xs → Contains (swap xs i j) x → Contains xs x
had-before xs i j x low_i low_j (k, within, at) =
    let long : length (swap xs i j) ≡ length xs = length-swap xs i j in
    let low : exchanged i j k < length xs = exchanged-within i j k (length xs) low_i low_j (omega arith) in
    (exchanged i j k, low, sym (swap-at xs i j k x low_i low_j (omega arith)) ∙ at)

pub SameLiterals-swap : (c : Clause) (i j : ℕ) → i < length c → j < length c → SameLiterals c (swap c i j)
SameLiterals-swap c i j low_i low_j l = (swapped-has c i j l low_i low_j, had-before c i j l low_i low_j)

less-or-more : (i j : ℕ) → i ≢ j → (i < j) ⊎ (j < i)
less-or-more i j ne =
    elim (leb_tells (suc i) j) [
      | inl less ↦ inl (let p : suc i ≤ j = less.1 in omega arith)
      | inr more ↦ inr (let p : j < suc i = more.1 in omega (arith, ne))
    ]

-- elements at different places differ
pub differ-at : {X : Type 0} (xs : List X) (i j : ℕ) (d : X) → AllPairs (λ x y. x ≢ y) xs → i < length xs → j < length xs → i ≢ j → get_or xs i d ≢ get_or xs j d
differ-at xs i j d apart low_i low_j ne same =
    elim (less-or-more i j ne) [
      | inl less ↦ apart i j d less low_j same
      | inr more ↦ apart j i d more low_i (sym same)
    ]

pub distinct-swap : (c : Clause) (i j : ℕ) → i < length c → j < length c → AllPairs (λ x y. x ≢ y) c → AllPairs (λ x y. x ≢ y) (swap c i j)
distinct-swap c i j low_i low_j apart m n d before within same =
    let long : length (swap c i j) ≡ length c = length-swap c i j in
    let low_m : m < length c = omega arith in
    let low_n : n < length c = omega arith in
    let ne : exchanged i j m ≢ exchanged i j n = λ e. (let is : m ≡ n = sym (exchanged-twice i j m) ∙ ap (exchanged i j) e ∙ exchanged-twice i j n in omega arith) in
    differ-at c (exchanged i j m) (exchanged i j n) d apart (exchanged-within i j m (length c) low_i low_j low_m) (exchanged-within i j n (length c) low_i low_j low_n) ne
    (sym (swap-at c i j m d low_i low_j low_m) ∙ same ∙ swap-at c i j n d low_i low_j low_n)

pub IsNormal-swap : (c : Clause) (i j : ℕ) → i < length c → j < length c → IsNormal c → IsNormal (swap c i j)
IsNormal-swap c i j low_i low_j ok = record {
  distinct = distinct-swap c i j low_i low_j ok.distinct;
  not_tautology = λ (l, one, two). ok.not_tautology (l, had-before c i j l low_i low_j one, had-before c i j (negation l) low_i low_j two);
}

-- the first two change places
pub IsWatch-exchanged : (c : Clause) (i j : ℕ) (l : Literal) → i < 2 → j < 2 → i < length c → j < length c → IsWatch c l → IsWatch (swap c i j) l
IsWatch-exchanged c i j l first_i first_j low_i low_j w =
    let long : length (swap c i j) ≡ length c = length-swap c i j in
    let two = w.long in
    let f = w.first in
    let low : exchanged i j w.place < length c = exchanged-within i j w.place (length c) low_i low_j (omega arith) in
    record {
      long = omega arith;
      place = exchanged i j w.place;
      first = exchanged-within i j w.place 2 first_i first_j w.first;
      at = swap-at c i j (exchanged i j w.place) l low_i low_j low ∙ ap (λ (n : ℕ). get_or c n l) (exchanged-twice i j w.place) ∙ w.at;
    }

pub IsWatch-exchanged_before : (c : Clause) (i j : ℕ) (l : Literal) → i < 2 → j < 2 → i < length c → j < length c → IsWatch (swap c i j) l → IsWatch c l
IsWatch-exchanged_before c i j l first_i first_j low_i low_j w =
    let long : length (swap c i j) ≡ length c = length-swap c i j in
    let two = w.long in
    let f = w.first in
    record {
      long = omega arith;
      place = exchanged i j w.place;
      first = exchanged-within i j w.place 2 first_i first_j w.first;
      at = sym (swap-at c i j w.place l low_i low_j (omega arith)) ∙ w.at;
    }

-- one of the first two changes places with a later one
pub IsWatch-new : (c : Clause) (i j : ℕ) (l : Literal) → i < 2 → 2 ≤ j → j < length c → get_or c j l ≡ l → IsWatch (swap c i j) l
IsWatch-new c i j l first later within is =
    let long : length (swap c i j) ≡ length c = length-swap c i j in
    record {
      long = omega arith;
      place = i;
      first = first;
      at = swap-at c i j i l (omega arith) within (omega arith) ∙ elim (exchanged-cases i j i) [
        | inl one ↦ ap (λ (n : ℕ). get_or c n l) one.1 ∙ is
        | inr rest ↦ elim rest [ inl two ↦ absurd (let e = two.0 in omega arith) | inr none ↦ absurd (none.0 refl) ]
      ];
    }

pub IsWatch-kept : (c : Clause) (i j : ℕ) (l : Literal) → i < 2 → 2 ≤ j → j < length c → IsWatch c l → get_or c i l ≢ l → IsWatch (swap c i j) l
IsWatch-kept c i j l first later within w ne =
    let long : length (swap c i j) ≡ length c = length-swap c i j in
    let f = w.first in
    record {
      long = omega arith;
      place = w.place;
      first = w.first;
      at = swap-at c i j w.place l (omega arith) within (omega arith) ∙ elim (exchanged-cases i j w.place) [
        | inl one ↦ absurd (ne (ap (λ (n : ℕ). get_or c n l) (sym one.0) ∙ w.at))
        | inr rest ↦ elim rest [ inl two ↦ absurd (let e = two.0 in omega arith) | inr none ↦ ap (λ (n : ℕ). get_or c n l) none.2 ∙ w.at ]
      ];
    }

pub IsWatch-moved : (c : Clause) (i j : ℕ) (l : Literal) → i < 2 → 2 ≤ j → j < length c → AllPairs (λ x y. x ≢ y) c → IsWatch (swap c i j) l → (get_or c j l ≡ l) ⊎ (IsWatch c l × (get_or c i l ≢ l))
IsWatch-moved c i j l first later within apart w =
    let long : length (swap c i j) ≡ length c = length-swap c i j in
    let f = w.first in
    let at : get_or c (exchanged i j w.place) l ≡ l = sym (swap-at c i j w.place l (omega arith) within (omega arith)) ∙ w.at in
    elim (exchanged-cases i j w.place) [
      | inl one ↦ inl (ap (λ (n : ℕ). get_or c n l) (sym one.1) ∙ at)
      | inr rest ↦ elim rest [
        | inl two ↦ absurd (let e = two.0 in omega arith)
        | inr none ↦
            let here : get_or c w.place l ≡ l = ap (λ (n : ℕ). get_or c n l) (sym none.2) ∙ at in
            inr (record { long = omega arith; place = w.place; first = w.first; at = here }, λ e. differ-at c w.place i l apart (omega arith) (omega arith) none.0 (here ∙ sym e))
      ]
    ]
