-- Clauses with the same literals have the same fingerprint.
use Rattle.std.proofs.Common.{◌≡◌, ◌≢◌, inl, inr, ℕ, suc, ◌+◌, ◌-◌, ◌%◌, ◌^◌, ◌<◌, [], ◌∷◌, length, get_or, AllPairs, Contains, refl, sym, ap, ◌∙◌, arith}
use Rattle.std.specs.List.{remove, sum_by}
use Rattle.std.proofs.lemmas.Bool.{cases_eq, cases_lt}
use Rattle.std.proofs.lemmas.List.{get_or_default}
use Rattle.std.proofs.lemmas.List.Edits.{get_or-remove_above, get_or-remove_below, length-remove}
use Rattle.std.proofs.lemmas.List.Quantifiers.{all_pairs_remove}
use Rattle.std.proofs.lemmas.List.Sums.{sum_by-cons, sum_by-remove}
use Rattle.craig_spec.specs.Literal.{Literal, Clause}
use Rattle.craig_spec.specs.Chain.{SameLiterals}
use Rattle.craig_spec.proofs.MemberLemmas.{Contains-cases, Contains-front, Contains-later}
use Rattle.craig_base.specs.Clauses.{IsNormal}
use Rattle.craig_search.specs.Fingerprint.{fingerprint_of, mixed_literal}

module _ (d : Clause) (x : Literal) (k : ℕ) (within : k < length d) (at : get_or d k x ≡ x) (distinct : AllPairs (λ l m. l ≢ m) d) where
  removed-has : (y : Literal) → Contains (remove d k) y → Contains d y × (x ≢ y)
  removed-has y (j, inside, is) =
      let size : length (remove d k) + 1 ≡ length d = length-remove d k within in
      let here : get_or d k y ≡ x = get_or_default d k y x within ∙ at in
      elim (cases_lt j k) [
        | inl low ↦
            let same : get_or d j y ≡ y = sym (get_or-remove_below d k y j low within) ∙ is in
            ((j, omega (arith, low, within), same), λ equal. distinct j k y low within (same ∙ sym equal ∙ sym here))
        | inr high ↦
            let same : get_or d (j + 1) y ≡ y = sym (get_or-remove_above d k y j high within) ∙ is in
            ((j + 1, omega (arith, size, inside), same), λ equal. distinct k (j + 1) y (omega (arith, high)) (omega (arith, size, inside)) (here ∙ equal ∙ sym same))
      ]

  others-stay : (y : Literal) → Contains d y → x ≢ y → Contains (remove d k) y
  others-stay y (j, inside, is) other =
      let size : length (remove d k) + 1 ≡ length d = length-remove d k within in
      elim (cases_lt j k) [
        | inl low ↦ (j, omega (arith, size, within, low), get_or-remove_below d k y j low within ∙ is)
        | inr high ↦ elim (cases_eq j k) [
          | inl same ↦ absurd (other (sym (get_or_default d k y x within ∙ at) ∙ ap (λ (n : ℕ). get_or d n y) (sym same) ∙ is))
          | inr differs ↦
              let back : (j - 1) + 1 ≡ j = omega (arith, high, differs) in
              (j - 1, omega (arith, size, inside, high, differs), get_or-remove_above d k y (j - 1) (omega (arith, high, differs)) within ∙ ap (λ (n : ℕ). get_or d n y) back ∙ is)
        ]
      ]

tail-pairs : (x : Literal) (c : Clause) → AllPairs (λ l m. l ≢ m) (x ∷ c) → AllPairs (λ l m. l ≢ m) c
tail-pairs x c pairs = λ i j e before inside. pairs (suc i) (suc j) e (omega (arith, before)) (omega (arith, inside))

head-differs : (x : Literal) (c : Clause) (y : Literal) → AllPairs (λ l m. l ≢ m) (x ∷ c) → Contains c y → x ≢ y
head-differs x c y pairs (j, inside, is) = λ equal. pairs 0 (suc j) y (omega arith) (omega (arith, inside)) (equal ∙ sym is)

-- sums over the literals of a clause don't depend on their order
sum-same : (f : Literal → ℕ) (c d : Clause) → AllPairs (λ l m. l ≢ m) c → AllPairs (λ l m. l ≢ m) d → SameLiterals c d → sum_by f c ≡ sum_by f d
sum-same f [] [] one other same = refl
sum-same f [] (y ∷ d) one other same = absurd (let p = (same y).1 (Contains-front y d) in omega (arith, p.1))
sum-same f (x ∷ c) d one other same =
    let p = (same x).0 (Contains-front x c) in
    let rest : SameLiterals c (remove d p.0) = λ l. (
      λ here. others-stay d x p.0 p.1 p.2 other l ((same l).0 (Contains-later x c l here)) (head-differs x c l one here),
      λ there.
          let q = removed-has d x p.0 p.1 p.2 other l there in
          elim (Contains-cases x c l ((same l).1 q.0)) [ inl is ↦ absurd (q.1 is) | inr in_rest ↦ in_rest ],
    ) in
    let tails : sum_by f c ≡ sum_by f (remove d p.0) = sum-same f c (remove d p.0) (tail-pairs x c one) (all_pairs_remove (λ (l m : Literal). l ≢ m) d p.0 p.1 other) rest in
    let whole : sum_by f (remove d p.0) + f (get_or d p.0 x) ≡ sum_by f d = sum_by-remove f d p.0 x p.1 in
    let first : f (get_or d p.0 x) ≡ f x = ap f p.2 in
    let cons : sum_by f (x ∷ c) ≡ f x + sum_by f c = sum_by-cons f x c in
    omega (arith, tails, whole, first, cons)

pub fingerprint-same : (c d : Clause) → IsNormal c → IsNormal d → SameLiterals c d → fingerprint_of c ≡ fingerprint_of d
unfolding fingerprint_of
fingerprint-same c d one other same = ap (λ (n : ℕ). n % 2 ^ 64) (sum-same mixed_literal c d one.distinct other.distinct same)
