-- The assignment that a list of bits stands for gives each variable its bit.
use Rattle.std.proofs.Common.{◌≡◌, ◌≢◌, ℕ, zero, suc, ◌+◌, ◌<◌, ◌≤◌, Bool, true, false, cond, ◌&&◌, ◌||◌, eqb, List, ◌∷◌, length, get_or, inl, inr, refl, sym, ap, ◌∙◌, arith, ne_eqb, eq-eqb}
use Rattle.std.specs.List.{list_any, filter, range_with_len}
use Rattle.std.proofs.lemmas.Bool.{cases_lt, cases_eq}
use Rattle.std.proofs.lemmas.List.{get_or_past}
use Rattle.craig_spec.specs.Truth.{variable_value}
use Rattle.craig_aig.specs.Values.{true_variables}

any_kept : (x a : ℕ) (b : Bool) (rest : List ℕ) → list_any (eqb x) (cond b (a ∷ rest) rest) ≡ ((b && eqb x a) || list_any (eqb x) rest)
any_kept x a true rest = refl
any_kept x a false rest = refl

no : (b : Bool) → ((b && false) || false) ≡ false
no true = refl
no false = refl

yes : (b : Bool) → ((b && true) || false) ≡ b
yes true = refl
yes false = refl

skipped : (b c : Bool) → ((b && false) || c) ≡ c
skipped true c = refl
skipped false c = refl

-- a variable that the range leaves out
left_out : (p : ℕ → Bool) (x a n : ℕ) → ((k : ℕ) → a ≤ k → k < a + n → x ≢ k) → list_any (eqb x) (filter p (range_with_len a n)) ≡ false
left_out p x a zero h = refl
left_out p x a (suc n) h =
    let differs : eqb x a ≡ false = ne_eqb x a (h a (omega arith) (omega arith)) in
    let rest : list_any (eqb x) (filter p (range_with_len (a + 1) n)) ≡ false = left_out p x (a + 1) n (λ k low high. h k (omega arith) (omega arith)) in
    any_kept x a (p a) (filter p (range_with_len (a + 1) n)) ∙ ap (λ b. (p a && b) || list_any (eqb x) (filter p (range_with_len (a + 1) n))) differs ∙ ap (λ b. (p a && false) || b) rest ∙ no (p a)

-- a variable in the range
let_in : (p : ℕ → Bool) (x a n : ℕ) → a ≤ x → x < a + n → list_any (eqb x) (filter p (range_with_len a n)) ≡ p x
let_in p x a zero low high = absurd (omega arith)
let_in p x a (suc n) low high =
    let rest : List ℕ = filter p (range_with_len (a + 1) n) in
    elim (cases_eq x a) [
      | inl e ↦
          let same : eqb x a ≡ true = eq-eqb x a e in
          let none : list_any (eqb x) rest ≡ false = left_out p x (a + 1) n (λ k l h. λ is. omega arith) in
          any_kept x a (p a) rest ∙ ap (λ b. (p a && b) || list_any (eqb x) rest) same ∙ ap (λ b. (p a && true) || b) none ∙ yes (p a) ∙ ap p (sym e)
      | inr ne ↦
          let differs : eqb x a ≡ false = ne_eqb x a ne in
          any_kept x a (p a) rest ∙ ap (λ b. (p a && b) || list_any (eqb x) rest) differs ∙ skipped (p a) (list_any (eqb x) rest) ∙ let_in p x (a + 1) n (omega arith) (omega arith)
    ]

pub variable_value-true_variables : (bits : List Bool) (x : ℕ) → variable_value (true_variables bits) x ≡ get_or bits x false
variable_value-true_variables bits x =
    elim (cases_lt x (length bits)) [
      | inl lt ↦ let_in (λ y. get_or bits y false) x 0 (length bits) (omega arith) (omega arith)
      | inr ge ↦ left_out (λ y. get_or bits y false) x 0 (length bits) (λ k low high. λ e. omega arith) ∙ sym (get_or_past bits x false ge)
    ]
