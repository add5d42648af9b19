-- A list of truth values says the same as its assignment.
use Rattle.std.proofs.Common.{◌≡◌, ℕ, suc, zero, ◌+◌, ◌<◌, Bool, true, false, ◌||◌, List, [], ◌∷◌, get_or, refl, ap, ◌∙◌, arith}
use Rattle.std.proofs.lemmas.Bool.{eq-eqb, ne_eqb}
use Rattle.craig_spec.specs.Truth.{variable_value}
use Rattle.craig_base.specs.Values.{trues_from, assignment_of_values}

below-first : (x y : ℕ) (values : List Bool) → y < x → variable_value (trues_from x values) y ≡ false
below-first x y [] low = refl
below-first x y (true ∷ values) low =
    ap (λ (b : Bool). b || variable_value (trues_from (suc x) values) y) (ne_eqb y x (λ e. omega arith)) ∙ below-first (suc x) y values (omega arith)
below-first x y (false ∷ values) low = below-first (suc x) y values (omega arith)

at-offset : (x k y : ℕ) (values : List Bool) → x + k ≡ y → variable_value (trues_from x values) y ≡ get_or values k false
at-offset x k y [] is = refl
at-offset x zero y (true ∷ values) is = ap (λ (b : Bool). b || variable_value (trues_from (suc x) values) y) (eq-eqb y x (omega arith))
at-offset x (suc k) y (true ∷ values) is =
    ap (λ (b : Bool). b || variable_value (trues_from (suc x) values) y) (ne_eqb y x (λ e. omega arith)) ∙ at-offset (suc x) k y values (omega arith)
at-offset x zero y (false ∷ values) is = below-first (suc x) y values (omega arith)
at-offset x (suc k) y (false ∷ values) is = at-offset (suc x) k y values (omega arith)

pub variable_value-values : (values : List Bool) (x : ℕ) → variable_value (assignment_of_values values) x ≡ get_or values x false
variable_value-values values x = at-offset 0 x x values (omega arith)
