-- A list of truth values, the value of variable i at place i, as an assignment.
use Rattle.std.specs.Prelude.{ℕ, suc, Bool, true, false, List, [], ◌∷◌}
use Rattle.craig_spec.specs.Truth.{Assignment}

-- the variables that are true, where the first value is that of this variable
abbrev pub trues_from : ℕ → List Bool → Assignment
trues_from x [] = []
trues_from x (true ∷ values) = x ∷ trues_from (suc x) values
trues_from x (false ∷ values) = trues_from (suc x) values

-- the variables that are true; one without a value is false
abbrev pub assignment_of_values : List Bool → Assignment
assignment_of_values values = trues_from 0 values
