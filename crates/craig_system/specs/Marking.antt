-- Tables of marks, seen as the label of each variable.
use Rattle.std.specs.Prelude.{ℕ, List, [], ◌∷◌, nat_eq, if◌then◌else◌}
use Rattle.craig_base.specs.declared.variable.Var.{Var}
use Rattle.craig_spec.specs.PartialInterpolant.{Label, AB}
use Rattle.craig_label.specs.Marks.{label_of}
use Rattle.craig_label.specs.declared.mark.Mark.{Mark}

-- the labels by a list of variables with their marks: AB where a variable has none
abbrev pub labels_in : List (Var × Mark) → ℕ → Label
labels_in [] x = AB
labels_in (entry ∷ entries) x = if nat_eq x entry.0.0 then label_of entry.1 else labels_in entries x

-- the labels, but for that of one variable
abbrev pub with_label : (ℕ → Label) → ℕ → Label → ℕ → Label
with_label labels x label y = if nat_eq x y then label else labels y
