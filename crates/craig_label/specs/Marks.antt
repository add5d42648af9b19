-- Marks as labels.
use Rattle.craig_spec.specs.PartialInterpolant as labels
use Rattle.craig_spec.specs.PartialInterpolant.{Label}
use Rattle.craig_label.specs.declared.mark.Mark.{Mark}
use Rattle.craig_label.specs.declared.mark.Mark.TheVariants.{A, Ab, B}

-- the label that a mark gives
abbrev pub label_of : Mark → Label
label_of A = labels.A
label_of Ab = labels.AB
label_of B = labels.B
