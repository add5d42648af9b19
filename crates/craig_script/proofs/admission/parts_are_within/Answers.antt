use Rattle.std.proofs.Common.{◌∙◌, sym, ap}
use Rattle.craig_script.specs.Reading.{are_parts_within}
use Rattle.craig_script.proofs.admission.parts_are_within.Goals as goal

pub returns-in-Solve : goal.returns-in-Solve
returns-in-Solve c = c.each_part_is_within.ensures ∙ rw c.as_slice.ensures (ap (are_parts_within c.args.parts) (sym c.in-Solve.is))
