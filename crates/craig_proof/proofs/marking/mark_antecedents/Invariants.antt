use Rattle.std.proofs.Common.{length}
use Rattle.craig_spec.specs.Chain.{Derived, antecedents}
use Rattle.craig_proof.proofs.MarkingLemmas.{LeftToMark}
use Rattle.craig_proof.proofs.marking.mark_antecedents.Given as goal

abbrev pub invariant-loop-step : goal.invariant-loop-step
invariant-loop-step l = LeftToMark l.fn.rows l.rows (antecedents (Derived l.fn.first.0 l.fn.rest)) l.left

abbrev pub decreases-loop-step : goal.decreases-loop-step
decreases-loop-step l = length l.left
