use Rattle.std.proofs.Common.{map, reverse}
use Rattle.craig_proof.specs.Lent.{AreWithin, step_at}
use Rattle.craig_proof.specs.NeededSteps.{bound_of}
use Rattle.craig_proof.proofs.FindingLemmas.{IsFinding}
use Rattle.craig_proof.proofs.finding.needed_steps.Given as goal

-- what was found stands from the last step to the first
abbrev pub invariant-loop-place : goal.invariant-loop-place
invariant-loop-place l = record {
  finding : IsFinding l.steps l.fn.root.0 l.waiting (map (λ place. step_at l.steps place) (reverse l.found.items));
  within : AreWithin l.steps l.found.items;
}

abbrev pub decreases-loop-place : goal.decreases-loop-place
decreases-loop-place l = bound_of l.waiting.keys
