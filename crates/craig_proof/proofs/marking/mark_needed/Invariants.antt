use Rattle.std.proofs.Common.{List, ◌≤◌, length}
use Rattle.craig_spec.specs.Chain.{ToldStep}
use Rattle.craig_proof.specs.Reclaiming.{AreMarkedFrom, AreSameRows, HaveChains}
use Rattle.craig_proof.proofs.marking.mark_needed.Given as goal

abbrev pub invariant-loop-place : goal.invariant-loop-place
invariant-loop-place l = record {
  within : l.place ≤ length l.fn.rows;
  same : AreSameRows l.fn.rows l.rows;
  marked : (steps : List ToldStep) → HaveChains l.fn.rows l.bytes steps → AreMarkedFrom steps l.rows l.place;
}

abbrev pub decreases-loop-place : goal.decreases-loop-place
decreases-loop-place l = l.place
