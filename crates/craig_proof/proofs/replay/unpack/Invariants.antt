use Rattle.std.proofs.Common.{◌≡◌, ◌++◌, length}
use Rattle.craig_proof.specs.Tracer.{chain_of}
use Rattle.craig_proof.proofs.replay.unpack.Given as goal

abbrev pub invariant-loop-step : goal.invariant-loop-step
invariant-loop-step l = chain_of l.into.items ++ l.left ≡ l.initial.left

abbrev pub decreases-loop-step : goal.decreases-loop-step
decreases-loop-step l = length l.left
