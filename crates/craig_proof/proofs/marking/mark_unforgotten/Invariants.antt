use Rattle.std.proofs.Common.{◌≡◌, ◌++◌, take, drop, map}
use Rattle.craig_proof.specs.Reclaiming.{marked_unless_forgotten}
use Rattle.craig_proof.proofs.marking.mark_unforgotten.Given as goal

abbrev pub invariant-loop-place : goal.invariant-loop-place
invariant-loop-place l = l.rows ≡ map marked_unless_forgotten (take l.place l.fn.rows) ++ drop l.place l.fn.rows
