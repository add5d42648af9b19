use Rattle.std.proofs.Common.{◌+◌, ◌-◌, ◌*◌, length, map}
use Rattle.craig_aiger_read.specs.ReadDepths.{known_count}
use Rattle.craig_aiger_read.specs.ReadViews.{as_operands}
use Rattle.craig_aiger_read.proofs.SettleLemmas.{Settling}
use Rattle.craig_aiger_read.proofs.depths.settle.Given as goal

abbrev pub invariant-loop-gate : goal.invariant-loop-gate
invariant-loop-gate l = Settling l.first (map as_operands l.gates) l.fn.depths l.root l.stack.items l.depths

-- each round a gate more waits, or one more is known
abbrev pub decreases-loop-gate : goal.decreases-loop-gate
decreases-loop-gate l = (length l.gates - known_count l.depths) * (length l.gates + 1) + (length l.gates - length l.stack.items)
