use Rattle.std.proofs.Common.{map}
use Rattle.craig_aiger_read.specs.ReadViews.{as_gate, as_operands}
use Rattle.craig_aiger_read.proofs.CircleLemmas.{SettledSoFar}
use Rattle.craig_aiger_read.proofs.depths.gate_depths.Given as goal

abbrev pub invariant-loop-gate : goal.invariant-loop-gate
invariant-loop-gate l = SettledSoFar l.first (map as_operands l.gates) (map as_gate l.lines) l.gate l.depths.items
