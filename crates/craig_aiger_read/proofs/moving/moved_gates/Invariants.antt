use Rattle.std.proofs.Common.{◌≡◌, map, take}
use Rattle.craig_aiger_read.specs.ReadOrder.{gate_moved_by}
use Rattle.craig_aiger_read.specs.ReadViews.{as_operands}
use Rattle.craig_aiger_read.proofs.moving.moved_gates.Given as goal

abbrev pub invariant-loop-gate : goal.invariant-loop-gate
invariant-loop-gate l = map as_operands l.sorted.items ≡ map (gate_moved_by l.first l.variables (map as_operands l.gates)) (take l.gate-index l.order)
