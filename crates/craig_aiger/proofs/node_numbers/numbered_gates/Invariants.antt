use Rattle.std.proofs.Common.{◌≡◌, map, take}
use Rattle.std.specs.List.{filter_map}
use Rattle.craig_aiger.specs.Layouts.{node_operands, gate_literals}
use Rattle.craig_aiger.proofs.node_numbers.numbered_gates.Given as goal

abbrev pub invariant-loop-node : goal.invariant-loop-node
invariant-loop-node l = l.gates.items ≡ map (gate_literals l.numbers) (filter_map node_operands (take l.node-index l.table))
