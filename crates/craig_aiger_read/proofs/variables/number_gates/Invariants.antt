use Rattle.std.proofs.Common.{◌/◌, ◌<◌, All, length, map}
use Rattle.craig_aiger_read.specs.declared.gate.Gate.{Gate}
use Rattle.craig_spec.specs.AigerReading.{gate_use}
use Rattle.craig_aiger_read.specs.declared.gate_line.GateLine.{GateLine}
use Rattle.craig_aiger_read.specs.ReadNumbers.{numbered_gate}
use Rattle.craig_aiger_read.specs.ReadViews.{as_gate, as_operands}
use Rattle.craig_aiger_read.proofs.NumberingLemmas.{NumberedSoFar}
use Rattle.craig_aiger_read.proofs.variables.number_gates.Given as goal

abbrev pub invariant-loop-gate : goal.invariant-loop-gate
invariant-loop-gate l =
    NumberedSoFar l.variables.keys (λ (g : GateLine). gate_use (as_gate g)) (numbered_gate l.variables.keys) l.gates l.gate-index (map as_operands l.numbered.items)
    × All (λ (g : Gate). (g.left / 2 < length l.variables.keys) × (g.right / 2 < length l.variables.keys)) l.numbered.items
