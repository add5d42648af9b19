-- Lines with the numbers of their variables.
use Rattle.std.specs.Prelude.{ℕ, ◌/◌, ◌<◌, if◌then◌else◌, List, map, find, Option, Some, None, Result, Ok}
use Rattle.std.specs.Option.{option_map}
use Rattle.craig_spec.specs.AigerFault.{Fault, FaultKind}
use Rattle.craig_spec.specs.AigerReading.{Use, gate_use, latch_use, numbered, root_use, unless_found, uses_other}
use Rattle.craig_spec.specs.Circuit as circuit
use Rattle.craig_aiger_read.specs.ReadViews.{as_gate, as_latch, as_root}
use Rattle.craig_aiger_read.specs.declared.gate.Gate.{Gate}
use Rattle.craig_aiger_read.specs.declared.gate_line.GateLine.{GateLine}
use Rattle.craig_aiger_read.specs.declared.latch_line.LatchLine.{LatchLine}
use Rattle.craig_aiger_read.specs.declared.root_line.RootLine.{RootLine}

-- what is made of each line, or the first that uses what is none of the variables
abbrev pub lines_numbered : {L X : Type 0} → List ℕ → (L → Use) → (L → X) → List L → Result (List X) Fault
lines_numbered variables use_of make lines =
    unless_found FaultKind.Undefined (option_map (λ (u : Use). u.offset) (find (uses_other variables) (map use_of lines))) (Ok (map make lines))

-- the next literals of the latches, with the numbers of their variables
abbrev pub latches_numbered : List ℕ → List LatchLine → Result (List ℕ) Fault
latches_numbered variables lines = lines_numbered variables (λ l. latch_use (as_latch l)) (λ l. numbered variables l.next) lines

-- the outputs or the bad literals, with the numbers of their variables
abbrev pub roots_numbered : List ℕ → List RootLine → Result (List ℕ) Fault
roots_numbered variables lines = lines_numbered variables (λ r. root_use (as_root r)) (λ r. numbered variables r.literal) lines

-- the gate of a line
abbrev pub numbered_gate : List ℕ → GateLine → circuit.Gate
numbered_gate variables g = record { left = numbered variables g.left; right = numbered variables g.right }

-- the gate of a line, if its operands are of these variables
abbrev pub gate_if_known : List ℕ → GateLine → Option circuit.Gate
gate_if_known variables g = if uses_other variables (gate_use (as_gate g)) then None else Some (numbered_gate variables g)

-- the operands of a gate are of so many variables
abbrev pub IsGateWithin : ℕ → Gate → Type 0
IsGateWithin n g = (g.left / 2 < n) × (g.right / 2 < n)

-- the gates, with the numbers of the variables of their operands
abbrev pub gates_numbered : List ℕ → List GateLine → Result (List circuit.Gate) Fault
gates_numbered variables lines = lines_numbered variables (λ g. gate_use (as_gate g)) (numbered_gate variables) lines
