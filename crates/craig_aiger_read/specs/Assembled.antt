-- The parts of which a circuit is made.
use Rattle.std.specs.Prelude.{◌≡◌, ℕ, ◌+◌, ◌/◌, ◌<◌, All, List, length, map, slice_index, None, Result, Ok}
use Rattle.craig_spec.specs.AigerFault.{Fault}
use Rattle.craig_spec.specs.AigerReading.{AigerFile, ◌>>=◌}
use Rattle.craig_spec.specs.AigerReading as read
use Rattle.craig_aiger_read.specs.declared.assembly.Moves.{Moves}
use Rattle.craig_aiger_read.specs.declared.assembly.Numbered.{Numbered}
use Rattle.craig_aiger_read.specs.declared.gate.Gate.{Gate}
use Rattle.craig_aiger_read.specs.declared.gate_line.GateLine.{GateLine}
use Rattle.craig_aiger_read.specs.declared.latch_line.LatchLine.{LatchLine}
use Rattle.craig_aiger_read.specs.declared.symbols.NameTable.{NameTable}
use Rattle.craig_aiger_read.specs.declared.written.Written.{Written}
use Rattle.craig_aiger_read.specs.ReadDepths.{AreWithin}
use Rattle.craig_aiger_read.specs.ReadFiles.{latches_with, roots_with}
use Rattle.craig_aiger_read.specs.ReadNumbers.{IsGateWithin, gates_numbered, latches_numbered, roots_numbered}
use Rattle.craig_aiger_read.specs.ReadOrder.{AreNewVariables, AreSmall, gate_moved_by, moved_by}
use Rattle.craig_aiger_read.specs.ReadViews.{as_gate, as_operands}

-- the first line that uses what is undefined, if there is one
abbrev pub undefined_in : Written → Result (Unit {0}) Fault
undefined_in w =
    latches_numbered w.variables.keys w.latches.items >>= λ nexts.
    (roots_numbered w.variables.keys w.outputs.items >>= λ outputs.
    (roots_numbered w.variables.keys w.bads.items >>= λ bads.
    (gates_numbered w.variables.keys w.gates.items >>= λ gates. Ok tt)))

-- each literal has its number, which is one of the variables'
pub record IsNumbered (w : Written) (n : Numbered) : Type 0 where
  -- the next literals of the latches are numbered
  pub nexts : latches_numbered w.variables.keys w.latches.items ≡ Ok n.nexts.items
  -- and the outputs
  pub outputs : roots_numbered w.variables.keys w.outputs.items ≡ Ok n.outputs.items
  -- and the bad literals
  pub bads : roots_numbered w.variables.keys w.bads.items ≡ Ok n.bads.items
  -- and the operands of the gates
  pub gates : gates_numbered w.variables.keys w.gates.items ≡ Ok (map as_operands n.gates.items)
  -- a next literal is of one of the variables
  pub next_within : All (λ l. l / 2 < length w.variables.keys) n.nexts.items
  -- an output is of one of the variables
  pub output_within : All (λ l. l / 2 < length w.variables.keys) n.outputs.items
  -- a bad literal is of one of the variables
  pub bad_within : All (λ l. l / 2 < length w.variables.keys) n.bads.items
  -- an operand is of one of the variables
  pub gate_within : All (IsGateWithin (length w.variables.keys)) n.gates.items

-- the gates have depths, and are in the order of them
pub record IsMoved (first : ℕ) (gates : List Gate) (lines : List GateLine) (m : Moves) : Type 0 where
  -- each gate has a depth
  pub acyclic : read.first_cyclic first (map as_operands gates) (map as_gate lines) ≡ None
  -- the order is by depth
  pub order : m.order.items ≡ read.by_depth first (map as_operands gates)
  -- the new variables are those of the places in the order
  pub places : AreNewVariables first m.order.items m.variables.items
  -- there is one for each gate
  pub long : length m.variables.items ≡ length gates
  -- the order is one of gates
  pub inside : (j : ℕ) → j < length m.order.items → slice_index m.order.items j < length gates
  -- they are small enough to be doubled
  pub small : AreSmall m.variables.items

-- there is a name, or none, for each thing, and each literal is of a variable
pub record FitsNames (first : ℕ) (lines : List LatchLine) (n : Numbered) (m : Moves) (names : NameTable) : Type 0 where
  -- the operands of gates are of variables
  pub gates : AreWithin first n.gates.items
  -- there is a new variable for each gate
  pub long : length n.gates.items ≡ length m.variables.items
  -- the order is one of gates
  pub inside : (j : ℕ) → j < length m.order.items → slice_index m.order.items j < length n.gates.items
  -- the new variables are small enough to be doubled
  pub small : AreSmall m.variables.items
  -- a next literal is of a variable
  pub nexts : All (λ l. l / 2 < first + length m.variables.items) n.nexts.items
  -- an output is of a variable
  pub outputs : All (λ l. l / 2 < first + length m.variables.items) n.outputs.items
  -- a bad literal is of a variable
  pub bads : All (λ l. l / 2 < first + length m.variables.items) n.bads.items
  -- each latch has a line
  pub latch_lines : length lines ≡ length names.latches.items
  -- and a name or none
  pub latch_names : length n.nexts.items ≡ length names.latches.items
  -- each output has a name or none
  pub output_names : length n.outputs.items ≡ length names.outputs.items
  -- and so has each bad literal
  pub bad_names : length n.bads.items ≡ length names.bads.items

-- the file of the parts
abbrev pub file_of : ℕ → List LatchLine → Numbered → Moves → NameTable → AigerFile
file_of first lines n m names = record {
  inputs = names.inputs.items;
  latches = latches_with (moved_by first m.variables.items) lines n.nexts.items names.latches.items;
  outputs = roots_with (moved_by first m.variables.items) n.outputs.items names.outputs.items;
  bads = roots_with (moved_by first m.variables.items) n.bads.items names.bads.items;
  gates = map (gate_moved_by first m.variables.items (map as_operands n.gates.items)) m.order.items;
}
