-- The parts of which a circuit is made where a binary text has them.
use Rattle.std.specs.Prelude.{◌≡◌, ℕ, ◌+◌, ◌*◌, List, [], length, map, Result}
use Rattle.craig_spec.specs.AigerBinary.{binary_gates}
use Rattle.craig_spec.specs.AigerFault.{Fault}
use Rattle.craig_spec.specs.AigerReading.{AigerFile}
use Rattle.craig_spec.specs.Circuit.{Gate}
use Rattle.craig_aiger_read.specs.declared.binary_reading.BinaryParts.{BinaryParts}
use Rattle.craig_aiger_read.specs.declared.counts.Counts.{Counts}
use Rattle.craig_aiger_read.specs.declared.latch_line.LatchLine.{LatchLine}
use Rattle.craig_aiger_read.specs.declared.root_line.RootLine.{RootLine}
use Rattle.craig_aiger_read.specs.ReadFiles.{latches_with, roots_with}
use Rattle.craig_aiger_read.specs.ReadViews.{as_operands}

-- so many gates as the header counts, and what is behind them
abbrev pub gates_counted : ℕ → Counts → List ℕ → Result (List Gate × List ℕ) Fault
gates_counted end c bytes = binary_gates end c.gates (2 * (1 + c.inputs + c.latches)) [] bytes

-- there is a name, or none, for each thing that has a line
pub record HasNameEach (p : BinaryParts) : Type 0 where
  -- for each latch
  pub latch_names : length p.latches.items ≡ length p.names.latches.items
  -- for each output
  pub output_names : length p.outputs.items ≡ length p.names.outputs.items
  -- for each bad literal
  pub bad_names : length p.bads.items ≡ length p.names.bads.items

-- the file of the parts, with the literals that the lines have
abbrev pub binary_file_of : BinaryParts → AigerFile
binary_file_of p = record {
  inputs = p.names.inputs.items;
  latches = latches_with (λ l. l) p.latches.items (map (λ (l : LatchLine). l.next) p.latches.items) p.names.latches.items;
  outputs = roots_with (λ l. l) (map (λ (r : RootLine). r.literal) p.outputs.items) p.names.outputs.items;
  bads = roots_with (λ l. l) (map (λ (r : RootLine). r.literal) p.bads.items) p.names.bads.items;
  gates = map as_operands p.gates.items;
}
