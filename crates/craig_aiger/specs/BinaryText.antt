-- The binary text of a layout, byte by byte.
use Rattle.std.specs.Prelude.{◌≡◌, ℕ, ◌+◌, ◌-◌, ◌*◌, ◌<◌, ◌≤◌, List, ◌++◌, Some, length, codes, slice_get}
use Rattle.craig_aiger.specs.AsciiText.{header, input_symbol, numbered_lines, output_line, output_symbol}
use Rattle.craig_aiger.specs.Layouts.{Layout}
use Rattle.craig_spec.specs.SevenBits.{groups_of}

-- how far the first operand is below the gate, and the second below the first
abbrev pub gate_groups : ℕ → (ℕ × ℕ) → List ℕ
gate_groups variable g = groups_of (2 * variable - g.0) ++ groups_of (g.0 - g.1)

-- each gate, of which the first has this variable, has the greater operand first, and below its own literal
abbrev pub AreOrdered : ℕ → List (ℕ × ℕ) → Type 0
AreOrdered first gates = (j : ℕ) (g : ℕ × ℕ) → slice_get gates j ≡ Some g → (g.1 ≤ g.0) × (g.0 < 2 * (first + j))

-- the header of the binary form
abbrev pub aig_header : ℕ → ℕ → ℕ → List ℕ
aig_header inputs outputs gates = header (codes "aig ") inputs outputs gates

-- the header, the outputs, the gates, and the symbols
abbrev pub aig_text : Layout → List ℕ
aig_text l =
    aig_header (length l.inputs) (length l.outputs) (length l.gates)
    ++ numbered_lines output_line 0 l.outputs
    ++ numbered_lines gate_groups (1 + length l.inputs) l.gates
    ++ numbered_lines input_symbol 0 l.inputs
    ++ numbered_lines output_symbol 0 l.outputs
