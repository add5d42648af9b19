-- The ASCII text of a layout, byte by byte.
use Rattle.std.specs.Prelude.{ℕ, ◌+◌, ◌*◌, List, [], ◌∷◌, ◌++◌, length, codes, decimal}
use Rattle.craig_aiger.specs.Layouts.{Layout}
use Rattle.craig_aiger.specs.OutNames.{name_text}
use Rattle.craig_aiger.specs.declared.out_name.OutName.{OutName}

-- what is written for each of the list, a line or the numbers of a gate, where they are numbered from n on
abbrev pub numbered_lines : {X : Type 0} → (ℕ → X → List ℕ) → ℕ → List X → List ℕ
numbered_lines line n [] = []
numbered_lines line n (x ∷ xs) = line n x ++ numbered_lines line (n + 1) xs

-- a number that ends its line
abbrev pub literal_line : ℕ → List ℕ
literal_line l = decimal l ++ codes "\n"

-- the input of a variable
abbrev pub input_line : ℕ → ℕ → List ℕ
input_line variable x = literal_line (2 * variable)

-- the literal of an output
abbrev pub output_line : ℕ → (OutName × ℕ) → List ℕ
output_line place o = literal_line o.1

-- the literal of a gate and its operands
abbrev pub gate_line : ℕ → (ℕ × ℕ) → List ℕ
gate_line variable g = decimal (2 * variable) ++ codes " " ++ decimal g.0 ++ codes " " ++ literal_line g.1

-- the script variable of an input
abbrev pub input_symbol : ℕ → ℕ → List ℕ
input_symbol place x = codes "i" ++ decimal place ++ codes " " ++ literal_line x

-- the name of an output
abbrev pub output_symbol : ℕ → (OutName × ℕ) → List ℕ
output_symbol place o = codes "o" ++ decimal place ++ codes " " ++ name_text o.0 ++ codes "\n"

-- a word, and behind it the greatest variable, and the numbers of inputs, latches, outputs and gates
abbrev pub header : List ℕ → ℕ → ℕ → ℕ → List ℕ
header word inputs outputs gates = word ++ decimal (inputs + gates) ++ codes " " ++ decimal inputs ++ codes " 0 " ++ decimal outputs ++ codes " " ++ literal_line gates

-- the header of the ASCII form
abbrev pub aag_header : ℕ → ℕ → ℕ → List ℕ
aag_header inputs outputs gates = header (codes "aag ") inputs outputs gates

-- the header, the inputs, the outputs, the gates, and the symbols
abbrev pub aag_text : Layout → List ℕ
aag_text l =
    aag_header (length l.inputs) (length l.outputs) (length l.gates)
    ++ numbered_lines input_line 1 l.inputs
    ++ numbered_lines output_line 0 l.outputs
    ++ numbered_lines gate_line (1 + length l.inputs) l.gates
    ++ numbered_lines input_symbol 0 l.inputs
    ++ numbered_lines output_symbol 0 l.outputs
