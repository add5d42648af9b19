-- The blocks of a refuting reply, each the text of one circuit.
use Rattle.std.specs.Prelude.{◌≡◌, ℕ, List, ◌++◌, map, length, codes, decimal, Some, Contains}
use Rattle.std.specs.List.{flat_map}
use Rattle.craig_spec.specs.Circuit.{Circuit, Output, IsCircuit, IsStrict, circuit_cone}
use Rattle.craig_aiger.specs.Layouts.{Layout, circuit_of}
use Rattle.craig_aiger.specs.OutNames.{name_text}
use Rattle.craig_aiger.specs.declared.out_name.OutName.{OutName}
use Rattle.craig_top.specs.Formats.{CircuitFormat}

-- a block of a reply
pub record Block : Type 0 where
  -- the letter of its line
  pub letter : List ℕ
  -- how its bytes are read
  pub format : CircuitFormat
  -- its outputs in order, each a name and the literal that it has in the circuit
  pub outputs : List (OutName × ℕ)
  -- the bytes of its circuit
  pub bytes : List ℕ

-- the line of the letter and of how many bytes there are, and these bytes
abbrev pub lined_bytes : List ℕ → List ℕ → List ℕ
lined_bytes letter bytes = letter ++ codes " " ++ decimal (length bytes) ++ codes "\n" ++ bytes

-- a block as it is printed
abbrev pub block_text : Block → List ℕ
block_text block = lined_bytes block.letter block.bytes

-- the blocks, one after the other
abbrev pub blocks_text : List Block → List ℕ
blocks_text blocks = flat_map block_text blocks

-- the output of a circuit that has this name, as it is printed, and this literal
abbrev pub printed_output : (OutName × ℕ) → Output
printed_output o = record { name = name_text o.0; literal = o.1 }

-- the bytes are the text of a strict layout in the format and are read back as the circuit, which has these outputs and whose inputs are each in the cone of an output
pub record IsCircuitText (format : CircuitFormat) (outputs : List (OutName × ℕ)) (bytes : List ℕ) (c : Circuit) : Type 0 where
  -- what was written
  pub layout : Layout
  -- the bytes are its text, and nothing else
  pub written : bytes ≡ format.write layout
  -- nothing is there twice or for nothing
  pub strict : IsStrict (circuit_of layout)
  -- the bytes are read back
  pub reads : format.read bytes ≡ Some c
  -- what is read has operands below their gates
  pub is_circuit : IsCircuit c
  -- its outputs are these, in order
  pub outputs_are : c.outputs ≡ map printed_output outputs
  -- each input is one of an output
  pub used : (x : ℕ) → Contains c.inputs x → (o : Output) × Contains c.outputs o × Contains (circuit_cone c o.literal) x

-- the literals of the outputs of a circuit
abbrev pub output_literals : Circuit → List ℕ
output_literals c = map (λ (o : Output). o.literal) c.outputs

-- the bytes of the block are a text of the circuit
abbrev pub IsBlockOf : Circuit → Block → Type 0
IsBlockOf c block = IsCircuitText block.format block.outputs block.bytes c
