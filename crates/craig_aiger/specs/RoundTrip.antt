-- What a text is read back as.
use Rattle.std.specs.Prelude.{◌≡◌, ℕ, ◌<◌, List, map, Some, slice_get}
use Rattle.craig_spec.specs.Truth.{Assignment}
use Rattle.craig_spec.specs.Circuit.{Circuit, IsCircuit, Output, circuit_cone, circuit_value}
use Rattle.craig_spec.specs.AigerReading.{read_aag}
use Rattle.craig_spec.specs.AigerBinary.{read_aig}
use Rattle.craig_aiger.specs.declared.out_name.OutName.{OutName}
use Rattle.craig_aiger.specs.Layouts.{Layout, circuit_of}
use Rattle.craig_aiger.specs.OutNames.{name_text}

-- the circuit has the inputs of the layout, and the outputs have in order the same names, under each assignment the same values, and the same cones, and where they are the literals 0 and 1 they stay so
pub record SameCircuit (l : Layout) (c : Circuit) : Type 0 where
  -- it is a circuit
  pub is_circuit : IsCircuit c
  -- it has the inputs of the layout
  pub inputs_are : c.inputs ≡ l.inputs
  -- its outputs have the names of those of the layout, in order
  pub names_are : map (λ o. o.name) c.outputs ≡ map (λ o. name_text o.0) l.outputs
  -- they have the same values under each assignment
  pub values_are : (s : Assignment) → map (λ o. circuit_value s c o.literal) c.outputs ≡ map (λ o. circuit_value s (circuit_of l) o.1) l.outputs
  -- they reach the same inputs
  pub cones_are : map (λ o. circuit_cone c o.literal) c.outputs ≡ map (λ o. circuit_cone (circuit_of l) o.1) l.outputs
  -- one that is the literal 0 or 1 stays so
  pub constants : (j : ℕ) (o : OutName × ℕ) → slice_get l.outputs j ≡ Some o → o.1 < 2 → (p : Output) × (slice_get c.outputs j ≡ Some p) × (p.literal ≡ o.1)

-- the ASCII text is read as such a circuit
abbrev pub ReadsAs : Layout → List ℕ → Type 0
ReadsAs l text = (c : Circuit) × (read_aag text ≡ Some c) × SameCircuit l c

-- the binary text is read as such a circuit
abbrev pub ReadsAsBinary : Layout → List ℕ → Type 0
ReadsAsBinary l text = (c : Circuit) × (read_aig text ≡ Some c) × SameCircuit l c
