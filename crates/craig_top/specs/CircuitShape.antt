-- Which shape a circuit has, and what its gates do, said of each place.
use Rattle.std.specs.Prelude.{◌≡◌, ◌≢◌, ◌⊎◌, ℕ, ◌+◌, ◌*◌, ◌/◌, ◌<◌, ◌≤◌, ◌&&◌, List, [], ◌∷◌, ◌++◌, length, Some, slice_get, Contains}
use Rattle.craig_spec.specs.Circuit.{Circuit, Gate, Output, circuit_cone, circuit_value}
use Rattle.craig_spec.specs.Truth.{Assignment, variable_value}

-- each number is below the next
abbrev pub NumbersRise : List ℕ → Type 0
NumbersRise xs = (i x y : ℕ) → slice_get xs i ≡ Some x → slice_get xs (i + 1) ≡ Some y → x < y

-- the literal of an input, by its place
abbrev pub input_literal : ℕ → ℕ
input_literal i = 2 * (1 + i)

-- the literal of a gate, by its place
abbrev pub gate_literal : Circuit → ℕ → ℕ
gate_literal c j = 2 * (1 + length c.inputs + j)

-- an input has the value of its variable, and reaches it alone
abbrev pub InputsAreVariables : Circuit → Type 0
InputsAreVariables c = (i x : ℕ) → slice_get c.inputs i ≡ Some x → ((s : Assignment) → circuit_value s c (input_literal i) ≡ variable_value s x) × (circuit_cone c (input_literal i) ≡ x ∷ [])

-- a gate is true where both operands are
abbrev pub GatesAreConjunctions : Circuit → Type 0
GatesAreConjunctions c = (j : ℕ) (g : Gate) → slice_get c.gates j ≡ Some g → (s : Assignment) → circuit_value s c (gate_literal c j) ≡ (circuit_value s c g.left && circuit_value s c g.right)

-- a gate reaches what its operands reach
abbrev pub GatesReachByOperands : Circuit → Type 0
GatesReachByOperands c = (j : ℕ) (g : Gate) → slice_get c.gates j ≡ Some g → circuit_cone c (gate_literal c j) ≡ circuit_cone c g.left ++ circuit_cone c g.right

-- each output is a literal of the constant, of an input or of a gate
abbrev pub OutputsAreLiterals : Circuit → Type 0
OutputsAreLiterals c = (o : Output) → Contains c.outputs o → o.literal < gate_literal c (length c.gates)

-- each gate has two variables as operands, neither of them the constant, the greater first, and both below its own
abbrev pub OperandsAreOrdered : Circuit → Type 0
OperandsAreOrdered c = (j : ℕ) (g : Gate) → slice_get c.gates j ≡ Some g → (2 ≤ g.right) × (g.right < g.left) × (g.right / 2 ≢ g.left / 2) × (g.left < gate_literal c j)

-- a gate stands at one place
abbrev pub GatesStandOnce : Circuit → Type 0
GatesStandOnce c = (i j : ℕ) (g : Gate) → slice_get c.gates i ≡ Some g → slice_get c.gates j ≡ Some g → i ≡ j

-- an output or an operand is of the variable
abbrev pub IsUsed : Circuit → ℕ → Type 0
IsUsed c v = ((o : Output) × Contains c.outputs o × (o.literal / 2 ≡ v)) ⊎ ((g : Gate) × Contains c.gates g × ((g.left / 2 ≡ v) ⊎ (g.right / 2 ≡ v)))

-- no input and no gate is there for nothing
abbrev pub AllAreUsed : Circuit → Type 0
AllAreUsed c = (v : ℕ) → 1 ≤ v → 2 * v < gate_literal c (length c.gates) → IsUsed c v

-- each input is in the cone of an output
abbrev pub InputsAreInCones : Circuit → Type 0
InputsAreInCones c = (x : ℕ) → Contains c.inputs x → (o : Output) × Contains c.outputs o × Contains (circuit_cone c o.literal) x
