-- Circuits of inputs, two-input gates and named outputs, and what their literals mean.
--
-- Variable 0 is the constant false, the variables from 1 on are the inputs in order, and then come the gates.
-- Literal 2v is variable v, and literal 2v + 1 its negation. After Biere, the AIGER and-inverter graph format.
use Rattle.std.specs.Prelude.{◌≡◌, ◌≢◌, ℕ, ◌+◌, ◌<◌, ◌≤◌, ◌/◌, ◌%◌, Bool, false, not, ◌&&◌, ◌==◌, List, [], ◌∷◌, ◌++◌, length, map, slice_get, Some, slice_index_or, if◌then◌else◌, All, AllPairs, IsTrue}
use Rattle.std.specs.List.{fold}
use Rattle.std.specs.List.Sorted.{IsStrictlyIncreasing}
use Rattle.craig_spec.specs.Truth.{Assignment, variable_value}

-- a gate is true where both of its operand literals are
pub record Gate : Type 0 where
  -- the first operand literal
  pub left : ℕ
  -- the second operand literal
  pub right : ℕ

-- a literal with a name, which is a list of bytes
pub record Output : Type 0 where
  -- the bytes of the name
  pub name : List ℕ
  -- the literal
  pub literal : ℕ

-- the input variables, the gates and the outputs, each in order
pub record Circuit : Type 0 where
  -- the variables of the script that the inputs stand for
  pub inputs : List ℕ
  -- the gates
  pub gates : List Gate
  -- the outputs
  pub outputs : List Output

-- the number of variables, the constant counted in
abbrev pub variable_count : Circuit → ℕ
variable_count c = 1 + length c.inputs + length c.gates

-- each gate has operands below its own literal, and each output is a literal of the circuit
pub record IsCircuit (c : Circuit) : Type 0 where
  -- each gate has operands below its own variable
  pub operands : (j : ℕ) (g : Gate) → slice_get c.gates j ≡ Some g → (g.left / 2 < 1 + length c.inputs + j) × (g.right / 2 < 1 + length c.inputs + j)
  -- each output is a literal of the circuit
  pub literals : All (λ o. o.literal / 2 < variable_count c) c.outputs

-- what each variable has, where the constant and the inputs have the first things, and f says what a gate has from what the variables before it have
unfoldable pub each_variable : {T : Type 0} → (List T → Gate → T) → List T → List Gate → List T
each_variable f first gates = fold (λ before gate. before ++ f before gate ∷ []) first gates

-- the value of a literal, given those of the variables
abbrev pub literal_value_in : List Bool → ℕ → Bool
literal_value_in values l = if l % 2 == 1 then not (slice_index_or values (l / 2) false) else slice_index_or values (l / 2) false

-- the value of a gate, given those of the variables before it
abbrev pub gate_value : List Bool → Gate → Bool
gate_value before g = literal_value_in before g.left && literal_value_in before g.right

-- the values of the variables of a circuit
abbrev pub circuit_values : Assignment → List ℕ → List Gate → List Bool
circuit_values s inputs gates = each_variable gate_value (false ∷ map (variable_value s) inputs) gates

-- the value of a literal of a circuit
abbrev pub circuit_value : Assignment → Circuit → ℕ → Bool
circuit_value s c l = literal_value_in (circuit_values s c.inputs c.gates) l

-- the input variables that a gate reaches, given those that the variables before it reach; some may stand twice
abbrev pub gate_cone : List (List ℕ) → Gate → List ℕ
gate_cone before g = slice_index_or before (g.left / 2) [] ++ slice_index_or before (g.right / 2) []

-- the input variables that each variable of a circuit reaches
abbrev pub circuit_cones : List ℕ → List Gate → List (List ℕ)
circuit_cones inputs gates = each_variable gate_cone ([] ∷ map (λ x. x ∷ []) inputs) gates

-- the input variables that a literal of a circuit reaches through the operands of gates
abbrev pub circuit_cone : Circuit → ℕ → List ℕ
circuit_cone c l = slice_index_or (circuit_cones c.inputs c.gates) (l / 2) []

-- with each gate the set of variables has those of its operands
abbrev pub HasOperands : Circuit → (ℕ → Bool) → Type 0
HasOperands c has = (j : ℕ) (g : Gate) → slice_get c.gates j ≡ Some g → IsTrue (has (1 + length c.inputs + j)) → IsTrue (has (g.left / 2)) × IsTrue (has (g.right / 2))

-- the variable is in each closed set that has those of the outputs: it is reached from an output
abbrev pub IsReached : Circuit → ℕ → Type 0
IsReached c v = (has : ℕ → Bool) → All (λ o. IsTrue (has (o.literal / 2))) c.outputs → HasOperands c has → IsTrue (has v)

-- nothing is there twice or for nothing, and no gate stands before one that it uses
pub record IsStrict (c : Circuit) : Type 0 where
  -- the inputs rise
  pub rising : IsStrictlyIncreasing c.inputs
  -- a gate has two variables, neither of them the constant, the greater first, and both below its own
  pub operands : (j : ℕ) (g : Gate) → slice_get c.gates j ≡ Some g → (1 ≤ g.right / 2) × (g.right / 2 < g.left / 2) × (g.left / 2 < 1 + length c.inputs + j)
  -- no two gates are the same
  pub distinct : AllPairs (λ g h. g ≢ h) c.gates
  -- each input and gate is reached from an output
  pub reached : (v : ℕ) → 1 ≤ v → v < variable_count c → IsReached c v
