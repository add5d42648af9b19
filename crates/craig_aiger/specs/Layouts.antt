-- The layout of the cones of some edges as a circuit.
use Rattle.std.specs.Prelude.{◌≡◌, ◌↔◌, ℕ, ◌+◌, ◌*◌, ◌^◌, ◌<◌, ◌≤◌, Bool, nat_lt, List, length, map, take, Option, Some, None, slice_get, slice_index, slice_index_or, Contains, IsTrue, is_some, All, if◌then◌else◌}
use Rattle.std.specs.List.{filter_map}
use Rattle.std.specs.List.Sorted.{IsStrictlyIncreasing}
use Rattle.craig_spec.specs.Truth.{Assignment, variable_value}
use Rattle.craig_spec.specs.Circuit as circuit
use Rattle.craig_aig.specs.Cones.{cone}
use Rattle.craig_aig.specs.Edges.{Edge}
use Rattle.craig_aig.specs.Values.{edge_value, true_variables}
use Rattle.craig_aig.specs.declared.node.Node.{Node}
use Rattle.craig_aig.specs.declared.node.Node.TheVariants as node
use Rattle.craig_aiger.specs.OutNames.{name_text}
use Rattle.craig_aiger.specs.declared.out_name.OutName.{OutName}

-- the script variables of the inputs, the operand literals of the gates, and the outputs with their literals, each in order
pub record Layout : Type 0 where
  -- the script variables of the inputs
  pub inputs : List ℕ
  -- the operand literals of the gates
  pub gates : List (ℕ × ℕ)
  -- the outputs with their literals
  pub outputs : List (OutName × ℕ)

-- the circuit of a layout
abbrev pub circuit_of : Layout → circuit.Circuit
circuit_of l = record {
  inputs = l.inputs;
  gates = map (λ g. record { left = g.0; right = g.1 }) l.gates;
  outputs = map (λ o. record { name = name_text o.0; literal = o.1 }) l.outputs;
}

-- what holds of every layout
pub record IsWritable (l : Layout) : Type 0 where
  -- there are at most 2 ^ 40 inputs
  pub few_inputs : length l.inputs ≤ 2 ^ 40
  -- and as many gates
  pub few_gates : length l.gates ≤ 2 ^ 40
  -- and as many outputs
  pub few_outputs : length l.outputs ≤ 2 ^ 40
  -- the inputs are script variables
  pub variables : All (λ x. (1 ≤ x) × (x ≤ 2147483647)) l.inputs
  -- a gate has the greater operand first, and below its own literal
  pub operands : (j : ℕ) (g : ℕ × ℕ) → slice_get l.gates j ≡ Some g → (g.1 ≤ g.0) × (g.0 < 2 * (1 + length l.inputs + j))
  -- an output has a cut of 32 bits
  pub cuts : All (λ o. o.0.cut < 2 ^ 32) l.outputs
  -- and a literal of the circuit
  pub literals : All (λ o. o.1 < 2 * (1 + length l.inputs + length l.gates)) l.outputs
  -- the inputs rise, nothing is there twice, and each input and gate is reached from an output
  pub strict : circuit.IsStrict (circuit_of l)

-- with each gate the set of places has its operands
abbrev pub HasOperandNodes : List Node → (ℕ → Bool) → Type 0
HasOperandNodes nodes has = (k : ℕ) (left right : Edge) → slice_get nodes k ≡ Some (node.Gate left right) → IsTrue (has k) → IsTrue (has left.place) × IsTrue (has right.place)

-- the node is in each closed set that has the nodes of the edges: it is of one of their cones
abbrev pub IsInCones : List Node → List Edge → ℕ → Type 0
IsInCones nodes edges place = (has : ℕ → Bool) → All (λ e. IsTrue (has e.place)) edges → HasOperandNodes nodes has → IsTrue (has place)

-- what the table has at a place
abbrev pub at : List (Option Node) → ℕ → Option Node
at table k = slice_index_or table k None

-- the table has the needed nodes, each at its place, and no other
pub record AreNeeded (nodes : List Node) (edges : List Edge) (table : List (Option Node)) : Type 0 where
  -- there is a place for each node
  pub lengths : length table ≡ length nodes
  -- what stands at a place is the node there
  pub nodes_are : (k : ℕ) (n : Node) → at table k ≡ Some n → slice_get nodes k ≡ Some n
  -- a node is there where it is of a cone, and only there
  pub needed : (k : ℕ) → k < length nodes → IsTrue (is_some (at table k)) ↔ IsInCones nodes edges k

-- the table has the nodes of the edges, and needed ones alone
pub record IsRooted (nodes : List Node) (edges : List Edge) (table : List (Option Node)) : Type 0 where
  -- there is a place for each node
  pub lengths : length table ≡ length nodes
  -- what stands at a place is the node there
  pub nodes_are : (k : ℕ) (n : Node) → at table k ≡ Some n → slice_get nodes k ≡ Some n
  -- the nodes of the edges are there
  pub rooted : All (λ e. IsTrue (is_some (at table e.place))) edges
  -- what is there is of a cone
  pub needed : (k : ℕ) → IsTrue (is_some (at table k)) → IsInCones nodes edges k

-- the variable of an input
abbrev pub node_variable : Option Node → Option ℕ
node_variable None = None
node_variable (Some node.Constant) = None
node_variable (Some (node.Input x)) = Some x.0
node_variable (Some (node.Gate left right)) = None

-- the operands of a gate
abbrev pub node_operands : Option Node → Option (Edge × Edge)
node_operands None = None
node_operands (Some node.Constant) = None
node_operands (Some (node.Input x)) = None
node_operands (Some (node.Gate left right)) = Some (left, right)

-- the names of the inputs of the table, in its order
abbrev pub input_names : List ℕ → List (Option Node) → List ℕ
input_names names table = map (slice_index names) (filter_map node_variable table)

-- each input of the table has a name
abbrev pub AreNamed : List ℕ → List (Option Node) → Type 0
AreNamed names table = (k x : ℕ) → node_variable (at table k) ≡ Some x → x < length names

-- so many variables are the constant, the inputs, and the gates among the nodes before
abbrev pub AreTaken : List ℕ → List (Option Node) → ℕ → Type 0
AreTaken inputs before taken = taken ≡ 1 + length inputs + length (filter_map node_operands before)

-- the number of a node: 0 for the constant, from 1 on for the inputs in the order of the list, and then those of the gates, of which some are among the nodes before
abbrev pub IsNumber : List ℕ → List ℕ → List (Option Node) → Option Node → ℕ → Type 0
IsNumber names inputs before None m = Unit {0}
IsNumber names inputs before (Some node.Constant) m = m ≡ 0
IsNumber names inputs before (Some (node.Input x)) m = (i : ℕ) × (m ≡ 1 + i) × (slice_get inputs i ≡ Some (slice_index names x.0)) × (x.0 < length names)
IsNumber names inputs before (Some (node.Gate left right)) m = m ≡ 1 + length inputs + length (filter_map node_operands before)

-- each node of the table has its number at its place
pub record IsNumbering (names inputs : List ℕ) (table : List (Option Node)) (numbers : List ℕ) : Type 0 where
  -- there is a number for each place
  pub lengths : length numbers ≡ length table
  -- each node that is there has its number
  pub each : (k : ℕ) → k < length table → IsNumber names inputs (take k table) (at table k) (slice_index numbers k)

-- the literal of an edge, by the numbers of the nodes
abbrev pub edge_literal : List ℕ → Edge → ℕ
edge_literal numbers e = 2 * slice_index numbers e.place + (if e.negated then 1 else 0)

-- the gate of two operand literals, the greater first
abbrev pub ordered : ℕ → ℕ → (ℕ × ℕ)
ordered a b = if nat_lt a b then (b, a) else (a, b)

-- the literals of the operands of a gate
abbrev pub gate_literals : List ℕ → (Edge × Edge) → (ℕ × ℕ)
gate_literals numbers operands = ordered (edge_literal numbers operands.0) (edge_literal numbers operands.1)

-- the operands of each gate of the table stand before it
abbrev pub OperandsBelow : List (Option Node) → Type 0
OperandsBelow table = (k : ℕ) (left right : Edge) → at table k ≡ Some (node.Gate left right) → (left.place < k) × (right.place < k)

-- the edges of outputs
abbrev pub edges_of : List (OutName × Edge) → List Edge
edges_of outputs = map (λ o. o.1) outputs

-- the layout of the cones of the outputs
pub record IsLayout (nodes : List Node) (names : List ℕ) (outputs : List (OutName × Edge)) (layout : Layout) : Type 0 where
  -- the needed nodes, each at its place
  pub table : List (Option Node)
  -- their numbers, each at its place
  pub numbers : List ℕ
  -- the nodes of the table are those of the cones
  pub needed : AreNeeded nodes (edges_of outputs) table
  -- each of them has its number
  pub numbering : IsNumbering names layout.inputs table numbers
  -- the inputs rise
  pub rising : IsStrictlyIncreasing layout.inputs
  -- the inputs are the names of the needed inputs
  pub inputs_are : (x : ℕ) → Contains layout.inputs x ↔ Contains (map (slice_index names) (filter_map node_variable table)) x
  -- the gates are those needed, in the order of the arena
  pub gates_are : layout.gates ≡ map (gate_literals numbers) (filter_map node_operands table)
  -- each output has the literal of its edge
  pub outputs_are : layout.outputs ≡ map (λ o. (o.0, edge_literal numbers o.1)) outputs

-- the dense variables whose names are true
abbrev pub dense_assignment : List ℕ → Assignment → Assignment
dense_assignment names s = true_variables (map (variable_value s) names)

-- the outputs of the layout have the values and the cones of the edges, each input is in a cone, and the edges of the constant are the literals 0 and 1
pub record HasFunctions (nodes : List Node) (names : List ℕ) (outputs : List (OutName × Edge)) (layout : Layout) : Type 0 where
  -- each output has the value of its edge under each assignment
  pub values : (s : Assignment) (j : ℕ) (o : OutName × Edge) (l : OutName × ℕ) → slice_get outputs j ≡ Some o → slice_get layout.outputs j ≡ Some l → circuit.circuit_value s (circuit_of layout) l.1 ≡ edge_value (dense_assignment names s) nodes o.1
  -- it reaches the inputs that are named by the cone of its edge
  pub cones : (j : ℕ) (o : OutName × Edge) (l : OutName × ℕ) (x : ℕ) → slice_get outputs j ≡ Some o → slice_get layout.outputs j ≡ Some l → Contains (circuit.circuit_cone (circuit_of layout) l.1) x ↔ Contains (map (slice_index names) (cone nodes o.1)) x
  -- each input is reached from an output
  pub used : (x : ℕ) → Contains layout.inputs x → (j : ℕ) × (l : OutName × ℕ) × (slice_get layout.outputs j ≡ Some l) × Contains (circuit.circuit_cone (circuit_of layout) l.1) x
  -- an edge to the constant is the literal 0 or 1
  pub constants : (j : ℕ) (o : OutName × Edge) (l : OutName × ℕ) → slice_get outputs j ≡ Some o → slice_get layout.outputs j ≡ Some l → o.1.place ≡ 0 → l.1 ≡ (if o.1.negated then 1 else 0)
