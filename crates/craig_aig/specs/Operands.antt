-- What each node of an arena has from its operands, what an edge has from its cone, and what a list of bits gives a
-- variable.
use Rattle.std.specs.Prelude.{◌≡◌, ◌<◌, ℕ, Bool, false, List, length, Contains, Some, slice_get, slice_index_or}
use Rattle.craig_spec.specs.Truth.{Assignment, variable_value}
use Rattle.craig_aig.specs.Arenas.{IsAig}
use Rattle.craig_aig.specs.Cones.{cone, cones, node_cone}
use Rattle.craig_aig.specs.Conjunctions.{constant_edge}
use Rattle.craig_aig.specs.Edges.{Edge, plain_edge}
use Rattle.craig_aig.specs.Values.{edge_value, node_value, true_variables, values}
use Rattle.craig_aig.specs.declared.node.Node.{Node}

-- the value of each node is that which the values of its operands give it
abbrev pub ValuesFromOperands : Type 0
ValuesFromOperands = (s : Assignment) (nodes : List Node) (place : ℕ) (n : Node) → IsAig nodes → slice_get nodes place ≡ Some n → edge_value s nodes (plain_edge place) ≡ node_value s (values s nodes) n

-- the cone of each node is that which the cones of its operands give it
abbrev pub ConesFromOperands : Type 0
ConesFromOperands = (nodes : List Node) (place : ℕ) (n : Node) → IsAig nodes → slice_get nodes place ≡ Some n → cone nodes (plain_edge place) ≡ node_cone (cones nodes) n

-- each variable has the value of its bit, and is false where it has none
abbrev pub ValuesFromBits : Type 0
ValuesFromBits = (bits : List Bool) (x : ℕ) → variable_value (true_variables bits) x ≡ slice_index_or bits x false

-- an edge has the same value under assignments that agree on the variables of its cone
abbrev pub ValuesByCones : Type 0
ValuesByCones = (nodes : List Node) (e : Edge) (s t : Assignment) → IsAig nodes → e.place < length nodes → ((x : ℕ) → Contains (cone nodes e) x → variable_value s x ≡ variable_value t x) → edge_value s nodes e ≡ edge_value t nodes e

-- an edge that reaches no input is one of the constant
pub record NoInputIsConstant : Type 0 where
  -- it is at the place of the constant
  pub place : (nodes : List Node) (e : Edge) → IsAig nodes → e.place < length nodes → ((x : ℕ) → ¬ Contains (cone nodes e) x) → e.place ≡ 0
  -- and is the constant that has its value
  pub edge : (nodes : List Node) (e : Edge) (s : Assignment) (value : Bool) → IsAig nodes → e.place < length nodes → ((x : ℕ) → ¬ Contains (cone nodes e) x) → edge_value s nodes e ≡ value → e ≡ constant_edge value
