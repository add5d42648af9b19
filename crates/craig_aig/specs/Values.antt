-- Values of nodes and edges under an assignment of the dense variables.
use Rattle.std.specs.Prelude.{◌≡◌, Bool, false, not, ◌&&◌, ◌||◌, List, length, slice_index_or, if◌then◌else◌}
use Rattle.std.specs.List.{filter, range_with_len}
use Rattle.craig_spec.specs.Truth.{Assignment, variable_value}
use Rattle.craig_aig.specs.Edges.{Edge}
use Rattle.craig_aig.specs.FromFront.{from_front}
use Rattle.craig_aig.specs.declared.node.Node.{Node}
use Rattle.craig_aig.specs.declared.node.Node.TheVariants.{Constant, Input, Gate}

-- the value of an edge, given the values of the nodes
abbrev pub edge_value_in : List Bool → Edge → Bool
edge_value_in values e = if e.negated then not (slice_index_or values e.place false) else slice_index_or values e.place false

-- the value of a node, given the values of the nodes before it
abbrev pub node_value : Assignment → List Bool → Node → Bool
node_value s before Constant = false
node_value s before (Input x) = variable_value s x.0
node_value s before (Gate left right) = edge_value_in before left && edge_value_in before right

-- the values of the nodes
abbrev pub values : Assignment → List Node → List Bool
values s nodes = from_front (node_value s) nodes

-- the value of an edge of an arena
abbrev pub edge_value : Assignment → List Node → Edge → Bool
edge_value s nodes e = edge_value_in (values s nodes) e

-- the variables that have true at their places in the list
abbrev pub true_variables : List Bool → Assignment
true_variables bits = filter (λ x. slice_index_or bits x false) (range_with_len 0 (length bits))

-- the edge of the new arena has the value of a conjunction of edges of the old one
abbrev pub ComputesAnd : List Node → Edge → Edge → List Node → Edge → Type 0
ComputesAnd old left right new e = (s : Assignment) → edge_value s new e ≡ (edge_value s old left && edge_value s old right)

-- that of a disjunction
abbrev pub ComputesOr : List Node → Edge → Edge → List Node → Edge → Type 0
ComputesOr old left right new e = (s : Assignment) → edge_value s new e ≡ (edge_value s old left || edge_value s old right)

-- and that of the one edge where a third is true, and of the other elsewhere
abbrev pub ComputesChoice : List Node → Edge → Edge → Edge → List Node → Edge → Type 0
ComputesChoice old select when_true when_false new e = (s : Assignment) → edge_value s new e ≡ (if edge_value s old select then edge_value s old when_true else edge_value s old when_false)
