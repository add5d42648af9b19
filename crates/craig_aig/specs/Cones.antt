-- The input variables that an edge reaches through the operands of gates.
use Rattle.std.specs.Prelude.{◌⊎◌, ℕ, List, [], ◌∷◌, ◌++◌, Contains, slice_index_or}
use Rattle.craig_aig.specs.Edges.{Edge}
use Rattle.craig_aig.specs.FromFront.{from_front}
use Rattle.craig_aig.specs.declared.node.Node.{Node}
use Rattle.craig_aig.specs.declared.node.Node.TheVariants.{Constant, Input, Gate}

-- the variables that a node reaches, given those that the nodes before it reach; some may stand twice
abbrev pub node_cone : List (List ℕ) → Node → List ℕ
node_cone before Constant = []
node_cone before (Input x) = x.0 ∷ []
node_cone before (Gate left right) = slice_index_or before left.place [] ++ slice_index_or before right.place []

-- the variables that each node reaches
abbrev pub cones : List Node → List (List ℕ)
cones nodes = from_front node_cone nodes

-- the variables that an edge of an arena reaches
abbrev pub cone : List Node → Edge → List ℕ
cone nodes e = slice_index_or (cones nodes) e.place []

-- what the edge reaches in the new arena was reached by one of the two in the old one
abbrev pub ConeWithin : List Node → Edge → Edge → List Node → Edge → Type 0
ConeWithin old left right new e = (x : ℕ) → Contains (cone new e) x → Contains (cone old left) x ⊎ Contains (cone old right) x

-- what the edge reaches in the new arena was reached by one of the three in the old one
abbrev pub ChoiceConeWithin : List Node → Edge → Edge → Edge → List Node → Edge → Type 0
ChoiceConeWithin old select when_true when_false new e = (x : ℕ) → Contains (cone new e) x → Contains (cone old select) x ⊎ Contains (cone old when_true) x ⊎ Contains (cone old when_false) x
