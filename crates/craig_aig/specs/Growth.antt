-- How an arena grows, and what its edges keep.
use Rattle.std.specs.Prelude.{◌≡◌, ◌<◌, false, List, [], ◌∷◌, ◌++◌, length, Some, slice_get, Contains}
use Rattle.craig_spec.specs.Truth.{Assignment}
use Rattle.craig_aig.specs.Arenas.{IsAig}
use Rattle.craig_aig.specs.Edges.{Edge}
use Rattle.craig_aig.specs.Values.{edge_value}
use Rattle.craig_aig.specs.Cones.{cone}
use Rattle.craig_aig.specs.declared.node.Node.{Node}

-- the new arena has the nodes of the old one at its front
abbrev pub Extends : List Node → List Node → Type 0
Extends old new = (added : List Node) × (new ≡ old ++ added)

-- an edge has the same function in both arenas
pub record KeepsEdge (old new : List Node) (e : Edge) : Type 0 where
  -- it has the same value
  pub value : (s : Assignment) → edge_value s new e ≡ edge_value s old e
  -- and reaches the same variables
  pub cone_is : cone new e ≡ cone old e

-- so does every edge of both
abbrev pub KeepsEdges : List Node → List Node → Type 0
KeepsEdges old new = (e : Edge) → e.place < length old → e.place < length new → KeepsEdge old new e

-- the new list is an arena with the nodes of the old one at its front, whose edges keep their functions
pub record ArenaGrows (old new : List Node) : Type 0 where
  -- the nodes of the old one are at its front
  pub extends : Extends old new
  -- their edges keep their functions
  pub kept : KeepsEdges old new
  -- the new list is an arena
  pub is_arena : IsAig new

-- the edge is that of the node, which is found where it stands, and else goes last
pub record IsShared (old : List Node) (node : Node) (new : List Node) (e : Edge) : Type 0 where
  -- nothing is added where the node stands already
  pub known : Contains old node → new ≡ old
  -- and else the node alone
  pub added : ¬ Contains old node → new ≡ old ++ node ∷ []
  -- the edge is at the place of the node
  pub place : slice_get new e.place ≡ Some node
  -- and is not negated
  pub plain : e.negated ≡ false
