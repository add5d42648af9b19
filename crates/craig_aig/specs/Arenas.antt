-- Which lists of nodes are arenas.
use Rattle.std.specs.Prelude.{◌≡◌, ◌≢◌, ℕ, ◌<◌, List, length, Some, slice_get, slice_index_or, AllPairs}
use Rattle.craig_aig.specs.Edges.{Edge}
use Rattle.craig_aig.specs.declared.node.Node.{Node}
use Rattle.craig_aig.specs.declared.node.Node.TheVariants.{Constant, Input, Gate}

-- two edges that a gate at the place may have: of two nodes, so neither equal nor opposite
pub record AreOperands (place : ℕ) (left right : Edge) : Type 0 where
  -- neither is constant
  pub not_constant : 0 < right.place
  -- the greater place comes first
  pub ordered : right.place < left.place
  -- both are below the gate
  pub below : left.place < place

-- the node may stand at the place
abbrev pub IsPlaced : ℕ → Node → Type 0
IsPlaced place Constant = place ≡ 0
IsPlaced place (Input x) = 0 < place
IsPlaced place (Gate left right) = AreOperands place left right

-- the list is an arena
pub record IsAig (nodes : List Node) : Type 0 where
  -- it begins with the constant
  pub first : slice_get nodes 0 ≡ Some Constant
  -- each node may stand where it stands
  pub placed : (k : ℕ) → k < length nodes → IsPlaced k (slice_index_or nodes k Constant)
  -- no node stands twice: no two inputs have one variable, and no two gates are the same
  pub distinct : AllPairs (λ m n. m ≢ n) nodes
