-- The edges that a tracer built for the steps that it was told.
use Rattle.std.specs.Prelude.{◌≡◌, ◌⊎◌, ◌<◌, ◌≤◌, ℕ, Bool, List, Contains, IsTrue, length, map, take, if◌then◌else◌}
use Rattle.craig_spec.specs.Literal.{Clause}
use Rattle.craig_spec.specs.Occurs.{occurs_in_clause}
use Rattle.craig_spec.specs.Truth.{Assignment}
use Rattle.craig_spec.specs.Chain.{ChainStep, Original, ToldStep}
use Rattle.craig_spec.specs.PartialInterpolant.{Label, A, AB, B, Labelling, leaf_a_value, leaf_b_value, chain_value, partial_interpolant}
use Rattle.craig_aig.specs.Arenas.{IsAig}
use Rattle.craig_aig.specs.Cones.{cone}
use Rattle.craig_aig.specs.Edges.{Edge}
use Rattle.craig_aig.specs.Growth.{KeepsEdges}
use Rattle.craig_aig.specs.Values.{edge_value}
use Rattle.craig_aig.specs.declared.node.Node.{Node}
use Rattle.craig_itp.specs.declared.step_edge.StepEdge.{StepEdge}
use Rattle.craig_system.specs.Rules.{labelling}
use Rattle.craig_label.specs.Sides.{SidesView}

-- one of the steps has the id
abbrev pub HasEdge : List StepEdge → ℕ → Type 0
HasEdge edges id = (e : StepEdge) × Contains edges e × (e.id.0 ≡ id)

-- what a variable of an original is labelled where the rules let it into the edge of the clause: as one of the other side
abbrev pub crossing_label : Bool → Label
crossing_label leaf_of_a = if leaf_of_a then B else A

-- the edge has the value of an original of the part, and reaches variables of the clause alone that are labelled as ones of the other side
pub record IsLeafEdge (l : Labelling) (part : ℕ) (c : Clause) (nodes : List Node) (e : Edge) : Type 0 where
  -- its value
  pub value : (s : Assignment) → edge_value s nodes e ≡ (if l.is_leaf_of_a part then leaf_a_value l.label s c else leaf_b_value l.label s c)
  -- its variables
  pub inputs : (x : ℕ) → Contains (cone nodes e) x → IsTrue (occurs_in_clause x c) × (l.label x ≡ crossing_label (l.is_leaf_of_a part))

-- one of the edges reaches the variable
pub record IsEdgeReached (edges : List StepEdge) (nodes : List Node) (x : ℕ) : Type 0 where
  -- the edge of a step
  pub step : StepEdge
  -- that is one of them
  pub known : Contains edges step
  -- and reaches the variable
  pub reached : Contains (cone nodes step.edge) x

-- whatever values the ids have that the edges of the old arena have, the edge has the value of the chain; it reaches what those edges reach, and variables labelled AB
pub record IsChainEdge (label : ℕ → Label) (edges : List StepEdge) (old : List Node) (first : ℕ) (rest : List ChainStep) (nodes : List Node) (e : Edge) : Type 0 where
  -- its value
  pub value : (s : Assignment) (value : ℕ → Bool) → ((step : StepEdge) → Contains edges step → edge_value s old step.edge ≡ value step.id.0) → edge_value s nodes e ≡ chain_value label s value (value first) rest
  -- its variables
  pub inputs : (x : ℕ) → Contains (cone nodes e) x → (label x ≡ AB) ⊎ IsEdgeReached edges old x

-- the same by the labels of a system at a cut
abbrev pub IsChainEdgeAt : SidesView → ℕ → (ℕ → Label) → List StepEdge → List Node → ℕ → List ChainStep → List Node → Edge → Type 0
IsChainEdgeAt sides cut marks edges old first rest nodes e = IsChainEdge (labelling sides cut marks).label edges old first rest nodes e

-- the variable is one of an original, and labelled as one of the other side
pub record Crosses (l : Labelling) (steps : List ToldStep) (x : ℕ) : Type 0 where
  -- a step
  pub step : ToldStep
  -- and a part
  pub part : ℕ
  -- the step was told
  pub told : Contains steps step
  -- as an original of the part
  pub original : step.origin ≡ Original part
  -- its clause has the variable
  pub occurs : IsTrue (occurs_in_clause x step.literals)
  -- which is labelled as one of the other side
  pub label_is : l.label x ≡ crossing_label (l.is_leaf_of_a part)

-- the rules let the variable into edges
abbrev pub MayEnter : Labelling → List ToldStep → ℕ → Type 0
MayEnter l steps x = (l.label x ≡ AB) ⊎ Crosses l steps x

-- the edge is one of the arena for the clause under the id: it has its partial value, and reaches variables alone that the rules let in
pub record IsEdgeOf (l : Labelling) (steps : List ToldStep) (nodes : List Node) (id : ℕ) (e : Edge) : Type 0 where
  -- it is of the arena
  pub within : e.place < length nodes
  -- its value
  pub value : (s : Assignment) → edge_value s nodes e ≡ partial_interpolant l steps id s
  -- its variables
  pub inputs : (x : ℕ) → Contains (cone nodes e) x → MayEnter l steps x

-- what a tracer keeps: an arena whose first nodes are the older ones, whose edges it keeps, and for each told step at the same place its edge
pub record AreEdges (l : Labelling) (steps : List ToldStep) (older : ℕ) (nodes : List Node) (edges : List StepEdge) : Type 0 where
  -- the nodes are an arena
  pub is_arena : IsAig nodes
  -- the older nodes are at its front
  pub within : older ≤ length nodes
  -- and keep their edges
  pub kept : KeepsEdges (take older nodes) nodes
  -- the edges have the ids of the steps
  pub ids : map (λ (e : StepEdge). e.id.0) edges ≡ map (λ (s : ToldStep). s.id) steps
  -- each is that of the clause under its id
  pub each : (e : StepEdge) → Contains edges e → IsEdgeOf l steps nodes e.id.0 e.edge
