-- A walk over the steps that a root needs, with an edge for each.
use Rattle.std.specs.Prelude.{◌≡◌, ◌<◌, ◌≤◌, ℕ, List, length, Some, slice_get, Contains}
use Rattle.craig_spec.specs.Truth.{Assignment}
use Rattle.craig_spec.specs.Chain.{ChainStep, ToldStep, Told, IsTold, IsUnforgotten}
use Rattle.craig_spec.specs.Needed.{IsNeededPart}
use Rattle.craig_spec.specs.PartialInterpolant.{Label, Labelling, chain_value, partial_values}
use Rattle.craig_proof.specs.NeededSteps.{HasId, last_id}
use Rattle.craig_label.specs.Sides.{SidesView}
use Rattle.craig_aig.specs.Cones.{cone}
use Rattle.craig_aig.specs.Edges.{Edge}
use Rattle.craig_aig.specs.Values.{edge_value}
use Rattle.craig_aig.specs.declared.node.Node.{Node}
use Rattle.craig_itp.specs.Interpolants.{AreInterpolants, AreNoted, IsInterpolant, NeededAreNoted}
use Rattle.craig_itp.specs.StepEdges.{IsEdgeOf, MayEnter}

-- the steps stand on one another and end in the root, and the sides have noted their originals
pub record EndInRoot (sides : SidesView) (part : List ToldStep) (root : ℕ) : Type 0 where
  -- they stand on one another
  pub told : IsTold (record { greatest = Some root; steps = part })
  -- the root is the last one
  pub last : last_id part ≡ Some root
  -- their originals are noted
  pub noted : AreNoted sides part

-- a step of the id is there, at one of so many first places
pub record IsBefore (part : List ToldStep) (bound : ℕ) (id : ℕ) : Type 0 where
  -- it is there
  pub has : HasId part id
  -- at one of these places
  pub before : (k : ℕ) (s : ToldStep) → slice_get part k ≡ Some s → s.id ≡ id → k < bound

-- the edges are those of the first steps, each at the place of its step
pub record AreFirstEdges (l : Labelling) (part : List ToldStep) (nodes : List Node) (edges : List Edge) : Type 0 where
  -- there are no more than steps
  pub count : length edges ≤ length part
  -- each is that of the clause at its place
  pub each : (k : ℕ) (s : ToldStep) (e : Edge) → slice_get part k ≡ Some s → slice_get edges k ≡ Some e → IsEdgeOf l part nodes s.id e

-- the edge is of the arena, has the value of the chain over the steps, and reaches variables alone that the rules let in
pub record IsEdgeOfChain (l : Labelling) (part : List ToldStep) (first : ℕ) (rest : List ChainStep) (nodes : List Node) (e : Edge) : Type 0 where
  -- it is of the arena
  pub within : e.place < length nodes
  -- its value
  pub value : (s : Assignment) → edge_value s nodes e ≡ chain_value l.label s (partial_values l s part) (partial_values l s part first) rest
  -- its variables
  pub inputs : (x : ℕ) → Contains (cone nodes e) x → MayEnter l part x

-- the edge is that of the step at the place
abbrev pub IsEdgeAt : Labelling → List ToldStep → ℕ → List Node → Edge → Type 0
IsEdgeAt l part place nodes e = (s : ToldStep) → slice_get part place ≡ Some s → IsEdgeOf l part nodes s.id e

-- what is said holds of each part that a root needs: of all the steps, the root and the part
abbrev pub EachNeededPart : (Told → ℕ → List ToldStep → Type 0) → Type 0
EachNeededPart Says = (t : Told) (root : ℕ) (part : List ToldStep) → IsTold t → IsNeededPart t.steps root part → Says t root part

-- what a walk over the part that a root needs tells of all steps
pub record NeededPartsTellAll : Type 0 where
  -- the part ends in the root
  pub ends : EachNeededPart (λ t root part. (sides : SidesView) → IsUnforgotten t.steps root → NeededAreNoted sides t.steps root → EndInRoot sides part root)
  -- an interpolant by the part is one by all
  pub one : EachNeededPart (λ t root part. (sides : SidesView) (cut : ℕ) (marks : ℕ → Label) (nodes : List Node) (e : Edge) → IsInterpolant sides cut marks part root nodes e → IsInterpolant sides cut marks t.steps root nodes e)
  -- so are outputs
  pub outputs : EachNeededPart (λ t root part. (sides : SidesView) (marks : ℕ → Label) (nodes : List Node) (cuts : List ℕ) (edges : List Edge) → AreInterpolants sides marks part root nodes cuts edges → AreInterpolants sides marks t.steps root nodes cuts edges)
