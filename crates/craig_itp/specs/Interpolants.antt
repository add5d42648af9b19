-- Which edges are interpolants of a refutation.
use Rattle.std.specs.Prelude.{◌≡◌, ◌<◌, ◌≤◌, ◌+◌, true, false, ℕ, List, length, slice_get, Some, Contains, IsTrue}
use Rattle.craig_spec.specs.Truth.{Assignment}
use Rattle.craig_spec.specs.Occurs.{occurs_in_clause}
use Rattle.craig_spec.specs.Chain.{Original, ToldStep}
use Rattle.craig_spec.specs.Needed.{IsNeeded}
use Rattle.craig_spec.specs.PartialInterpolant.{Label, partial_interpolant}
use Rattle.craig_label.specs.Sides.{Range, SidesView, range_of, side_at}
use Rattle.craig_label.specs.declared.side.Side.TheVariants.{Shared}
use Rattle.craig_aig.specs.Edges.{Edge}
use Rattle.craig_aig.specs.Values.{edge_value}
use Rattle.craig_aig.specs.Cones.{cone}
use Rattle.craig_aig.specs.Conjunctions.{constant_edge}
use Rattle.craig_aig.specs.declared.node.Node.{Node}
use Rattle.craig_system.specs.Rules.{labelling}
use Rattle.craig_itp.specs.CutTracer.{Setting}

-- the variable was noted in the part, or in parts before and after it; a common one was noted in part 0
abbrev pub Spans : SidesView → ℕ → ℕ → Type 0
Spans sides x part = (r : Range) × (range_of sides x ≡ Some r) × (r.first ≤ part) × (part ≤ r.last)

-- the sides have noted each variable of an original in its part
abbrev pub IsNotedStep : SidesView → ToldStep → Type 0
IsNotedStep sides step = (part x : ℕ) → step.origin ≡ Original part → IsTrue (occurs_in_clause x step.literals) → Spans sides x part

-- so they have for each step
abbrev pub AreNoted : SidesView → List ToldStep → Type 0
AreNoted sides steps = (step : ToldStep) → Contains steps step → IsNotedStep sides step

-- so they have for each step that the root needs
abbrev pub NeededAreNoted : SidesView → List ToldStep → ℕ → Type 0
NeededAreNoted sides steps root = (step : ToldStep) → Contains steps step → IsNeeded steps root step.id → IsNotedStep sides step

-- the originals that the root needs are of parts up to the last one
abbrev pub NeededHaveParts : ℕ → List ToldStep → ℕ → Type 0
NeededHaveParts parts steps root = (step : ToldStep) (part : ℕ) → Contains steps step → IsNeeded steps root step.id → step.origin ≡ Original part → part ≤ parts

-- the edge has the value of the partial interpolant of the clause under the id
abbrev pub HasPartialValue : SidesView → ℕ → (ℕ → Label) → List ToldStep → ℕ → List Node → Edge → Type 0
HasPartialValue sides cut marks steps id nodes e = (s : Assignment) → edge_value s nodes e ≡ partial_interpolant (labelling sides cut marks) steps id s

-- the same at the cut of a tracer and by its labels
abbrev pub HasValueAt : Setting → List ToldStep → ℕ → List Node → Edge → Type 0
HasValueAt at steps id nodes e = HasPartialValue at.sides at.cut at.marks steps id nodes e

-- each variable that the edge reaches occurs on both sides of the cut
abbrev pub HasSharedInputs : SidesView → ℕ → List Node → Edge → Type 0
HasSharedInputs sides cut nodes e = (x : ℕ) → Contains (cone nodes e) x → side_at sides cut x ≡ Shared

-- the edge of the arena is the interpolant of the refutation at the cut
pub record IsInterpolant (sides : SidesView) (cut : ℕ) (marks : ℕ → Label) (steps : List ToldStep) (root : ℕ) (nodes : List Node) (e : Edge) : Type 0 where
  -- it is of the arena
  pub within : e.place < length nodes
  -- it has the value that the rules give to the root
  pub value : HasPartialValue sides cut marks steps root nodes e
  -- each variable that it reaches is shared
  pub inputs : HasSharedInputs sides cut nodes e

-- the edge of the arena is the refutation's output at the cut: constant at the outer cuts, and the interpolant elsewhere
pub record IsOutput (sides : SidesView) (cut : ℕ) (marks : ℕ → Label) (steps : List ToldStep) (root : ℕ) (nodes : List Node) (e : Edge) : Type 0 where
  -- that of cut 0 is the constant true
  pub first : cut ≡ 0 → e ≡ constant_edge true
  -- that of the cut behind all parts is the constant false
  pub last : cut ≡ sides.parts → e ≡ constant_edge false
  -- each other one is the interpolant at its cut
  pub inner : 1 ≤ cut → cut < sides.parts → IsInterpolant sides cut marks steps root nodes e

-- there is an output for each of the cuts, in order, all of the one refutation
pub record AreInterpolants (sides : SidesView) (marks : ℕ → Label) (steps : List ToldStep) (root : ℕ) (nodes : List Node) (cuts : List ℕ) (edges : List Edge) : Type 0 where
  -- one for each cut
  pub count : length edges ≡ length cuts
  -- each is the output at the cut of its place
  pub each : (place cut : ℕ) (e : Edge) → slice_get cuts place ≡ Some cut → slice_get edges place ≡ Some e → IsOutput sides cut marks steps root nodes e
