-- A tracer that interpolates at one cut.
use Rattle.std.specs.Prelude.{ℕ, ◌≤◌, Bool, false, List}
use Rattle.craig_spec.specs.Chain.{Told, nothing_told}
use Rattle.craig_spec.specs.PartialInterpolant.{Label}
use Rattle.craig_label.specs.Sides.{SidesView}
use Rattle.craig_aig.specs.declared.node.Node.{Node}
use Rattle.craig_system.specs.Rules.{labelling}
use Rattle.craig_itp.specs.StepEdges.{AreEdges}
use Rattle.craig_itp.specs.declared.step_edge.StepEdge.{StepEdge}

-- what no call changes
pub record Setting : Type 0 where
  -- the nodes that the arena had at first
  pub older : List Node
  -- in which parts variables occur
  pub sides : SidesView
  -- the last part of side A
  pub cut : ℕ
  -- the labels of the system for variables of both sides
  pub marks : ℕ → Label

-- a tracer that interpolates at one cut
pub record CutTracerView (S : Type 0) : Type 0 where
  -- what it was told
  pub told : Told
  -- the nodes of its arena
  pub nodes : List Node
  -- those that the arena had at first
  pub older : List Node
  -- in which parts variables occur
  pub sides : SidesView
  -- the last part of side A
  pub cut : ℕ
  -- the system of interpolation
  pub system : S
  -- whether a call wanted memory in vain, after which each further one that can say so is refused
  pub dead : Bool

-- a tracer that was told nothing, over an arena with these nodes
abbrev pub new_tracer : {S : Type 0} → List Node → SidesView → ℕ → S → CutTracerView S
new_tracer nodes sides cut system = record { told = nothing_told; nodes = nodes; older = nodes; sides = sides; cut = cut; system = system; dead = false }

-- the setting of a tracer whose system has these labels
abbrev pub setting : {S : Type 0} → (ℕ → Label) → CutTracerView S → Setting
setting marks v = record { older = v.older; sides = v.sides; cut = v.cut; marks = marks }

-- what a tracer keeps
pub record IsCutTracer (sides : SidesView) (cut : ℕ) (marks : ℕ → Label) (t : Told) (older : ℕ) (nodes : List Node) (edges : List StepEdge) : Type 0 where
  -- the cut is within the parts
  pub cut_within : cut ≤ sides.parts
  -- each told step has its edge
  pub edges_are : AreEdges (labelling sides cut marks) t.steps older nodes edges
