-- The outputs by the systems that a reply has, and how the marks of script variables are those of dense ones.
use Rattle.std.specs.Prelude.{◌≡◌, ℕ, ◌<◌, List, length, slice_index}
use Rattle.craig_spec.specs.PartialInterpolant.{Label}
use Rattle.craig_aig.specs.Edges.{Edge}
use Rattle.craig_aig.specs.declared.node.Node.{Node}
use Rattle.craig_aiger.specs.Layouts.{Layout}
use Rattle.craig_aiger.specs.declared.out_name.OutName.{OutName}
use Rattle.craig_top.specs.CutLayout.{AreSystemOutputs, IsCutLayout}
use Rattle.craig_top.specs.Material.{MaterialView}
use Rattle.craig_top.specs.WrittenSystems.{WrittenSystem, label_of_mark, systems_of}

-- each dense variable has the label that its name has by the marks
abbrev pub HasMarks : List ℕ → List (ℕ × Label) → (ℕ → Label) → Type 0
HasMarks names marks label = (x : ℕ) → x < length names → label x ≡ label_of_mark marks (slice_index names x)

-- the outputs are those of the systems, by the steps that the solver has told
abbrev pub AreOutputsOf : MaterialView → (root : ℕ) → List Node → (cuts : List ℕ) → List WrittenSystem → List (OutName × Edge) → Type 0
AreOutputsOf m root nodes cuts systems outputs = AreSystemOutputs m.sides m.told.steps root nodes cuts systems outputs

-- the outputs are those of the systems that are set, where dense variables have these labels by their marks
pub record AreWrittenOutputs (m : MaterialView) (root : ℕ) (nodes : List Node) (cuts : List ℕ) (outputs : List (OutName × Edge)) : Type 0 where
  -- the labels of the dense variables by the marks
  pub label : ℕ → Label
  -- they are those of the names
  pub marks : HasMarks m.names m.settings.marks label
  -- the outputs are those of the systems
  pub outputs_are : AreSystemOutputs m.sides m.told.steps root nodes cuts (systems_of m.settings.system label) outputs

-- so are the outputs of the layout
pub record IsWrittenLayout (m : MaterialView) (root : ℕ) (layout : Layout) : Type 0 where
  -- the labels of the dense variables by the marks
  pub label : ℕ → Label
  -- they are those of the names
  pub marks : HasMarks m.names m.settings.marks label
  -- the layout has the interpolants
  pub laid : IsCutLayout m.names m.sides m.told.steps root m.settings.cuts (systems_of m.settings.system label) layout
