-- The layout of the interpolants of the chosen cuts.
use Rattle.std.specs.Prelude.{◌≡◌, ℕ, List, [], ◌∷◌, map, All, Option}
use Rattle.std.specs.List.{flat_map}
use Rattle.craig_spec.specs.Chain.{ToldStep}
use Rattle.craig_label.specs.Sides.{SidesView}
use Rattle.craig_aig.specs.Edges.{Edge}
use Rattle.craig_aig.specs.declared.node.Node.{Node}
use Rattle.craig_aiger.specs.Layouts.{Layout, HasFunctions, IsLayout}
use Rattle.craig_aiger.specs.declared.family.Family.{Family}
use Rattle.craig_aiger.specs.declared.out_name.OutName.{OutName}
use Rattle.craig_itp.specs.Interpolants.{AreInterpolants}
use Rattle.craig_top.specs.WrittenSystems.{WrittenSystem}

-- the edges, each named by its cut and the family
abbrev pub edge_outputs : Option Family → List ℕ → List Edge → List (OutName × Edge)
edge_outputs family [] edges = []
edge_outputs family (cut ∷ cuts) [] = []
edge_outputs family (cut ∷ cuts) (e ∷ edges) = (record { family = family; cut = cut }, e) ∷ edge_outputs family cuts edges

-- the edges of one system, one for each of the cuts
pub record SystemEdges : Type 0 where
  -- the system, whose labels are those of dense variables
  pub system : WrittenSystem
  -- its edges, in the order of the cuts
  pub edges : List Edge

-- the outputs of the systems, one system after the other
abbrev pub systems_outputs : List ℕ → List SystemEdges → List (OutName × Edge)
systems_outputs cuts groups = flat_map (λ (g : SystemEdges). edge_outputs g.system.family cuts g.edges) groups

-- the outputs are those of the systems, whose edges are interpolants of the cuts
pub record AreSystemOutputs (sides : SidesView) (steps : List ToldStep) (root : ℕ) (nodes : List Node) (cuts : List ℕ) (systems : List WrittenSystem) (outputs : List (OutName × Edge)) : Type 0 where
  -- the edges of each system
  pub groups : List SystemEdges
  -- the systems are these
  pub systems_are : map (λ (g : SystemEdges). g.system) groups ≡ systems
  -- the edges are interpolants by the system
  pub interpolants : All (λ (g : SystemEdges). AreInterpolants sides g.system.marks steps root nodes cuts g.edges) groups
  -- and the outputs are these edges
  pub outputs_are : outputs ≡ systems_outputs cuts groups

-- the outputs of the layout are the interpolants of the cuts by the systems
pub record IsCutLayout (names : List ℕ) (sides : SidesView) (steps : List ToldStep) (root : ℕ) (cuts : List ℕ) (systems : List WrittenSystem) (layout : Layout) : Type 0 where
  -- the arena
  pub nodes : List Node
  -- the outputs
  pub outputs : List (OutName × Edge)
  -- they are those of the systems
  pub system_outputs : AreSystemOutputs sides steps root nodes cuts systems outputs
  -- the layout has the inputs, gates and outputs of the edges
  pub laid_out : IsLayout nodes names outputs layout
  -- each output has the function of its edge
  pub functions : HasFunctions nodes names outputs layout
