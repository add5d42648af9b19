-- The outputs of the written systems, from the edges of each system to what the text is read back as.
use Rattle.std.proofs.Common.{◌≡◌, ◌∙◌, sym, ap, refl, ℕ, ◌<◌, List, [], ◌∷◌, ◌++◌, length, map, slice_index, All, Option}
use Rattle.std.proofs.lemmas.List.{map-append}
use Rattle.std.proofs.lemmas.List.Elements.{All-cons, All-head, All-nil, All-tail}
use Rattle.craig_spec.specs.Chain.{ToldStep}
use Rattle.craig_spec.specs.Circuit.{Circuit, Output}
use Rattle.craig_spec.specs.PartialInterpolant.{Label}
use Rattle.craig_label.specs.Sides.{SidesView}
use Rattle.craig_aig.specs.Edges.{Edge}
use Rattle.craig_aig.specs.declared.node.Node.{Node}
use Rattle.craig_aiger.specs.declared.family.Family.{Family}
use Rattle.craig_itp.specs.Interpolants.{AreInterpolants}
use Rattle.craig_script.specs.declared.setting_words.SystemWord.{SystemWord}
use Rattle.craig_script.specs.declared.setting_words.SystemWord.TheVariants as word
use Rattle.craig_top.specs.Blocks.{printed_output}
use Rattle.craig_top.specs.CutLayout.{SystemEdges, edge_outputs, systems_outputs}
use Rattle.craig_top.specs.RefutationReply.{SystemLiterals, outputs_at, system_outputs}
use Rattle.craig_top.specs.WrittenOutputs.{HasMarks}
use Rattle.craig_top.specs.WrittenSystems.{WrittenSystem, label_of_mark, systems_of}
use Rattle.craig_top.proofs.OutputLemmas.{AreReadOf, reads-at, reads-count, reads-none, reads-printed, reads-split}
use Rattle.craig_top.proofs.SequenceLemmas.{AreLiteralsAt}

-- the written system has the family of the dense one, and gives the names its labels
pub record AgreesWith (names : List ℕ) (dense written : WrittenSystem) : Type 0 where
  pub family : dense.family ≡ written.family
  pub marks : (x : ℕ) → x < length names → dense.marks x ≡ written.marks (slice_index names x)

-- so do all of them, one after the other
abbrev pub AgreeInTurn : List ℕ → List WrittenSystem → List WrittenSystem → Type 0
AgreeInTurn names [] [] = Unit {0}
AgreeInTurn names [] (w ∷ ws) = ⊥
AgreeInTurn names (d ∷ ds) [] = ⊥
AgreeInTurn names (d ∷ ds) (w ∷ ws) = AgreesWith names d w × AgreeInTurn names ds ws

-- the systems of a word agree where the labels of dense variables are those of their names
pub systems-agree : (names : List ℕ) (system : SystemWord) (marks : List (ℕ × Label)) (label : ℕ → Label) → HasMarks names marks label → AgreeInTurn names (systems_of system label) (systems_of system (label_of_mark marks))
systems-agree names word.McMillan marks label has = (record { family = refl; marks = λ x below. refl }, tt)
systems-agree names word.Pudlak marks label has = (record { family = refl; marks = λ x below. refl }, tt)
systems-agree names word.Inverse marks label has = (record { family = refl; marks = λ x below. refl }, tt)
systems-agree names word.Dual marks label has = (record { family = refl; marks = λ x below. refl }, tt)
systems-agree names word.Marks marks label has = (record { family = refl; marks = has }, tt)
systems-agree names word.All marks label has =
    (record { family = refl; marks = λ x below. refl }, (record { family = refl; marks = λ x below. refl }, (record { family = refl; marks = λ x below. refl }, tt)))

-- the literals of a system are those of edges that are its interpolants
pub record IsReadSystem (names : List ℕ) (sides : SidesView) (steps : List ToldStep) (root : ℕ) (nodes : List Node) (cuts : List ℕ) (c : Circuit) (y : SystemLiterals) : Type 0 where
  pub label : ℕ → Label
  pub marks : (x : ℕ) → x < length names → label x ≡ y.system.marks (slice_index names x)
  pub edges : List Edge
  pub interpolants : AreInterpolants sides label steps root nodes cuts edges
  pub literals : AreLiteralsAt names nodes cuts edges c y.literals

-- the outputs that were read are those of the written systems
pub record AreReadSystems (names : List ℕ) (sides : SidesView) (steps : List ToldStep) (root : ℕ) (nodes : List Node) (cuts : List ℕ) (c : Circuit) (written : List WrittenSystem) (os : List Output) : Type 0 where
  pub systems : List SystemLiterals
  pub systems_are : map (λ (y : SystemLiterals). y.system) systems ≡ written
  pub outputs_are : os ≡ map printed_output (system_outputs cuts systems)
  pub each : All (IsReadSystem names sides steps root nodes cuts c) systems

module _ (names : List ℕ) (sides : SidesView) (steps : List ToldStep) (root : ℕ) (nodes : List Node) (cuts : List ℕ) (c : Circuit) where
  -- the literals of one system
  read_system : (g : SystemEdges) (w : WrittenSystem) (os : List Output) → AgreesWith names g.system w → AreInterpolants sides g.system.marks steps root nodes cuts g.edges → AreReadOf names nodes c (edge_outputs g.system.family cuts g.edges) os
      → IsReadSystem names sides steps root nodes cuts c (record { system = w; literals = map (λ (o : Output). o.literal) os })
  read_system g w os agree interpolants read = record {
    label = g.system.marks;
    marks = agree.marks;
    edges = g.edges;
    interpolants = interpolants;
    literals = record {
      count = reads-count names nodes c g.system.family cuts g.edges os interpolants.count read;
      each = λ k cut l at is. reads-at names nodes c g.system.family cuts g.edges os read k cut l at is;
    };
  }

  -- its outputs, and those of the others
  printed_systems : (family : Option Family) (os first others : List Output) (rest : List SystemLiterals) (w : WrittenSystem) → family ≡ w.family → os ≡ first ++ others
      → first ≡ map printed_output (outputs_at family cuts (map (λ (o : Output). o.literal) first)) → others ≡ map printed_output (system_outputs cuts rest)
      → os ≡ map printed_output (system_outputs cuts (record { system = w; literals = map (λ (o : Output). o.literal) first } ∷ rest))
  printed_systems family os first others rest w same split one more =
      let literals : List ℕ = map (λ (o : Output). o.literal) first in
      split ∙ ap (λ (os : List Output). os ++ others) (one ∙ ap (λ f. map printed_output (outputs_at f cuts literals)) same) ∙ ap (λ (os : List Output). map printed_output (outputs_at w.family cuts literals) ++ os) more
      ∙ sym (map-append printed_output (outputs_at w.family cuts literals) (system_outputs cuts rest))

  pub read_systems : (groups : List SystemEdges) (written : List WrittenSystem) (os : List Output) → AgreeInTurn names (map (λ (g : SystemEdges). g.system) groups) written
      → All (λ (g : SystemEdges). AreInterpolants sides g.system.marks steps root nodes cuts g.edges) groups → AreReadOf names nodes c (systems_outputs cuts groups) os → AreReadSystems names sides steps root nodes cuts c written os
  read_systems [] [] os agree each read = record { systems = []; systems_are = refl; outputs_are = reads-none names nodes c os read; each = All-nil _ }
  read_systems [] (w ∷ ws) os agree each read = absurd agree
  read_systems (g ∷ groups) [] os agree each read = absurd agree
  read_systems (g ∷ groups) (w ∷ ws) os agree each read =
      let P : SystemEdges → Type 0 = λ (h : SystemEdges). AreInterpolants sides h.system.marks steps root nodes cuts h.edges in
      let split = reads-split names nodes c (edge_outputs g.system.family cuts g.edges) (systems_outputs cuts groups) os read in
      let rest = read_systems groups ws split.1 agree.1 (All-tail P g groups each) split.4 in
      let own = All-head P g groups each in
      record {
        systems = record { system = w; literals = map (λ (o : Output). o.literal) split.0 } ∷ rest.systems;
        systems_are = ap (λ (vs : List WrittenSystem). w ∷ vs) rest.systems_are;
        outputs_are = printed_systems g.system.family os split.0 split.1 rest.systems w (agree.0).family split.2 (reads-printed names nodes c g.system.family cuts g.edges split.0 own.count split.3) rest.outputs_are;
        each = All-cons (IsReadSystem names sides steps root nodes cuts c) (record { system = w; literals = map (λ (o : Output). o.literal) split.0 }) rest.systems (read_system g w split.0 agree.0 own split.3) rest.each;
      }
