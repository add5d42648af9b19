-- The reply to a solve where there is no model: the failed assumptions, and the interpolants of the cuts.
use Rattle.std.specs.Prelude.{◌≡◌, ℕ, ◌≤◌, List, [], ◌∷◌, map, codes, Option, All, Contains}
use Rattle.std.specs.List.{flat_map}
use Rattle.craig_spec.specs.Circuit.{Circuit}
use Rattle.craig_spec.specs.Cut.{PartClause, PartLiteral, with_units}
use Rattle.craig_spec.specs.DrawnFromOneRefutation.{DrawnFromOneRefutation, MarkedLiterals}
use Rattle.craig_spec.specs.FailedAssumptions.{NamesFailed}
use Rattle.craig_spec.specs.PartialInterpolant.{Label, rank}
use Rattle.craig_spec.specs.Sequence.{IsSequence}
use Rattle.craig_spec.specs.Strength.{ImplyInTurn}
use Rattle.craig_aiger.specs.declared.family.Family.{Family}
use Rattle.craig_aiger.specs.declared.out_name.OutName.{OutName}
use Rattle.craig_top.specs.Blocks.{Block, IsBlockOf}
use Rattle.craig_top.specs.Formats.{CircuitFormat, format_in}
use Rattle.craig_top.specs.GivenState.{ScriptSettings, State}
use Rattle.craig_top.specs.ReplyTexts.{unsatisfiable_text}
use Rattle.craig_top.specs.WrittenSystems.{WrittenSystem, written_systems}

-- the literals that one system has in a circuit, one for each of the cuts
pub record SystemLiterals : Type 0 where
  -- the system
  pub system : WrittenSystem
  -- the literals, in the order of the cuts
  pub literals : List ℕ

-- the outputs of these literals, each named by its cut and the family
abbrev pub outputs_at : Option Family → List ℕ → List ℕ → List (OutName × ℕ)
outputs_at family [] literals = []
outputs_at family (cut ∷ cuts) [] = []
outputs_at family (cut ∷ cuts) (l ∷ literals) = (record { family = family; cut = cut }, l) ∷ outputs_at family cuts literals

-- the outputs of the systems, one system after the other
abbrev pub system_outputs : List ℕ → List SystemLiterals → List (OutName × ℕ)
system_outputs cuts systems = flat_map (λ (y : SystemLiterals). outputs_at y.system.family cuts y.literals) systems

-- the literals of a system with the labels that it gives
abbrev pub marked : SystemLiterals → MarkedLiterals
marked y = record { marks = y.system.marks; literals = y.literals }

-- no variable has a higher label in the first system than in the second
abbrev pub AreNoHigher : (ℕ → Label) → (ℕ → Label) → Type 0
AreNoHigher low high = (x : ℕ) → rank (low x) ≤ rank (high x)

-- a system whose labels are nowhere higher has the stronger interpolants (D'Silva and others, VMCAI 2010)
abbrev pub AreByStrength : Circuit → List SystemLiterals → Type 0
AreByStrength c systems = (y z : SystemLiterals) → Contains systems y → Contains systems z → AreNoHigher y.system.marks z.system.marks → ImplyInTurn c y.literals z.literals

-- what the outputs of a circuit mean, whatever text they have: they are sequences of interpolants of the clauses by the systems of the settings, ordered by strength and drawn from one refutation
pub record HasInterpolants (clauses : List PartClause) (settings : ScriptSettings) (c : Circuit) (systems : List SystemLiterals) : Type 0 where
  -- the systems are those that are set
  pub systems_are : map (λ (y : SystemLiterals). y.system) systems ≡ written_systems settings
  -- the literals of each are a sequence over the cuts
  pub sequences : All (λ (y : SystemLiterals). IsSequence clauses settings.parts settings.cuts c y.literals) systems
  -- the stronger imply the weaker
  pub strength : AreByStrength c systems
  -- one refutation gives the values of all of them
  pub drawn : DrawnFromOneRefutation clauses settings.parts settings.cuts c (map marked systems)

-- the block has the interpolants of the clauses, written in the format
pub record GivesInterpolants (clauses : List PartClause) (settings : ScriptSettings) (written_in : CircuitFormat) (block : Block) : Type 0 where
  -- the letter of its line
  pub letter : block.letter ≡ codes "a"
  -- its bytes are in that format
  pub format : block.format ≡ written_in
  -- what the bytes are read back as
  pub circuit : Circuit
  -- the bytes are a text of it, with the outputs of the block
  pub is_text : IsBlockOf circuit block
  -- the literals of each system
  pub systems : List SystemLiterals
  -- the outputs are these literals, named by the cuts
  pub outputs_are : block.outputs ≡ system_outputs settings.cuts systems
  -- which are interpolants
  pub interpolants : HasInterpolants clauses settings circuit systems

-- the reply names failed assumptions, and then has a block with the interpolants of the accepted clauses and of these
pub record IsRefutationReply (state : State) (assumptions : List PartLiteral) (text : List ℕ) : Type 0 where
  -- the assumptions that are named
  pub failed : List PartLiteral
  -- they are some of those given, in order
  pub names_failed : NamesFailed assumptions failed
  -- the interpolants of the cuts
  pub block : Block
  -- the named literals and then the blocks, and nothing else
  pub text_is : text ≡ unsatisfiable_text (map (λ (f : PartLiteral). f.literal) failed) (block ∷ [])
  -- the block gives interpolants of the clauses and the named assumptions
  pub gives : GivesInterpolants (with_units state.accepted failed) state.settings (format_in state assumptions) block
