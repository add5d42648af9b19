-- What is known of the values of partial interpolants over told steps, whichever edges stand for them.
--
-- After D'Silva, Kroening, Purandare and Weissenbacher, VMCAI 2010, for two labellings of one refutation, and Rollini,
-- Sery and Sharygina, CAV 2012, for its cuts.
use Rattle.std.specs.Prelude.{◌≡◌, ◌≢◌, ◌<◌, ◌≤◌, ℕ, Bool, true, false, List, [], Some, Contains, IsTrue, nat_le}
use Rattle.craig_spec.specs.Truth.{Assignment}
use Rattle.craig_spec.specs.Chain.{ToldStep, Told, IsTold, clause_told, with_step, without_id}
use Rattle.craig_spec.specs.Needed.{IsNeeded, IsNeededPart, Reclaims}
use Rattle.craig_spec.specs.Cut.{is_between, is_on_side_a, is_on_side_b}
use Rattle.craig_spec.specs.PartialInterpolant.{Label, Labelling, IsBelow, highest_labelling, lowest_labelling, rank, origin_value, partial_interpolant, partial_values}
use Rattle.craig_label.specs.Sides.{SidesView}
use Rattle.craig_system.specs.Rules.{labelling}
use Rattle.craig_itp.specs.Interpolants.{NeededHaveParts}
use Rattle.craig_itp.specs.Labellings.{AddedHold, AreStepsOf, CrossingAreFalse, IsEmptyRoot, MeetsRules, PartsHold, ValueImplies, cut_value, output_value}

-- the values are those that the rules give, step by step
pub record PartialValuesByRules : Type 0 where
  -- they meet the rules at each step
  pub rules : (l : Labelling) (s : Assignment) (t : Told) → IsTold t → MeetsRules l s t.steps (partial_values l s t.steps)
  -- no others do
  pub unique : (l : Labelling) (s : Assignment) (t : Told) (value : ℕ → Bool) → IsTold t → MeetsRules l s t.steps value → (step : ToldStep) → Contains t.steps step → value step.id ≡ partial_values l s t.steps step.id
  -- that of a new step is by those before it
  pub new : (l : Labelling) (s : Assignment) (t : Told) (step : ToldStep) → partial_values l s (with_step t step).steps step.id ≡ origin_value l s (partial_values l s t.steps) step.literals step.origin
  -- which stay
  pub old : (l : Labelling) (s : Assignment) (t : Told) (step : ToldStep) (id : ℕ) → id ≢ step.id → partial_values l s (with_step t step).steps id ≡ partial_values l s t.steps id
  -- also when an id is forgotten
  pub forgotten : (l : Labelling) (s : Assignment) (t : Told) (id : ℕ) → partial_values l s (without_id id t).steps ≡ partial_values l s t.steps
  -- or steps are given up
  pub reclaimed : (l : Labelling) (s : Assignment) (before after : Told) → IsTold before → Reclaims before after → (step : ToldStep) → Contains after.steps step → partial_values l s after.steps step.id ≡ partial_values l s before.steps step.id
  -- a step that stands in two lists has one value
  pub fewer : (l : Labelling) (s : Assignment) (t u : Told) → IsTold t → IsTold u → AreStepsOf u.steps t.steps → (step : ToldStep) → Contains u.steps step → partial_values l s u.steps step.id ≡ partial_values l s t.steps step.id

-- the part of the steps that a root needs gives each needed id the value that all steps give it
abbrev pub PartialValuesOfNeededPart : Type 0
PartialValuesOfNeededPart = (l : Labelling) (s : Assignment) (t : Told) → IsTold t → (root : ℕ) (part : List ToldStep) → IsNeededPart t.steps root part → (id : ℕ) → IsNeeded t.steps root id → partial_values l s part id ≡ partial_values l s t.steps id

-- what two labellings of one refutation say of each other, the first nowhere above the second
pub record LabellingsImply : Type 0 where
  -- the value of a clause by the first implies that by the second, under the originals and the literals between the two
  pub clause : (low high : Labelling) → IsBelow low high → (t : Told) → IsTold t → (step : ToldStep) → Contains t.steps step → (s : Assignment) → AddedHold low high t.steps step.id s → CrossingAreFalse low high s step.literals → ValueImplies low high t.steps step.id s
  -- the empty clause has no literal
  pub empty : (low high : Labelling) → IsBelow low high → (t : Told) → IsTold t → (root : ℕ) → clause_told t.steps root ≡ Some [] → (s : Assignment) → AddedHold low high t.steps root s → ValueImplies low high t.steps root s

-- the values of the outermost labellings are constant
pub record OutermostAreConstant : Type 0 where
  -- where all is labelled B and no clause is a leaf of side A, each clause has the value true
  pub lowest : (t : Told) → IsTold t → (step : ToldStep) → Contains t.steps step → (s : Assignment) → partial_interpolant lowest_labelling t.steps step.id s ≡ true
  -- where all is labelled A and each clause is a leaf of side A, false
  pub highest : (t : Told) → IsTold t → (step : ToldStep) → Contains t.steps step → (s : Assignment) → partial_interpolant highest_labelling t.steps step.id s ≡ false

-- the partial interpolants of one refutation at its cuts
pub record CutsFollow : Type 0 where
  -- each follows from the originals of side A
  pub implied : (sides : SidesView) (marks : ℕ → Label) (t : Told) (root : ℕ) → IsEmptyRoot t root → (cut : ℕ) (s : Assignment) → PartsHold (is_on_side_a cut) t.steps root s → cut_value sides marks t.steps root cut s ≡ true
  -- and contradicts those of side B
  pub refuted : (sides : SidesView) (marks : ℕ → Label) (t : Told) (root : ℕ) → IsEmptyRoot t root → (cut : ℕ) (s : Assignment) → PartsHold (is_on_side_b cut) t.steps root s → cut_value sides marks t.steps root cut s ≡ false
  -- with the originals between them each implies that of a later cut
  pub step : (sides : SidesView) (marks : ℕ → Label) (t : Told) (root : ℕ) → IsEmptyRoot t root → (cut later : ℕ) → cut ≤ later → (s : Assignment) → PartsHold (is_between cut later) t.steps root s → IsTrue (cut_value sides marks t.steps root cut s) → IsTrue (cut_value sides marks t.steps root later s)
  -- and no assignment makes all originals true
  pub nothing_left : (t : Told) (root : ℕ) → IsEmptyRoot t root → (s : Assignment) → ¬ PartsHold (λ part. true) t.steps root s

-- what is said holds of each refutation by originals of parts up to the last one: of the sides, the steps and their root
abbrev pub EachPartedRoot : (SidesView → List ToldStep → ℕ → Type 0) → Type 0
EachPartedRoot Says = (sides : SidesView) (t : Told) (root : ℕ) → IsEmptyRoot t root → 1 ≤ sides.parts → NeededHaveParts sides.parts t.steps root → Says sides t.steps root

-- the outputs of one refutation at its cuts
pub record OutputsFollow : Type 0 where
  -- each follows from the originals of side A
  pub implied : (marks : ℕ → Label) → EachPartedRoot (λ sides steps root. (cut : ℕ) → cut ≤ sides.parts → (s : Assignment) → PartsHold (is_on_side_a cut) steps root s → output_value sides marks steps root cut s ≡ true)
  -- and contradicts those of side B
  pub refuted : (marks : ℕ → Label) → EachPartedRoot (λ sides steps root. (cut : ℕ) → cut ≤ sides.parts → (s : Assignment) → PartsHold (is_on_side_b cut) steps root s → output_value sides marks steps root cut s ≡ false)
  -- with the originals between them each implies that of a later cut
  pub step : (marks : ℕ → Label) → EachPartedRoot (λ sides steps root. (cut later : ℕ) → cut < later → later ≤ sides.parts → (s : Assignment) → PartsHold (is_between cut later) steps root s → IsTrue (output_value sides marks steps root cut s) → IsTrue (output_value sides marks steps root later s))

-- at one cut, marks that are nowhere above others give an interpolant that implies the one by the others
abbrev pub MarksByStrength : Type 0
MarksByStrength = (sides : SidesView) (cut : ℕ) (strong weak : ℕ → Label) → ((x : ℕ) → IsTrue (nat_le (rank (strong x)) (rank (weak x)))) → (t : Told) → IsTold t → (root : ℕ) → clause_told t.steps root ≡ Some [] → (s : Assignment) → ValueImplies (labelling sides cut strong) (labelling sides cut weak) t.steps root s
