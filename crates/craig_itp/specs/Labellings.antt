-- Words of the laws of partial interpolants.
use Rattle.std.specs.Prelude.{◌≡◌, ℕ, Bool, true, false, not, ◌&&◌, List, [], Some, Contains, IsTrue, nat_eq, if◌then◌else◌}
use Rattle.craig_spec.specs.Literal.{Literal, Clause}
use Rattle.craig_spec.specs.Truth.{Assignment, clause_value, literal_value}
use Rattle.craig_spec.specs.Chain.{Original, ToldStep, Told, IsTold, clause_told}
use Rattle.craig_spec.specs.Needed.{IsNeeded}
use Rattle.craig_spec.specs.PartialInterpolant.{Label, Labelling, is_a, is_b, origin_value, partial_interpolant}
use Rattle.craig_label.specs.Sides.{SidesView}
use Rattle.craig_system.specs.Rules.{labelling}

-- the value of each step is that of its origin, by the values of its antecedents
abbrev pub MeetsRules : Labelling → Assignment → List ToldStep → (ℕ → Bool) → Type 0
MeetsRules l s steps value = (step : ToldStep) → Contains steps step → value step.id ≡ origin_value l s value step.literals step.origin

-- the two are one step, but for the mark of a forgotten one
pub record IsSameStep (q r : ToldStep) : Type 0 where
  -- they have one id
  pub id : q.id ≡ r.id
  -- the same clause
  pub literals : q.literals ≡ r.literals
  -- and the same origin
  pub origin : q.origin ≡ r.origin

-- each step of the first list is one of the second
abbrev pub AreStepsOf : List ToldStep → List ToldStep → Type 0
AreStepsOf some steps = (q : ToldStep) → Contains some q → (r : ToldStep) × Contains steps r × IsSameStep q r

-- the variable isn't labelled A in the low labelling nor B in the high one
abbrev pub crosses : Labelling → Labelling → ℕ → Bool
crosses low high x = not (is_a (low.label x)) && not (is_b (high.label x))

-- no literal of the clause is true whose variable crosses
abbrev pub CrossingAreFalse : Labelling → Labelling → Assignment → Clause → Type 0
CrossingAreFalse low high s c = (m : Literal) → Contains c m → IsTrue (crosses low high m.var) → literal_value s m ≡ false

-- the originals under the id are true that are leaves of side A in the high labelling alone
abbrev pub AddedHold : Labelling → Labelling → List ToldStep → ℕ → Assignment → Type 0
AddedHold low high steps id s = (r : ToldStep) (part : ℕ) → Contains steps r → IsNeeded steps id r.id → r.origin ≡ Original part → IsTrue (high.is_leaf_of_a part) → low.is_leaf_of_a part ≡ false → IsTrue (clause_value s r.literals)

-- where the partial interpolant of the first labelling is true, so is that of the second
abbrev pub ValueImplies : Labelling → Labelling → List ToldStep → ℕ → Assignment → Type 0
ValueImplies low high steps id s = IsTrue (partial_interpolant low steps id s) → IsTrue (partial_interpolant high steps id s)

-- the steps stand on one another, and the root is the empty clause
pub record IsEmptyRoot (t : Told) (root : ℕ) : Type 0 where
  -- they stand
  pub told : IsTold t
  -- and that is the root's clause
  pub empty : clause_told t.steps root ≡ Some []

-- the originals that the root needs are true, as far as their parts pass the test
abbrev pub PartsHold : (ℕ → Bool) → List ToldStep → ℕ → Assignment → Type 0
PartsHold test steps root s = (r : ToldStep) (part : ℕ) → Contains steps r → IsNeeded steps root r.id → r.origin ≡ Original part → IsTrue (test part) → IsTrue (clause_value s r.literals)

-- the value of the refutation's partial interpolant at a cut
abbrev pub cut_value : SidesView → (ℕ → Label) → List ToldStep → ℕ → ℕ → Assignment → Bool
cut_value sides marks steps root cut s = partial_interpolant (labelling sides cut marks) steps root s

-- the value of the refutation's output at a cut: true at cut 0, false behind all parts, and elsewhere that of the partial interpolant
abbrev pub output_value : SidesView → (ℕ → Label) → List ToldStep → ℕ → ℕ → Assignment → Bool
output_value sides marks steps root cut s = if nat_eq cut 0 then true else if nat_eq cut sides.parts then false else cut_value sides marks steps root cut s
