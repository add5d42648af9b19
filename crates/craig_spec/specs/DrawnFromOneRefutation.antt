-- Circuits whose outputs are the partial interpolants of one refutation: McMillan, "Interpolation and SAT-Based Model
-- Checking" (CAV 2003); Rollini, Sery and Sharygina, "Leveraging Interpolant Strength in Model Checking" (CAV 2012).
use Rattle.std.specs.Prelude.{◌≡◌, ◌≢◌, ℕ, ◌<◌, ◌≤◌, List, [], ◌∷◌, ◌++◌, All, AllPairs, Contains}
use Rattle.craig_spec.specs.Literal.{Literal, negation}
use Rattle.craig_spec.specs.Truth.{Assignment}
use Rattle.craig_spec.specs.Occurs.{occurs}
use Rattle.craig_spec.specs.Chain.{Original, ToldStep, SameLiterals, EachStands, AreRising}
use Rattle.craig_spec.specs.Needed.{IsOriginal}
use Rattle.craig_spec.specs.Circuit.{Circuit, circuit_value}
use Rattle.craig_spec.specs.Cut.{PartClause, side_a, side_b}
use Rattle.craig_spec.specs.PartialInterpolant.{Label, Labelling, cut_labelling, partial_interpolant}
use Rattle.craig_spec.specs.Sequence.{IsOutputAt}

-- the literals of one of the clauses that is no tautology, without repeats, told with its part
pub record IsOriginalOf (clauses : List PartClause) (step : ToldStep) : Type 0 where
  -- the clause that it is
  pub source : PartClause
  -- which is one of the clauses
  pub is_one : Contains clauses source
  -- of the same part
  pub part : step.origin ≡ Original source.part
  -- and has the same literals
  pub literals : SameLiterals source.clause step.literals
  -- no literal is told twice
  pub distinct : AllPairs (λ l m. l ≢ m) step.literals
  -- and none beside its negation
  pub not_tautology : (l : Literal) → Contains step.literals l → ¬ Contains step.literals (negation l)

-- the steps stand on one another, by rising id, and on these clauses alone, and the last one is the empty clause
pub record IsRefutationOf (clauses : List PartClause) (steps : List ToldStep) (root : ℕ) : Type 0 where
  -- the ids rise
  pub rising : AreRising steps
  -- each derived step has a chain over the steps before it
  pub stand : EachStands steps
  -- each original is one of the clauses
  pub originals : (step : ToldStep) → Contains steps step → IsOriginal step.origin → IsOriginalOf clauses step
  -- the steps but for the last one
  pub before : List ToldStep
  -- the last one
  pub last : ToldStep
  -- they are all
  pub ends : steps ≡ before ++ last ∷ []
  -- the last one is the root
  pub root_is : last.id ≡ root
  -- and the empty clause
  pub empty : last.literals ≡ []

-- the labelling of a cut by where the variables occur in the clauses as they are written
abbrev pub occurrence_labelling : List PartClause → ℕ → (ℕ → Label) → Labelling
occurrence_labelling clauses cut marks = cut_labelling cut (λ x. occurs x (side_a clauses cut)) (λ x. occurs x (side_b clauses cut)) marks

-- what one system gives: its labels, and its literals of a circuit
pub record MarkedLiterals : Type 0 where
  -- the labels of the variables of both sides
  pub marks : ℕ → Label
  -- one literal for each chosen cut
  pub literals : List ℕ

-- at each chosen cut between the outer ones the literal has the value of the root's partial interpolant
abbrev pub HaveRootValues : List PartClause → ℕ → List ℕ → List ToldStep → ℕ → Circuit → MarkedLiterals → Type 0
HaveRootValues clauses parts cuts steps root c system = (place cut l : ℕ) → IsOutputAt cuts system.literals place cut l → 1 ≤ cut → cut < parts →
    (s : Assignment) → circuit_value s c l ≡ partial_interpolant (occurrence_labelling clauses cut system.marks) steps root s

-- one refutation gives the literals of all the systems at the chosen cuts
pub record DrawnFromOneRefutation (clauses : List PartClause) (parts : ℕ) (cuts : List ℕ) (c : Circuit) (systems : List MarkedLiterals) : Type 0 where
  -- its steps
  pub steps : List ToldStep
  -- the id of the last one
  pub root : ℕ
  -- they refute the clauses
  pub refutes : IsRefutationOf clauses steps root
  -- and give the literals of each system their values
  pub values : All (HaveRootValues clauses parts cuts steps root c) systems
