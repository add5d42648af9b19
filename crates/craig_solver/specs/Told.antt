-- What a solver tells a tracer that tells its meaning.
use Rattle.std.specs.Prelude.{◌≡◌, ◌⊎◌, ℕ, false, List, [], ◌∷◌, Option, Some, Contains}
use Rattle.std.specs.Option.{ForSome}
use Rattle.craig_spec.specs.Literal.{Clause, Literal}
use Rattle.craig_spec.specs.Chain.{ChainStep, Original, Derived, SameLiterals, Told, ToldStep, IsTold, IsUnforgotten, clause_told}
use Rattle.craig_spec.specs.Needed.{IsNeeded, IsOriginal}
use Rattle.craig_base.specs.Clauses.{IsNormal, IsTautology}
use Rattle.craig_proof.specs.Tracer.{Appends, original_step}
use Rattle.craig_base.specs.declared.script_part.Part.{Part}
use Rattle.craig_search.specs.Tells.{IsUnitStep}
use Rattle.craig_search.specs.Verdict.{Assumptions}
use Rattle.craig_solver.specs.declared.answer.Answer.{Answer}
use Rattle.craig_solver.specs.declared.answer.Answer.TheVariants.{Model, Failed, Limit}

-- the step of an accepted clause that is no tautology
pub record IsAcceptedStep (accepted : List (Part × Clause)) (s : ToldStep) : Type 0 where
  -- the part and the clause as it was written
  pub pair : Part × Clause
  -- it was accepted
  pub is_accepted : Contains accepted pair
  -- it was told with its part
  pub part : s.origin ≡ Original pair.0.0
  -- its literals in any order
  pub literals : SameLiterals pair.1 s.literals
  -- and without repeats
  pub normal : IsNormal s.literals

-- the step has one literal, as the unit of an assumption
abbrev pub IsUnit : ToldStep → Type 0
IsUnit s = (l : Literal) × (s.literals ≡ l ∷ [])

-- each original is an accepted clause or the unit of an assumption
abbrev pub AreAccepted : List (Part × Clause) → Told → Type 0
AreAccepted accepted t = (s : ToldStep) → Contains t.steps s → IsOriginal s.origin → IsAcceptedStep accepted s ⊎ IsUnit s

-- each original that isn't forgotten is an accepted clause
abbrev pub AreAllAccepted : List (Part × Clause) → Told → Type 0
AreAllAccepted accepted t = (s : ToldStep) → Contains t.steps s → IsOriginal s.origin → s.forgotten ≡ false → IsAcceptedStep accepted s

-- the accepted clause is told as an original of its part, its literals in any order
abbrev pub IsClauseTold : Told → Part × Clause → Type 0
IsClauseTold t p = (s : ToldStep) × Contains t.steps s × (s.origin ≡ Original p.0.0) × SameLiterals p.1 s.literals

-- each accepted clause that is no tautology is told
abbrev pub AreAllTold : List (Part × Clause) → Told → Type 0
AreAllTold accepted t = (p : Part × Clause) → Contains accepted p → ¬ IsTautology p.1 → IsClauseTold t p

-- what was told of the accepted clauses
pub record IsToldOf (accepted : List (Part × Clause)) (t : Told) : Type 0 where
  -- the steps stand on one another
  pub stand : IsTold t
  -- each original is an accepted clause or the unit of an assumption
  pub originals : AreAccepted accepted t
  -- and each accepted clause that is no tautology is an original
  pub all_told : AreAllTold accepted t

-- the root of a refutation, where there is one, was told as an empty clause and isn't forgotten
abbrev pub IsRootTold : Option Told → Option ℕ → Type 0
IsRootTold told number = (root : ℕ) → number ≡ Some root → ForSome told (λ t. IsUnforgotten t.steps root × (clause_told t.steps root ≡ Some []))

-- an accepted clause is told
pub record TellsNext (part : Part) (clause : Clause) (before after : Option Told) : Type 0 where
  -- but of a tautology nothing is
  pub tautology : IsTautology clause → after ≡ before
  -- every other one is an original of its part, without repeats
  pub normal : ¬ IsTautology clause → (id : ℕ) × (d : Clause) × SameLiterals clause d × IsNormal d × Appends before after (original_step id part.0 d)

-- a refutation was told
pub record IsRefutation (accepted : List (Part × Clause)) (assumptions : Assumptions) (root : ℕ) (places : List ℕ) (t : Told) : Type 0 where
  -- the first antecedent of the empty clause
  pub first : ℕ
  -- its other antecedents
  pub rest : List ChainStep
  -- it was told under the root
  pub told : Contains t.steps (record { id = root; literals = []; origin = Derived first rest; forgotten = false })
  -- which isn't forgotten
  pub unforgotten : IsUnforgotten t.steps root
  -- of the originals it needs accepted clauses and units of failed assumptions alone
  pub needs : (s : ToldStep) → Contains t.steps s → IsOriginal s.origin → IsNeeded t.steps root s.id → IsAcceptedStep accepted s ⊎ IsUnitStep assumptions places s

-- by the answer: only a refutation is told
abbrev pub TellsAnswer : List (Part × Clause) → Assumptions → Answer → Told → Type 0
TellsAnswer accepted assumptions (Model values) t = Unit {0}
TellsAnswer accepted assumptions (Failed root places) t = IsRefutation accepted assumptions root.0 places t
TellsAnswer accepted assumptions (Limit lemmas) t = Unit {0}
