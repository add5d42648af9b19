-- What a solver is seen as, and what its calls change.
use Rattle.std.specs.Prelude.{◌≡◌, ℕ, ◌<◌, ◌++◌, [], ◌∷◌, Bool, List, Option, Some, Contains, IsTrue, length, slice_index_or}
use Rattle.std.specs.Option.{ForSome}
use Rattle.craig_spec.specs.Literal.{Clause}
use Rattle.craig_spec.specs.Chain.{SameLiterals, Told, IsUnforgotten}
use Rattle.craig_spec.specs.Truth.{Implies, clause_value}
use Rattle.craig_base.specs.Clauses.{IsNormal, IsTautology}
use Rattle.craig_base.specs.LemmaRule.{ContainsClause}
use Rattle.craig_base.specs.declared.script_part.Part.{Part}
use Rattle.craig_search.specs.Verdict.{Assumptions}
use Rattle.craig_solver.specs.declared.answer.Answer.{Answer}
use Rattle.craig_solver.specs.Answer.{IsAnswer, accepted_clauses, root_of_answer}
use Rattle.craig_solver.specs.Told.{TellsAnswer, TellsNext}

-- what contracts see of a solver
pub record SolverView (T : Type 0) : Type 0 where
  -- the accepted clauses as they were written, with their parts
  pub accepted : List (Part × Clause)
  -- how many variables are known
  pub vars : ℕ
  -- the held clauses that are not learnt, in the order in which they were added
  pub held : List Clause
  -- who is told of the clauses
  pub tracer : T
  -- the root of the last answer, if that was a refutation
  pub root : Option ℕ
  -- whether memory was refused
  pub dead : Bool

-- the held clauses stand for the accepted ones
pub record StandFor (clauses held : List Clause) : Type 0 where
  -- each accepted clause that is no tautology contains a held one
  pub contained : (c : Clause) → Contains clauses c → ¬ IsTautology c → (d : Clause) × Contains held d × ContainsClause c d
  -- each held one follows from the accepted ones
  pub implied : (d : Clause) → Contains held d → Implies clauses (λ s. IsTrue (clause_value s d))

-- the same clauses but for the order of their literals
pub record AreReordered (old new : List Clause) : Type 0 where
  -- there are as many
  pub many : length new ≡ length old
  -- and at each place one with the same literals
  pub same : (k : ℕ) (d : Clause) → k < length old → SameLiterals (slice_index_or old k d) (slice_index_or new k d)

-- an accepted clause is held behind the others
pub record HoldsNext (clause : Clause) (old new : List Clause) : Type 0 where
  -- but a tautology is not
  pub tautology : IsTautology clause → new ≡ old
  -- every other one is, without repeats
  pub normal : ¬ IsTautology clause → (d : Clause) × SameLiterals clause d × IsNormal d × (new ≡ old ++ d ∷ [])

-- one clause more is accepted, where the tracer was told this before and that after it
pub record IsAdded {T : Type 0} (part : Part) (clause : Clause) (before after : Option Told) (old new : SolverView T) : Type 0 where
  -- it stands last, as it was written
  pub accepted : new.accepted ≡ old.accepted ++ (part, clause) ∷ []
  -- it is held, unless it is a tautology
  pub held : HoldsNext clause old.held new.held
  -- and is told with its part
  pub told : TellsNext part clause before after
  -- the last answer is as before
  pub root : new.root ≡ old.root

-- the solver has given the answer, after which the tracer has this meaning
pub record IsSolved {T : Type 0} (old new : SolverView T) (told : Option Told) (assumptions : Assumptions) (limit : Option ℕ) (a : Answer) : Type 0 where
  -- it is right of the accepted clauses and the assumptions
  pub answer : IsAnswer (accepted_clauses old.accepted) old.vars assumptions limit a
  -- its refutation was told, if it is one
  pub tells : ForSome told (TellsAnswer old.accepted assumptions a)
  -- the root is that of the answer
  pub root : new.root ≡ root_of_answer a
  -- and the one of the answer before is forgotten
  pub forgets : (root : ℕ) → old.root ≡ Some root → ForSome told (λ t. ¬ IsUnforgotten t.steps root)
  -- the clauses that are held and not learnt are the same
  pub held : AreReordered old.held new.held
