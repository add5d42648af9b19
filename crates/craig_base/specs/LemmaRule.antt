-- Which clauses a search may list as lemmas.
use Rattle.std.specs.Prelude.{ℕ, ◌<◌, List, length, All, Contains, IsTrue, slice_index_or}
use Rattle.craig_spec.specs.Literal.{Literal, Clause}
use Rattle.craig_spec.specs.Truth.{Implies, clause_value}
use Rattle.craig_spec.specs.Occurs.{occurs_in_clause, Occurs}
use Rattle.craig_spec.specs.Chain.{SameLiterals}
use Rattle.craig_base.specs.Clauses.{IsTautology}

-- each literal of the other clause is in this one
abbrev pub ContainsClause : Clause → Clause → Type 0
ContainsClause c other = (l : Literal) → Contains other l → Contains c l

-- no three places have clauses with the same literals
abbrev pub NoneMoreThanTwice : List Clause → Type 0
NoneMoreThanTwice cs =
    (i j k : ℕ) (d : Clause) → i < j → j < k → k < length cs → SameLiterals (slice_index_or cs i d) (slice_index_or cs j d) → ¬ SameLiterals (slice_index_or cs j d) (slice_index_or cs k d)

-- the lemmas that may be listed over the clauses
pub record MeetsLemmaRule (clauses lemmas : List Clause) : Type 0 where
  -- each is true wherever the clauses are
  pub implied : All (λ c. Implies clauses (λ s. IsTrue (clause_value s c))) lemmas
  -- each of its variables is one of theirs
  pub known : All (λ c. (x : ℕ) → IsTrue (occurs_in_clause x c) → Occurs x clauses) lemmas
  -- none of them is a tautology
  pub not_tautology : All (λ c. ¬ IsTautology c) lemmas
  -- none contains one of the clauses
  pub new : All (λ c. (d : Clause) → Contains clauses d → ¬ ContainsClause c d) lemmas
  -- none has the literals of more than one other
  pub few : NoneMoreThanTwice lemmas
