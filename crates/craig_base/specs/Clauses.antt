-- Tautologies, and clauses without repeats.
use Rattle.std.specs.Prelude.{◌≡◌, ◌≢◌, ℕ, ◌+◌, ◌<◌, Contains, AllPairs, slice_index_or}
use Rattle.craig_spec.specs.Literal.{Literal, Clause, negation}
use Rattle.craig_base.specs.Literals.{literal_code}

-- a literal and its negation stand in the clause
abbrev pub IsTautology : Clause → Type 0
IsTautology c = (l : Literal) × Contains c l × Contains c (negation l)

-- a clause in any order in which no literal stands twice, and none beside its negation
pub record IsNormal (c : Clause) : Type 0 where
  -- no literal stands in it twice
  pub distinct : AllPairs (λ l m. l ≢ m) c
  -- no literal stands in it beside its negation
  pub not_tautology : ¬ IsTautology c

-- each literal comes before all later ones in the order of literals
abbrev pub IsAscending : Clause → Type 0
IsAscending c = AllPairs (λ l m. literal_code l < literal_code m) c

-- the literal at the place and the next one are of one variable
abbrev pub SameVariableAt : Clause → ℕ → Type 0
SameVariableAt c k = (d : Literal) → (slice_index_or c k d).var ≡ (slice_index_or c (k + 1) d).var
