-- The literals of a satisfiable reply.
use Rattle.std.specs.Prelude.{◌≡◌, ℕ, not, List, map}
use Rattle.std.specs.List.{filter}
use Rattle.std.specs.List.Sorted.{IsStrictlyIncreasing}
use Rattle.craig_spec.specs.Literal.{Literal, Clause}
use Rattle.craig_spec.specs.Truth.{Assignment, IsModel}
use Rattle.craig_spec.specs.Occurs.{occurs, occurs_in_clause}

-- the assignment that makes these literals true, and every other variable false
abbrev pub positives : List Literal → Assignment
positives literals = map (λ l. l.var) (filter (λ l. not l.negated) literals)

-- one literal for each variable of the clauses, by rising variable, and together they make every clause true
pub record IsModelReply (clauses : List Clause) (literals : List Literal) : Type 0 where
  -- the variables of the literals are those of the clauses
  pub named : (x : ℕ) → occurs_in_clause x literals ≡ occurs x clauses
  -- each variable is greater than the one before
  pub rising : IsStrictlyIncreasing (map (λ l. l.var) literals)
  -- what the literals say makes every clause true
  pub satisfies : IsModel (positives literals) clauses
