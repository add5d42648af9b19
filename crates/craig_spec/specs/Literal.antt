-- Literals and clauses, whichever way variables are numbered.
use Rattle.std.specs.Prelude.{ℕ, Bool, not, List}

-- a variable, or the negation of one
pub record Literal : Type 0 where
  -- the variable
  pub var : ℕ
  -- whether it is negated
  pub negated : Bool

-- the literal that is true exactly where this one is false
abbrev pub negation : Literal → Literal
negation l = record { var = l.var; negated = not l.negated }

-- a clause stands for the disjunction of its literals, so the empty clause is false
abbrev pub Clause : Type 0
Clause = List Literal
