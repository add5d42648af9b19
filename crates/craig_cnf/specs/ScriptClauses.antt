-- Clauses over the variables of a script, from those over dense variables, and what their text is read as.
use Rattle.std.specs.Prelude.{◌≡◌, ℕ, ◌<◌, nat_lt, List, [], ◌∷◌, length, map, Some, slice_get, slice_index, All, if◌then◌else◌}
use Rattle.craig_spec.specs.Chain.{SameLiterals}
use Rattle.craig_spec.specs.Dimacs.{read_dimacs}
use Rattle.craig_spec.specs.Literal.{Literal, Clause}

-- the literal of the script that a dense literal stands for
abbrev pub named_literal : List ℕ → Literal → Literal
named_literal names l = record { var = slice_index names l.var; negated = l.negated }

-- the clause of the script that a clause over dense variables stands for
abbrev pub named_clause : List ℕ → Clause → Clause
named_clause names c = map (named_literal names) c

-- the literal among those of a clause, in front of the first one of a greater variable
abbrev pub inserted : Literal → Clause → Clause
inserted l [] = l ∷ []
inserted l (m ∷ c) = if nat_lt l.var m.var then l ∷ (m ∷ c) else m ∷ inserted l c

-- the literals by rising variable
abbrev pub by_variable : Clause → Clause
by_variable [] = []
by_variable (l ∷ c) = inserted l (by_variable c)

-- the clauses of the script, the literals of each by rising variable
abbrev pub script_clauses : List ℕ → List Clause → List Clause
script_clauses names cs = map (λ c. by_variable (named_clause names c)) cs

-- each variable of the clauses has a name
abbrev pub AreNamed : List ℕ → List Clause → Type 0
AreNamed names cs = All (λ c. All (λ l. l.var < length names) c) cs

-- the text is read as the clauses of the script that the clauses stand for, in order
pub record ReadsAsClauses (names : List ℕ) (cs : List Clause) (text : List ℕ) : Type 0 where
  -- what is read
  pub read : List Clause
  -- the text is read so
  pub is_read : read_dimacs text ≡ Some read
  -- there are as many clauses
  pub lengths : length read ≡ length cs
  -- each has the literals of the one at its place, under their names
  pub literals : (k : ℕ) (c d : Clause) → slice_get cs k ≡ Some c → slice_get read k ≡ Some d → SameLiterals d (named_clause names c)
