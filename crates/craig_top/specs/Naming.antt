-- The clauses of a script, of dense variables and a table of their names.
use Rattle.std.specs.Prelude.{ℕ, zero, suc, Bool, false, not, List, [], ◌∷◌, ◌++◌, map, slice_index, slice_index_or, if◌then◌else◌}
use Rattle.craig_spec.specs.Literal.{Literal, Clause}
use Rattle.craig_spec.specs.Cut.{PartClause, PartLiteral}
use Rattle.craig_base.specs.declared.script_part.Part.{Part}
use Rattle.craig_search.specs.Verdict.{Assumptions}

-- the literal of the script that a dense literal stands for
abbrev pub named_literal : List ℕ → Literal → Literal
named_literal names l = record { var = slice_index names l.var; negated = l.negated }

-- the clause of the script that a clause over dense variables stands for
abbrev pub named_clause : List ℕ → Clause → Clause
named_clause names c = map (named_literal names) c

-- the accepted clauses as they were written
abbrev pub written : List ℕ → List (Part × Clause) → List PartClause
written names accepted = map (λ a. record { part = a.0.0; clause = named_clause names a.1 }) accepted

-- the assumptions as they were written
abbrev pub named_assumptions : List ℕ → Assumptions → List PartLiteral
named_assumptions names assumptions = map (λ a. record { part = a.0.0; literal = named_literal names a.1 }) assumptions

-- the literals over script variables that say the values of the first n dense variables, as far as they are named
abbrev pub model_below : List ℕ → List Bool → List Bool → ℕ → List Literal
model_below names named values zero = []
model_below names named values (suc n) =
    model_below names named values n
    ++ (if slice_index_or named n false then record { var = slice_index names n; negated = not (slice_index_or values n false) } ∷ [] else [])
