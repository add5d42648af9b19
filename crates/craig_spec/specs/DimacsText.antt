-- The bytes of a DIMACS text.
--
-- After the format of the second DIMACS implementation challenge, "Satisfiability: Suggested Format", 1993.
use Rattle.std.specs.Prelude.{ℕ, max, List, [], ◌∷◌, ◌++◌, length, codes, decimal, if◌then◌else◌}
use Rattle.std.specs.List.{flat_map}
use Rattle.craig_spec.specs.Literal.{Literal, Clause}

-- a literal, with a minus sign where it is negated
abbrev pub literal_text : Literal → List ℕ
literal_text l = (if l.negated then codes "-" else []) ++ decimal l.var

-- the literals of a clause, each with a space behind it, and a 0 that ends the line
abbrev pub clause_line : Clause → List ℕ
clause_line c = flat_map (λ l. literal_text l ++ codes " ") c ++ codes "0\n"

-- the greatest variable of a clause, and 0 where it has none
abbrev pub greatest_of_clause : Clause → ℕ
greatest_of_clause [] = 0
greatest_of_clause (l ∷ c) = max l.var (greatest_of_clause c)

-- the greatest variable of the clauses, and 0 where they have none
abbrev pub greatest_of_clauses : List Clause → ℕ
greatest_of_clauses [] = 0
greatest_of_clauses (c ∷ cs) = max (greatest_of_clause c) (greatest_of_clauses cs)

-- the header without its newline: the greatest variable, and the number of clauses
abbrev pub header_bytes : ℕ → ℕ → List ℕ
header_bytes greatest count = codes "p cnf " ++ decimal greatest ++ codes " " ++ decimal count

-- the header, and a line for each clause
abbrev pub dimacs_text : List Clause → List ℕ
dimacs_text cs = header_bytes (greatest_of_clauses cs) (length cs) ++ codes "\n" ++ flat_map clause_line cs
