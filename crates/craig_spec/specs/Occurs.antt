-- Which variables occur in clauses as they are written, tautologies among them.
use Rattle.std.specs.Prelude.{ℕ, Bool, List, IsTrue, nat_eq}
use Rattle.std.specs.List.{list_any}
use Rattle.craig_spec.specs.Literal.{Clause}

-- whether a clause has the variable, positive or negated
abbrev pub occurs_in_clause : ℕ → Clause → Bool
occurs_in_clause x c = list_any (λ l. nat_eq x l.var) c

-- whether some clause of the list has it
abbrev pub occurs : ℕ → List Clause → Bool
occurs x cs = list_any (occurs_in_clause x) cs

-- some clause of the list has the variable
abbrev pub Occurs : ℕ → List Clause → Type 0
Occurs x cs = IsTrue (occurs x cs)
