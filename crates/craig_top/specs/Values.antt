-- Clauses under a list of truth values, the value of variable `i` at place `i`.
use Rattle.std.specs.Prelude.{◌≡◌, ◌<◌, ◌||◌, is_some, ℕ, Bool, false, not, List, IsTrue, nat_lt, slice_index_or, if◌then◌else◌}
use Rattle.std.specs.List.{list_any, list_all}
use Rattle.craig_spec.specs.Literal.{Literal, Clause}
use Rattle.craig_spec.specs.Occurs.{occurs}
use Rattle.craig_label.specs.Sides.{SidesView, range_of}
use Rattle.craig_search.specs.Verdict.{Assumptions, units}

-- whether the literal is true; a variable that has no value counts as false
abbrev pub value_at : List Bool → Literal → Bool
value_at vs l = if l.negated then not (slice_index_or vs l.var false) else slice_index_or vs l.var false

-- whether all clauses are true
abbrev pub all_hold : List Bool → List Clause → Bool
all_hold vs cs = list_all (λ c. list_any (value_at vs) c) cs

-- every variable of the clause is below n
abbrev pub IsOver : ℕ → Clause → Type 0
IsOver n c = IsTrue (list_all (λ l. nat_lt l.var n) c)

-- every variable of the clauses is below n
abbrev pub AreOver : ℕ → List Clause → Type 0
AreOver n cs = IsTrue (list_all (λ c. list_all (λ l. nat_lt l.var n) c) cs)

-- below the count the flag of a dense variable says whether it was noted or is assumed
abbrev pub AreNamedFlags : SidesView → Assumptions → ℕ → List Bool → Type 0
AreNamedFlags sides assumptions count flags = (x : ℕ) → x < count → slice_index_or flags x false ≡ (is_some (range_of sides x) || occurs x (units assumptions))
