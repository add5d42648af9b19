-- What is true under an assignment, and what follows.
use Rattle.std.specs.Prelude.{ℕ, Bool, not, List, IsTrue, nat_eq, if◌then◌else◌}
use Rattle.std.specs.List.{list_any, list_all}
use Rattle.craig_spec.specs.Literal.{Literal, Clause}

-- the variables that are true; every other variable is false
abbrev pub Assignment : Type 0
Assignment = List ℕ

-- whether the assignment makes the variable true
abbrev pub variable_value : Assignment → ℕ → Bool
variable_value s x = list_any (nat_eq x) s

-- whether the assignment makes the literal true
abbrev pub literal_value : Assignment → Literal → Bool
literal_value s l = if l.negated then not (variable_value s l.var) else variable_value s l.var

-- a clause is true where one of its literals is
abbrev pub clause_value : Assignment → Clause → Bool
clause_value s c = list_any (literal_value s) c

-- the assignment makes every clause of the list true
abbrev pub IsModel : Assignment → List Clause → Type 0
IsModel s cs = IsTrue (list_all (clause_value s) cs)

-- the fact holds under every assignment that makes the list true
abbrev pub Implies : List Clause → (Assignment → Type 0) → Type 0
Implies cs P = (s : Assignment) → IsModel s cs → P s

-- no assignment makes the list true
abbrev pub IsUnsatisfiable : List Clause → Type 0
IsUnsatisfiable cs = (s : Assignment) → ¬ IsModel s cs

-- no assignment makes both lists true
abbrev pub AreContradictory : List Clause → List Clause → Type 0
AreContradictory cs ds = (s : Assignment) → IsModel s cs → ¬ IsModel s ds
