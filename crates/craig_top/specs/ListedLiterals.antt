-- What the literals of a satisfiable reply list.
use Rattle.std.specs.Prelude.{◌≡◌, ◌↔◌, ℕ, ◌+◌, ◌<◌, List, Some, slice_get, Contains, IsTrue}
use Rattle.craig_spec.specs.Literal.{Literal, Clause}
use Rattle.craig_spec.specs.Truth.{Assignment, literal_value}
use Rattle.craig_top.specs.ModelReply.{IsModelReply}

-- some literal of the list is of the variable
abbrev pub HasVariable : List Literal → ℕ → Type 0
HasVariable literals x = (l : Literal) × Contains literals l × (l.var ≡ x)

-- some clause has a literal of the variable
abbrev pub SomeHasVariable : List Clause → ℕ → Type 0
SomeHasVariable clauses x = (c : Clause) × Contains clauses c × HasVariable c x

-- a literal is listed of each variable that a clause has, and of no other
abbrev pub ListsEachVariable : List Clause → List Literal → Type 0
ListsEachVariable clauses literals = (x : ℕ) → HasVariable literals x ↔ SomeHasVariable clauses x

-- the variable of each literal is below that of the next
abbrev pub VariablesRise : List Literal → Type 0
VariablesRise literals = (i : ℕ) (l m : Literal) → slice_get literals i ≡ Some l → slice_get literals (i + 1) ≡ Some m → l.var < m.var

-- each clause has one of the literals
abbrev pub EachHasOne : List Clause → List Literal → Type 0
EachHasOne clauses literals = (c : Clause) → Contains clauses c → (l : Literal) × Contains c l × Contains literals l

-- the assignment makes each of the literals true
abbrev pub MakesTrue : Assignment → List Literal → Type 0
MakesTrue s literals = (l : Literal) → Contains literals l → IsTrue (literal_value s l)

-- what is said holds of the clauses and the literals of each satisfiable reply
abbrev pub EachModelReply : (List Clause → List Literal → Type 0) → Type 0
EachModelReply Says = (clauses : List Clause) (literals : List Literal) → IsModelReply clauses literals → Says clauses literals
