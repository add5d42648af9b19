-- The steps of a refutation over dense variables, and those over the variables of the script that they stand for.
use Rattle.std.specs.Prelude.{◌≡◌, ℕ, ◌<◌, List, IsTrue, Contains, length, map, nat_lt, slice_index}
use Rattle.std.specs.List.{list_all}
use Rattle.craig_spec.specs.Literal.{Clause}
use Rattle.craig_spec.specs.Chain.{ChainStep, Origin, Original, Derived, ToldStep}
use Rattle.craig_spec.specs.Cut.{PartClause}
use Rattle.craig_top.specs.Naming.{named_literal, named_clause}
use Rattle.craig_top.specs.Values.{IsOver}

-- the same resolution, on the named literal
abbrev pub named_chain_step : List ℕ → ChainStep → ChainStep
named_chain_step names s = record { pivot = named_literal names s.pivot; antecedent = s.antecedent }

-- the same part, or the same chain on named literals
abbrev pub named_origin : List ℕ → Origin → Origin
named_origin names (Original part) = Original part
named_origin names (Derived first rest) = Derived first (map (named_chain_step names) rest)

-- the step with the named clause, under the same id
abbrev pub named_step : List ℕ → ToldStep → ToldStep
named_step names s = record { id = s.id; literals = named_clause names s.literals; origin = named_origin names s.origin; forgotten = s.forgotten }

-- the named clause with the same part
abbrev pub named_part_clause : List ℕ → PartClause → PartClause
named_part_clause names c = record { part = c.part; clause = named_clause names c.clause }

-- the clauses without their parts
abbrev pub bare_clauses : List PartClause → List Clause
bare_clauses clauses = map (λ c. c.clause) clauses

-- the names of different variables differ
abbrev pub AreDifferent : List ℕ → Type 0
AreDifferent names = (x y : ℕ) → x < length names → y < length names → slice_index names x ≡ slice_index names y → x ≡ y

-- every variable of the pivots is below n
abbrev pub ArePivotsOver : ℕ → List ChainStep → Type 0
ArePivotsOver n rest = IsTrue (list_all (λ s. nat_lt s.pivot.var n) rest)

-- every variable of the chain's pivots is below n
abbrev pub IsOverOrigin : ℕ → Origin → Type 0
IsOverOrigin n (Original part) = Unit {0}
IsOverOrigin n (Derived first rest) = ArePivotsOver n rest

-- every variable of the step's clause and of its chain's pivots is below n
abbrev pub IsOverStep : ℕ → ToldStep → Type 0
IsOverStep n s = IsOver n s.literals × IsOverOrigin n s.origin

-- every variable of the steps' clauses is below n
abbrev pub AreClausesOver : ℕ → List ToldStep → Type 0
AreClausesOver n steps = (s : ToldStep) → Contains steps s → IsOver n s.literals

-- so is every variable of their chains' pivots
abbrev pub AreStepsOver : ℕ → List ToldStep → Type 0
AreStepsOver n steps = (s : ToldStep) → Contains steps s → IsOverStep n s
