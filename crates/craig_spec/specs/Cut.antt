-- The clauses of a script on the two sides of a cut. Cut k lies behind part k. Part 0 is common: its clauses are on both
-- sides of every cut.
use Rattle.std.specs.Prelude.{◌≢◌, ◌≤◌, ◌+◌, ℕ, Bool, ◌&&◌, ◌||◌, List, [], ◌∷◌, ◌++◌, map, nat_eq, nat_le, nat_lt, All}
use Rattle.std.specs.List.{filter, range_with_len}
use Rattle.std.specs.List.Sorted.{IsStrictlyIncreasing}
use Rattle.craig_spec.specs.Literal.{Literal, Clause}

-- a clause as it was written, with its part
pub record PartClause : Type 0 where
  -- the number of its part; 0 is that of the common clauses
  pub part : ℕ
  -- the clause
  pub clause : Clause

-- an assumed literal with its part
pub record PartLiteral : Type 0 where
  -- the number of its part; 0 is that of the common literals
  pub part : ℕ
  -- the literal
  pub literal : Literal

-- the clauses, and the unit clauses of the literals
abbrev pub with_units : List PartClause → List PartLiteral → List PartClause
with_units clauses literals = clauses ++ map (λ (l : PartLiteral). record { part = l.part; clause = l.literal ∷ [] }) literals

-- whether the part is the common one
abbrev pub is_common : ℕ → Bool
is_common part = nat_eq part 0

-- whether the clauses of a part are on side A of the cut: the common ones, and those of the parts from 1 to the cut
abbrev pub is_on_side_a : ℕ → ℕ → Bool
is_on_side_a cut part = is_common part || nat_le part cut

-- whether they are on side B: the common ones, and those of the parts behind the cut
abbrev pub is_on_side_b : ℕ → ℕ → Bool
is_on_side_b cut part = is_common part || nat_lt cut part

-- whether they lie between two cuts: the common ones, and those of the parts behind the one cut and up to the other
abbrev pub is_between : ℕ → ℕ → ℕ → Bool
is_between cut later part = is_common part || nat_lt cut part && nat_le part later

-- the clauses of the parts that pass the test
abbrev pub clauses_within : (ℕ → Bool) → List PartClause → List Clause
clauses_within test clauses = map (λ (c : PartClause). c.clause) (filter (λ c. test c.part) clauses)

-- the clauses on side A of the cut
abbrev pub side_a : List PartClause → ℕ → List Clause
side_a clauses cut = clauses_within (is_on_side_a cut) clauses

-- the clauses on side B of the cut
abbrev pub side_b : List PartClause → ℕ → List Clause
side_b clauses cut = clauses_within (is_on_side_b cut) clauses

-- the clauses between two cuts
abbrev pub clauses_between : List PartClause → ℕ → ℕ → List Clause
clauses_between clauses cut later = clauses_within (is_between cut later) clauses

-- every cut of so many parts, from the one before all of them to the one behind them
abbrev pub all_cuts : ℕ → List ℕ
all_cuts parts = range_with_len 0 (parts + 1)

-- the cuts that are chosen, where there are so many parts
pub record AreChosenCuts (parts : ℕ) (cuts : List ℕ) : Type 0 where
  -- there is one
  pub some : cuts ≢ []
  -- they rise
  pub rising : IsStrictlyIncreasing cuts
  -- none is above the number of parts
  pub within : All (λ cut. cut ≤ parts) cuts
