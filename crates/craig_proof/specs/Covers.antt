-- What a tracer was told and the clauses that a solver has.
use Rattle.std.specs.Prelude.{◌≡◌, ◌≢◌, ℕ, List, Option, Some, Contains}
use Rattle.std.specs.Option.{ForSome}
use Rattle.craig_spec.specs.Literal.{Clause}
use Rattle.craig_spec.specs.Chain.{Told, IsAbove, IsTold, IsUnforgotten, SameLiterals, GivesSame, clause_told}

-- the told steps stand on one another, each clause that the look-up gives was told under its id with the same literals and isn't forgotten, and each id that was told is below the number of given ids
pub record Covers (t : Told) (f : ℕ → Option Clause) (given : ℕ) : Type 0 where
  -- the told steps stand on one another
  pub stand : IsTold t
  -- the next id is above all that were told
  pub next : IsAbove t given
  -- each clause that the look-up gives was told under its id, with its literals in any order
  pub same : (id : ℕ) → GivesSame f (clause_told t.steps) id
  -- none of them is forgotten
  pub unforgotten : (id : ℕ) (c : Clause) → f id ≡ Some c → IsUnforgotten t.steps id

-- the same of a tracer that tells its meaning
abbrev pub IsCovering : Option Told → (ℕ → Option Clause) → ℕ → Type 0
IsCovering told f given = ForSome told (λ t. Covers t f given)

-- the clause of an id is one of the old ones, or has the literals and the next id
pub record IsOldOrNext (old new : ℕ → Option Clause) (next : ℕ) (literals : Clause) : Type 0 where
  -- under the next id there is no other clause than this one
  pub at_next : (c : Clause) → new next ≡ Some c → SameLiterals c literals
  -- under any other id there is no other clause than before
  pub others : (id : ℕ) → id ≢ next → GivesSame new old id

-- the look-up gives a clause of one of the ids, and the fact holds of it
pub record GivesSome (f : ℕ → Option Clause) (ids : List ℕ) (P : Clause → Type 0) : Type 0 where
  -- an id of the list
  pub id : ℕ
  -- it is one of them
  pub named : Contains ids id
  -- its clause
  pub clause : Clause
  -- the look-up gives it
  pub given : f id ≡ Some clause
  -- the fact holds of it
  pub holds : P clause
