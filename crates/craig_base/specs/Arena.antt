-- The clauses of an arena, seen as a list by rising id.
use Rattle.std.specs.Prelude.{◌≡◌, ℕ, ◌+◌, ◌<◌, not, List, [], ◌∷◌, ◌++◌, Option, Some, None, nat_eq, map, filter, All, AllPairs, IsSome, if◌then◌else◌}
use Rattle.std.specs.Option.{option_map, option_map_or}
use Rattle.craig_spec.specs.Literal.{Clause}
use Rattle.craig_spec.specs.Chain.{SameLiterals}
use Rattle.craig_base.specs.declared.flags.Flags.{Flags}

-- a clause in the order in which its literals are kept, with its flags
pub record FlaggedClause : Type 0 where
  -- in the order in which they are kept
  pub literals : Clause
  -- what a solver notes of it
  pub flags : Flags

-- a clause that is live under its id
pub record LiveClause : Type 0 where
  -- the id that it was given
  pub id : ℕ
  -- the clause
  pub clause : FlaggedClause

-- the live clauses by rising id, and how many ids were given, the first of them 0
pub record ArenaView : Type 0 where
  -- the live clauses by rising id
  pub clauses : List LiveClause
  -- how many ids were given
  pub given : ℕ

-- the ids of the clauses rise, and each of them was given
pub record IsArena (a : ArenaView) : Type 0 where
  -- the ids of the clauses rise
  pub rising : AllPairs (λ c d. c.id < d.id) a.clauses
  -- each of them was given
  pub below : All (λ c. c.id < a.given) a.clauses

-- the clause of the list that has the id
abbrev pub clause_of : List LiveClause → ℕ → Option FlaggedClause
clause_of [] id = None
clause_of (c ∷ cs) id = if nat_eq c.id id then Some c.clause else clause_of cs id

-- the clause that is live under the id
abbrev pub clause_at : ArenaView → ℕ → Option FlaggedClause
clause_at a id = clause_of a.clauses id

-- a clause is live under the id
abbrev pub IsLive : ArenaView → ℕ → Type 0
IsLive a id = IsSome (clause_at a id)

-- the literals of the clause that is live under the id
abbrev pub literals_of : ArenaView → ℕ → Option Clause
literals_of a id = option_map (λ c. c.literals) (clause_at a id)

-- the literals of each live clause, by rising id
abbrev pub clauses_of : ArenaView → List Clause
clauses_of a = map (λ c. c.clause.literals) a.clauses

-- the literals of the clause, and none where it isn't live
abbrev pub literals_at : ArenaView → ℕ → Clause
literals_at a id = option_map_or (λ c. c.literals) (clause_at a id) []

-- the clause, changed where it has the id
abbrev pub changed_clause : (FlaggedClause → FlaggedClause) → ℕ → LiveClause → LiveClause
changed_clause f id c = if nat_eq c.id id then record { id = c.id; clause = f c.clause } else c

-- the arena with the clause of the id changed
abbrev pub changed : (FlaggedClause → FlaggedClause) → ArenaView → ℕ → ArenaView
changed f a id = record a { clauses = map (changed_clause f id) a.clauses }

-- the arena without the clause of the id
abbrev pub without : ArenaView → ℕ → ArenaView
without a id = record a { clauses = filter (λ c. not (nat_eq c.id id)) a.clauses }

-- the arena with one id more, under which no clause is live
abbrev pub with_id : ArenaView → ArenaView
with_id a = record a { given = a.given + 1 }

-- the arena with one id more, under which the clause is live
abbrev pub with_clause : ArenaView → FlaggedClause → ArenaView
with_clause a c = record { clauses = a.clauses ++ record { id = a.given; clause = c } ∷ []; given = a.given + 1 }

-- under the one id this is live now, or nothing, and under every other id what was live before
abbrev pub ChangesOnly : ArenaView → ArenaView → ℕ → Option FlaggedClause → Type 0
ChangesOnly old new id now = (k : ℕ) → clause_at new k ≡ (if nat_eq k id then now else clause_at old k)

-- the clause that was live under the one id is changed now, and under every other id is what was live before
abbrev pub ChangesClause : ArenaView → ArenaView → ℕ → (FlaggedClause → FlaggedClause) → Type 0
ChangesClause old new id f = ChangesOnly old new id (option_map f (clause_at old id))

-- the same literals in any order, and the same flags
pub record IsReordered (c d : FlaggedClause) : Type 0 where
  -- the same, in any order
  pub literals : SameLiterals c.literals d.literals
  -- not even the flags changed
  pub flags : d.flags ≡ c.flags

-- the same clauses under the same ids, where the literals of a clause may stand in another order
pub record OnlyReorders (old new : ArenaView) : Type 0 where
  -- no id was given
  pub given : new.given ≡ old.given
  -- each clause stays but for the order of its literals
  pub stays : (id : ℕ) (c : FlaggedClause) → clause_at old id ≡ Some c → (d : FlaggedClause) × (clause_at new id ≡ Some d) × IsReordered c d
  -- each clause stood there before but for the order of its literals
  pub stood : (id : ℕ) (d : FlaggedClause) → clause_at new id ≡ Some d → (c : FlaggedClause) × (clause_at old id ≡ Some c) × IsReordered c d
