-- The laws of arenas.
use Rattle.std.specs.Prelude.{◌≡◌, ◌≢◌, ◌⊎◌, ◌↔◌, ℕ, Option, Some, Contains, IsTrue}
use Rattle.std.specs.Option.{option_map}
use Rattle.craig_spec.specs.Literal.{Clause}
use Rattle.craig_spec.specs.Truth.{Assignment, IsModel, clause_value}
use Rattle.craig_base.specs.Arena.{ArenaView, FlaggedClause, ChangesOnly, IsArena, clause_at, clauses_of, literals_of}

-- a clause is found under an id exactly where the list has it with this id
abbrev pub FoundClausesAreListed : Type 0
FoundClausesAreListed = (a : ArenaView) (id : ℕ) (c : FlaggedClause) → IsArena a → (clause_at a id ≡ Some c) ↔ Contains a.clauses (record { id = id; clause = c })

-- the literals under an id are the new ones under the id that changes, or those from before under another
abbrev pub OneClauseChanges : Type 0
OneClauseChanges = (old new : ArenaView) (id : ℕ) (now : Option FlaggedClause) → ChangesOnly old new id now → (k : ℕ) (c : Clause) → literals_of new k ≡ Some c → ((k ≡ id) × (option_map (λ f. f.literals) now ≡ Some c)) ⊎ ((k ≢ id) × (literals_of old k ≡ Some c))

-- a model of the live clauses makes each clause true that is found under an id
abbrev pub ModelsMakeFoundClausesTrue : Type 0
ModelsMakeFoundClausesTrue = (a : ArenaView) (s : Assignment) → IsModel s (clauses_of a) → (id : ℕ) (c : Clause) → literals_of a id ≡ Some c → IsTrue (clause_value s c)

-- an assignment that makes each clause true that is found under an id is a model of the live clauses
abbrev pub ModelsFromFoundClauses : Type 0
ModelsFromFoundClauses = (a : ArenaView) (s : Assignment) → IsArena a → ((id : ℕ) (c : Clause) → literals_of a id ≡ Some c → IsTrue (clause_value s c)) → IsModel s (clauses_of a)
