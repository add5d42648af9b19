-- The table of an arena, which has a head for each id that was given, and the literals of all clauses in one list.
use Rattle.std.specs.Prelude.{◌≡◌, ℕ, suc, ◌+◌, ◌<◌, ◌≤◌, List, [], ◌∷◌, length, take, drop, map, sum_by, get_or, All, AllPairs, Option, Some, None, if◌then◌else◌}
use Rattle.craig_spec.specs.Literal.{Clause}
use Rattle.craig_base.specs.Arena.{FlaggedClause, LiveClause, ArenaView}
use Rattle.craig_base.specs.declared.flags.Flags.{Flags}
use Rattle.craig_base.specs.declared.clause_head.ClauseHead.{ClauseHead}

-- the flags in a head
abbrev pub flags_of : ClauseHead → Flags
flags_of h = record { learnt = h.learnt; kept = h.kept; glue = h.glue }

-- the head with other flags
abbrev pub with_flags : ClauseHead → Flags → ClauseHead
with_flags h f = record h { learnt = f.learnt; kept = f.kept; glue = f.glue }

-- how many literals of a live clause there are
abbrev pub live_length : ClauseHead → ℕ
live_length h = if h.live then h.length else 0

-- the literals of the head's clause, among those of all clauses
abbrev pub literals_in : Clause → ClauseHead → Clause
literals_in literals h = take h.length (drop h.start literals)

-- the head's clause
abbrev pub clause_in : Clause → ClauseHead → FlaggedClause
clause_in literals h = record { literals = literals_in literals h; flags = flags_of h }

-- what an arena has under the id of the head
abbrev pub entry_of : Clause → ClauseHead → Option FlaggedClause
entry_of literals h = if h.live then Some (clause_in literals h) else None

-- the live clauses of a list of entries whose first one has this id
abbrev pub live_from : ℕ → List (Option FlaggedClause) → List LiveClause
live_from id [] = []
live_from id (None ∷ entries) = live_from (suc id) entries
live_from id (Some c ∷ entries) = record { id = id; clause = c } ∷ live_from (suc id) entries

-- the arena that has an entry for each id
abbrev pub arena_of : List (Option FlaggedClause) → ArenaView
arena_of entries = record { clauses = live_from 0 entries; given = length entries }

-- the arena that has the heads, over the literals of all clauses
abbrev pub arena_with : List ClauseHead → Clause → ArenaView
arena_with heads literals = arena_of (map (entry_of literals) heads)

-- the clauses lie one behind another, by rising id, within the literals
pub record AreLaidOut (heads : List ClauseHead) (literals : Clause) : Type 0 where
  -- each ends before a later one begins
  pub rising : AllPairs (λ g h. g.start + g.length ≤ h.start) heads
  -- each ends within the literals
  pub within : All (λ h. h.start + h.length ≤ length literals) heads

-- gaps are closed below the place: before `end` lie the literals of the live clauses before it alone
pub record IsClosedBelow (place «end» : ℕ) (heads : List ClauseHead) : Type 0 where
  -- the clauses before the place end there or before
  pub before : (k : ℕ) (d : ClauseHead) → k < place → (get_or heads k d).start + (get_or heads k d).length ≤ «end»
  -- there are as many as the live clauses before the place have
  pub tight : «end» ≡ sum_by live_length (take place heads)
  -- the others begin there or behind
  pub behind : (k : ℕ) (d : ClauseHead) → place ≤ k → k < length heads → «end» ≤ (get_or heads k d).start
