-- Held clauses and their trail.
use Rattle.std.specs.Prelude.{◌≡◌, ◌≢◌, ◌⊎◌, ℕ, ◌+◌, ◌<◌, ◌≤◌, Bool, true, false, [], ◌∷◌, ◌++◌, Option, None, Some, IsSome, length, take, All, Contains, slice_index_or}
use Rattle.craig_spec.specs.Literal.{Literal, Clause}
use Rattle.craig_base.specs.declared.clause_id.ClauseId.{ClauseId}
use Rattle.craig_base.specs.declared.flags.Flags.{Flags}
use Rattle.craig_base.specs.Arena.{ArenaView, IsArena, OnlyReorders, literals_of, with_clause}
use Rattle.craig_base.specs.Clauses.{IsNormal}
use Rattle.craig_watch.specs.declared.trail_entry.TrailEntry.{TrailEntry}
use Rattle.craig_watch.specs.declared.value.Value.TheVariants.{True, False, Free}
use Rattle.craig_watch.specs.Trail.{Trail, entry_of, value_under, IsFalse, part_up_to, decisions, AreLevels, AreDistinct}

-- what contracts see of held clauses and their trail
pub record HeldView : Type 0 where
  -- the held clauses
  pub arena : ArenaView
  -- how many variables are known: they are those below it
  pub vars : ℕ
  -- the literals that are assigned
  pub trail : Trail
  -- the present decision level
  pub level : ℕ
  -- whether memory was refused
  pub dead : Bool

-- a clause more is held, under the next id
abbrev pub with_held : HeldView → Clause → Flags → HeldView
with_held h c flags = record h { arena = with_clause h.arena (record { literals = c; flags = flags }) }

-- one more level is open, with the literal as its decision
abbrev pub with_decision : HeldView → Literal → HeldView
with_decision h l = record h { trail = h.trail ++ record { literal = l; level = h.level + 1; reason = None } ∷ []; level = h.level + 1 }

-- the literals of the clause that is held under the id
abbrev pub held_clause : ArenaView → ℕ → Option Clause
held_clause a id = literals_of a id

-- two different literals of the clause are free
abbrev pub HasTwoFree : Trail → Clause → Type 0
HasTwoFree t c = (l m : Literal) × Contains c l × Contains c m × (l ≢ m) × (value_under t l ≡ Free) × (value_under t m ≡ Free)

-- a literal of the clause is true
abbrev pub HasTrue : Trail → Clause → Type 0
HasTrue t c = (l : Literal) × Contains c l × (value_under t l ≡ True)

-- the clause has a true literal or two free ones, so it neither is false nor forces a literal
abbrev pub IsSettled : Trail → Clause → Type 0
IsSettled t c = HasTrue t c ⊎ HasTwoFree t c

-- propagation is complete: every held clause has a true literal or two free ones
abbrev pub IsComplete : ArenaView → Trail → Type 0
IsComplete a t = (id : ℕ) (c : Clause) → held_clause a id ≡ Some c → IsSettled t c

-- propagation was complete at every level below this one
abbrev pub IsCompleteBelow : ArenaView → Trail → ℕ → Type 0
IsCompleteBelow a t level = (l : ℕ) → l < level → IsComplete a (part_up_to l t)

-- the clause has the literal, and its other literals are false under the trail
pub record Forces (t : Trail) (c : Clause) (l : Literal) : Type 0 where
  -- it has the literal
  pub has : Contains c l
  -- the others are false
  pub others : (m : Literal) → Contains c m → m ≢ l → IsFalse t m

-- the reason, if there is one, is held and forces the literal under what was assigned earlier
abbrev pub IsJustified : ArenaView → Trail → TrailEntry → Type 0
IsJustified a earlier e = (id : ClauseId) → e.reason ≡ Some id → (c : Clause) × (held_clause a id.0 ≡ Some c) × Forces earlier c e.literal

-- each literal on the trail is a decision or justified by its reason
abbrev pub EachIsJustified : ArenaView → Trail → Type 0
EachIsJustified a t = (k : ℕ) (d : TrailEntry) → k < length t → IsJustified a (take k t) (slice_index_or t k d)

-- the clauses are normal clauses over known variables
abbrev pub AreClauses : ArenaView → ℕ → Type 0
AreClauses a vars = (id : ℕ) (c : Clause) → held_clause a id ≡ Some c → IsNormal c × All (λ l. l.var < vars) c

-- what is true of held clauses and their trail after every call
pub record IsConsistent (h : HeldView) : Type 0 where
  -- the literals of each variable fit their type
  pub few : h.vars ≤ 2147483648
  -- the clauses are stored by rising ids
  pub arena : IsArena h.arena
  -- the clauses are normal clauses over known variables
  pub clauses : AreClauses h.arena h.vars
  -- only known variables are assigned
  pub known : All (λ e. e.literal.var < h.vars) h.trail
  -- no variable is assigned twice
  pub distinct : AreDistinct h.trail
  -- the level of each literal is the number of decisions up to it
  pub levels : AreLevels h.trail
  -- the present level is the number of decisions
  pub level : h.level ≡ decisions h.trail
  -- each literal was decided or is forced by its reason
  pub justified : EachIsJustified h.arena h.trail
  -- propagation was complete at every lower level
  pub complete : IsCompleteBelow h.arena h.trail h.level

-- one literal more on the trail
abbrev pub with_entry : HeldView → TrailEntry → HeldView
with_entry h e = record h { trail = h.trail ++ e ∷ []; level = decisions (h.trail ++ e ∷ []) }

-- no clause is held, no variable known and nothing assigned
abbrev pub nothing_held : HeldView
nothing_held = record { arena = record { clauses = []; given = 0 }; vars = 0; trail = []; level = 0; dead = false }

-- two different literals of the clause are not false
abbrev pub HasTwoNotFalse : Trail → Clause → Type 0
HasTwoNotFalse t c = (l m : Literal) × Contains c l × Contains c m × (l ≢ m) × (value_under t l ≢ False) × (value_under t m ≢ False)

-- the first literal is free, all others are false, and one of them was assigned at the level
pub record IsAsserting (t : Trail) (level : ℕ) (c : Clause) : Type 0 where
  -- the first literal
  pub first : Literal
  -- the others
  pub rest : Clause
  -- they are the clause
  pub parts : c ≡ first ∷ rest
  -- the first is free
  pub free : value_under t first ≡ Free
  -- the others are false
  pub others : All (IsFalse t) rest
  -- one of them was assigned last
  pub last : Literal
  -- it is one of the others
  pub has_last : Contains rest last
  -- the entry that makes it false
  pub last_entry : TrailEntry
  -- the entry is that of its variable
  pub last_is : entry_of t last.var ≡ Some last_entry
  -- the level of the entry is the given one
  pub last_level : last_entry.level ≡ level

-- a clause that may be held: it breaks no level below the present one
abbrev pub MayBeHeld : HeldView → Clause → Type 0
MayBeHeld h c = (h.level ≡ 0) ⊎ (HasTwoNotFalse h.trail c ⊎ IsAsserting h.trail h.level c)

-- the trail was lengthened by literals of the present level that clauses forced
pub record IsLengthened (old new : HeldView) : Type 0 where
  -- the clauses are the same but for the order of their literals
  pub clauses : OnlyReorders old.arena new.arena
  -- the known variables are the same
  pub vars : new.vars ≡ old.vars
  -- the present level is the same
  pub present : new.level ≡ old.level
  -- it is dead where it was dead
  pub dead : new.dead ≡ old.dead
  -- the entries that came
  pub added : Trail
  -- they stand last on the trail
  pub trail : new.trail ≡ old.trail ++ added
  -- they are of the present level
  pub level : All (λ e. e.level ≡ old.level) added
  -- clauses forced them
  pub reason : All (λ e. IsSome e.reason) added

-- memory was refused, and nothing is said of the trail
pub record IsRefused (old new : HeldView) : Type 0 where
  -- the clauses are the same but for the order of their literals
  pub clauses : OnlyReorders old.arena new.arena
  -- the known variables are the same
  pub vars : new.vars ≡ old.vars
  -- it is dead
  pub dead : new.dead ≡ true

-- the clause is held, and all its literals are false
abbrev pub IsFalsified : HeldView → ℕ → Type 0
IsFalsified h id = (c : Clause) × (held_clause h.arena id ≡ Some c) × All (IsFalse h.trail) c
