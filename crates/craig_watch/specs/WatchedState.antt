-- Clauses under a trail with their watches, as the code keeps them, and what propagation does with them.
use Rattle.std.specs.Prelude.{◌≡◌, ◌≢◌, ℕ, ◌+◌, ◌<◌, ◌≤◌, List, ◌++◌, ◌∷◌, [], Option, Some, None, false, length, swap, slice_index_or}
use Rattle.craig_spec.specs.Literal.{Literal, Clause}
use Rattle.craig_base.specs.declared.clause_id.ClauseId.{ClauseId}
use Rattle.craig_base.specs.Arena.{IsLive, literals_at}
use Rattle.craig_watch.specs.declared.value.Value.{Value}
use Rattle.craig_watch.specs.declared.value.Value.TheVariants.{True, False, Free}
use Rattle.craig_watch.specs.declared.visit.Visit.{Visit}
use Rattle.craig_watch.specs.declared.visit.Visit.TheVariants.{Stays, Moved, Conflict}
use Rattle.craig_watch.specs.declared.watched.Watched.{Watched}
use Rattle.craig_watch.specs.Trail.{Trail, value_under, IsFalse, level_at, decisions}
use Rattle.craig_watch.specs.Held.{HeldView, held_clause, Forces, IsComplete, IsConsistent, IsFalsified, IsLengthened}
use Rattle.craig_watch.specs.Watches.{AreWatched, HasTrueUpTo, IsWatch, list_of}

-- what is shown of clauses under a trail
abbrev pub shown : Watched → HeldView
shown s = record { arena = s.arena; vars = s.assigned.vars; trail = s.assigned.trail; level = decisions s.assigned.trail; dead = false }

-- the clauses and their trail are consistent, and the clauses are watched
pub record IsSound (s : Watched) : Type 0 where
  -- what is true of held clauses and their trail
  pub consistent : IsConsistent (shown s)
  -- each clause is watched by its first two literals
  pub watched : AreWatched s.arena s.assigned.vars s.assigned.trail s.lists s.looked s.walked

-- propagation goes on: the trail gets longer, and clauses change the order of their literals
pub record Continues (old new : Watched) : Type 0 where
  -- what is shown got longer
  pub lengthened : IsLengthened (shown old) (shown new)
  -- all is right
  pub sound : IsSound new
  -- the clauses that wait are the same
  pub looked : new.looked ≡ old.looked
  -- the lists that were walked are the same
  pub walked : new.walked ≡ old.walked

-- the ids of the clauses that the literal watches
abbrev pub ids_of : Watched → Literal → List ClauseId
ids_of s l = (list_of s.lists l).ids

-- where the clause is held, one of its literals is true at no higher level than that of the literal
abbrev pub IsReached : Watched → Literal → ℕ → Type 0
IsReached s l id = (c : Clause) → held_clause s.arena id ≡ Some c → HasTrueUpTo s.assigned.trail c (level_at s.assigned.trail l)

-- the list of the literal was walked up to an entry
abbrev pub HasReached : Watched → Literal → ℕ → Type 0
HasReached s l n = (k : ℕ) (d : ClauseId) → k < n → k < length (ids_of s l) → IsReached s l (slice_index_or (ids_of s l) k d).0

-- the list of a false literal of the present level was walked up to an entry
pub record IsVisiting (s : Watched) (l : Literal) (index : ℕ) : Type 0 where
  -- all is right
  pub sound : IsSound s
  -- the variable of the literal is known
  pub known : l.var < s.assigned.vars
  -- it is false
  pub falsified : IsFalse s.assigned.trail l
  -- it became so at the present level
  pub present : level_at s.assigned.trail l ≡ decisions s.assigned.trail
  -- the entry is one of its list
  pub within : index < length (ids_of s l)
  -- those before it were reached
  pub reached : HasReached s l index

-- the literal stands at the place, which is one of the first two
pub record StandsFirst (c : Clause) (l : Literal) (place : ℕ) : Type 0 where
  -- it is one of the first two
  pub first : place < 2
  -- the literal stands there
  pub at : slice_index_or c place l ≡ l

-- what the visit of an entry has brought
abbrev pub HasVisited : Watched → Watched → Literal → ℕ → Visit → Type 0
HasVisited old new l index Stays = HasReached new l (index + 1) × (length (ids_of new l) ≡ length (ids_of old l))
HasVisited old new l index Moved = HasReached new l index × (length (ids_of new l) + 1 ≡ length (ids_of old l))
HasVisited old new l index (Conflict id) = IsFalsified (shown new) id.0

-- a held clause forces the literal, which is free
pub record IsForcedBy (s : Watched) (l : Literal) (id : ℕ) : Type 0 where
  -- the clause
  pub clause : Clause
  -- it is held
  pub held : held_clause s.arena id ≡ Some clause
  -- it forces the literal
  pub forces : Forces s.assigned.trail clause l
  -- which is free
  pub free : value_under s.assigned.trail l ≡ Free

-- the literal is assigned at the present level
abbrev pub with_forced : Watched → Literal → ClauseId → Watched
with_forced s l id = record s { assigned = record { vars = s.assigned.vars; trail = s.assigned.trail ++ record { literal = l; level = decisions s.assigned.trail; reason = Some id } ∷ [] } }

-- a watch may move to another place of a long clause: the entry is that of the clause, and the new watch isn't false, or
-- the clause waits
pub record MayMove (s : Watched) (id : ClauseId) (place other index : ℕ) : Type 0 where
  -- all is right
  pub sound : IsSound s
  -- the clause
  pub clause : Clause
  -- it is held
  pub held : held_clause s.arena id.0 ≡ Some clause
  -- the place is one of the first two
  pub first : place < 2
  -- and the other one is not
  pub later : 2 ≤ other
  -- it is in the clause
  pub within : other < length clause
  -- the entry is one of the list of the old watch
  pub listed : (d : Literal) → index < length (ids_of s (slice_index_or clause place d))
  -- it is that of the clause
  pub entry : (d : Literal) (e : ClauseId) → slice_index_or (ids_of s (slice_index_or clause place d)) index e ≡ id
  -- the new watch isn't false, or the clause waits
  pub right : (d : Literal) → IsFalse s.assigned.trail (slice_index_or clause other d) → s.looked ≤ id.0

-- two literals of a clause changed their places, and propagation goes on
pub record Exchanges (old new : Watched) (id : ClauseId) (place other : ℕ) : Type 0 where
  -- propagation goes on
  pub continues : Continues old new
  -- nothing was assigned
  pub assigned : new.assigned ≡ old.assigned
  -- two literals of the clause changed their places
  pub literals : literals_at new.arena id.0 ≡ swap (literals_at old.arena id.0) place other
  -- it is still held
  pub live : IsLive new.arena id.0

-- the list of the literal lost an entry, and those before it stay
pub record LosesEntry (old new : Watched) (l : Literal) (index : ℕ) : Type 0 where
  -- one is gone
  pub shorter : length (ids_of new l) + 1 ≡ length (ids_of old l)
  -- those before it stay
  pub before : (k : ℕ) (d : ClauseId) → k < index → slice_index_or (ids_of new l) k d ≡ slice_index_or (ids_of old l) k d

-- the literal of the clause at the place isn't false, and there is none where there is no such place behind the first two
abbrev pub IsOpenPlace : Trail → Clause → Option ℕ → Type 0
IsOpenPlace t c None = (k : ℕ) (d : Literal) → 2 ≤ k → k < length c → IsFalse t (slice_index_or c k d)
IsOpenPlace t c (Some p) = (2 ≤ p) × (p < length c) × ((d : Literal) → value_under t (slice_index_or c p d) ≢ False)

-- how late a literal of this value and level became false, where no level is so high as not false
abbrev pub rank_by : Value → ℕ → ℕ
rank_by False level = level
rank_by True level = 4294967295
rank_by Free level = 4294967295

-- how late the literal became false
abbrev pub rank_of : Trail → Literal → ℕ
rank_of t l = rank_by (value_under t l) (level_at t l)

-- of the literals of the clause from a place on, none is false later than the one at the last place
abbrev pub IsLatest : Trail → Clause → (from place : ℕ) → Type 0
IsLatest t c from place = (k : ℕ) (d e : Literal) → from ≤ k → k < length c → rank_of t (slice_index_or c k d) ≤ rank_of t (slice_index_or c place e)

-- no literal of the clause behind one of the first places is false later than the one there
abbrev pub IsRanked : Trail → Clause → ℕ → Type 0
IsRanked t c n = (i k : ℕ) (d e : Literal) → i < n → i ≤ k → k < length c → rank_of t (slice_index_or c k d) ≤ rank_of t (slice_index_or c i e)

-- what a look at a clause has brought: each watch that is false was walked, or a clause is false
abbrev pub HasLookedAt : Watched → ℕ → Option ClauseId → Type 0
HasLookedAt s id None = ((c : Clause) (l : Literal) → held_clause s.arena id ≡ Some c → IsWatch c l → IsFalse s.assigned.trail l → HasTrueUpTo s.assigned.trail c (level_at s.assigned.trail l)) × ((c : Clause) → held_clause s.arena id ≡ Some c → length c < 2 → HasTrueUpTo s.assigned.trail c 0)
HasLookedAt s id (Some conflict) = IsFalsified (shown s) conflict.0

-- what the walk of a list has brought: each of its clauses was reached, or one is false
abbrev pub HasWalkedList : Watched → Literal → Option ClauseId → Type 0
HasWalkedList s l None = HasReached s l (length (ids_of s l))
HasWalkedList s l (Some conflict) = IsFalsified (shown s) conflict.0

-- what looks at all clauses that wait have brought
abbrev pub HasLookedAtAll : Watched → Option ClauseId → Type 0
HasLookedAtAll s None = s.looked ≡ s.arena.given
HasLookedAtAll s (Some conflict) = IsFalsified (shown s) conflict.0

-- what propagation has brought
abbrev pub HasPropagated : Watched → Option ClauseId → Type 0
HasPropagated s None = IsComplete s.arena s.assigned.trail
HasPropagated s (Some conflict) = IsFalsified (shown s) conflict.0
