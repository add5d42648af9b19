-- Watched literals: each clause of two or more literals stands in the lists of its first two.
use Rattle.std.specs.Prelude.{◌≡◌, ◌≢◌, ◌⊎◌, ◌↔◌, Bool, true, false, ℕ, ◌+◌, ◌-◌, ◌*◌, ◌<◌, ◌≤◌, List, [], ◌∷◌, ◌++◌, Some, length, AllPairs, Contains, slice_index_or, slice_set, take}
use Rattle.craig_spec.specs.Literal.{Literal, Clause, negation}
use Rattle.craig_base.specs.Literals.{literal_code}
use Rattle.craig_base.specs.Arena.{ArenaView, IsLive, without}
use Rattle.craig_base.specs.declared.clause_id.ClauseId.{ClauseId}
use Rattle.craig_watch.specs.declared.beside.Beside.{Beside}
use Rattle.craig_watch.specs.declared.beside.Beside.TheVariants.{Other, Blocker}
use Rattle.craig_watch.specs.declared.trail_entry.TrailEntry.{TrailEntry}
use Rattle.craig_watch.specs.declared.value.Value.TheVariants.{True}
use Rattle.craig_watch.specs.Trail.{Trail, value_under, IsFalse, level_at, decisions}
use Rattle.craig_watch.specs.Held.{held_clause}

-- the clauses that a literal watches, as they are kept
pub record WatchListView : Type 0 where
  -- by entry, the clause
  pub ids : List ClauseId
  -- by entry, the literal that is looked at before the clause
  pub beside : List Beside

-- no clause
abbrev pub no_watches : WatchListView
no_watches = record { ids = []; beside = [] }

-- one entry more, at the end
abbrev pub with_watch : WatchListView → ClauseId → Beside → WatchListView
with_watch w id b = record { ids = w.ids ++ id ∷ []; beside = w.beside ++ b ∷ [] }

-- the last entry is gone
abbrev pub without_last : WatchListView → WatchListView
without_last w = record { ids = take (length w.ids - 1) w.ids; beside = take (length w.beside - 1) w.beside }

-- another literal stands beside the entry
abbrev pub with_beside : WatchListView → ℕ → Beside → WatchListView
with_beside w index b = record { ids = w.ids; beside = slice_set w.beside index b }

-- the list of the literal
abbrev pub list_of : List WatchListView → Literal → WatchListView
list_of lists l = slice_index_or lists (literal_code l) no_watches

-- the element at the place is gone, and the last one stands there
pub record IsTakenOut {X : Type 0} (index : ℕ) (xs ys : List X) : Type 0 where
  -- one is gone
  pub less : length ys + 1 ≡ length xs
  -- the last one took its place
  pub last : (d : X) → index < length ys → slice_index_or ys index d ≡ slice_index_or xs (length ys) d
  -- all others stay
  pub rest : (k : ℕ) (d : X) → k ≢ index → k < length ys → slice_index_or ys k d ≡ slice_index_or xs k d

-- the clause has two literals or more, and this is one of the first two
pub record IsWatch (c : Clause) (l : Literal) : Type 0 where
  -- it has two literals or more
  pub long : 1 < length c
  -- the literal stands at a place
  pub place : ℕ
  -- it is one of the first two
  pub first : place < 2
  -- it stands there
  pub at : slice_index_or c place l ≡ l

-- a held clause of two or more literals has the literal among its first two
pub record Watches (a : ArenaView) (id : ℕ) (l : Literal) : Type 0 where
  -- the clause
  pub clause : Clause
  -- it is held under the id
  pub held : held_clause a id ≡ Some clause
  -- and has the literal among its first two
  pub watch : IsWatch clause l

-- the ids are those of the held clauses of two or more literals that have this one among their first two, each once
pub record AreWatchers (a : ArenaView) (l : Literal) (ids : List ClauseId) : Type 0 where
  -- none stands twice
  pub distinct : AllPairs (λ i j. i ≢ j) ids
  -- they are those of the clauses that the literal watches
  pub exact : (id : ClauseId) → Contains ids id ↔ Watches a id.0 l

-- the clause has these two literals and no others
pub record IsPairOf (c : Clause) (l m : Literal) : Type 0 where
  -- it has the one
  pub one : Contains c l
  -- and the other
  pub other : Contains c m
  -- and none else
  pub only : (x : Literal) → Contains c x → (x ≡ l) ⊎ (x ≡ m)

-- the literal beside an entry of the list of l is the other one of a clause of two, or stands in the clause
abbrev pub IsBeside : Clause → Literal → Beside → Type 0
IsBeside c l (Other m) = IsPairOf c l m
IsBeside c l (Blocker m) = Contains c m

-- the literal beside an entry is right of the clause that is held under the id
abbrev pub IsBesideOf : ArenaView → Literal → ClauseId → Beside → Type 0
IsBesideOf a l id b = (c : Clause) → held_clause a id.0 ≡ Some c → IsBeside c l b

-- each literal has the list of the clauses that it watches
pub record AreListed (a : ArenaView) (vars : ℕ) (lists : List WatchListView) : Type 0 where
  -- there is a list for each literal of a known variable
  pub sized : 2 * vars ≤ length lists
  -- a list has the clauses that the literal watches, each once
  pub watchers : (l : Literal) → AreWatchers a l (list_of lists l).ids
  -- something stands beside each entry
  pub in_step : (l : Literal) → length (list_of lists l).beside ≡ length (list_of lists l).ids
  -- and it is right of the clause
  pub beside : (l : Literal) (k : ℕ) (d : ClauseId) (e : Beside) → k < length (list_of lists l).ids → IsBesideOf a l (slice_index_or (list_of lists l).ids k d) (slice_index_or (list_of lists l).beside k e)

-- a literal of the clause is true at a level that is not above this one
pub record HasTrueUpTo (t : Trail) (c : Clause) (level : ℕ) : Type 0 where
  -- the literal
  pub true_one : Literal
  -- it is of the clause
  pub has : Contains c true_one
  -- it is true
  pub is_true : value_under t true_one ≡ True
  -- at a level that is not above
  pub low : level_at t true_one ≤ level

-- the literal that made this one false stands at the place or behind it
pub record IsPending (t : Trail) (walked : ℕ) (l : Literal) : Type 0 where
  -- where it stands
  pub place : ℕ
  -- at the place or behind it
  pub behind : walked ≤ place
  -- on the trail
  pub within : place < length t
  -- it made the literal false
  pub negates : (d : TrailEntry) → (slice_index_or t place d).literal ≡ negation l

-- What holds of each watch that is false, as in MiniSat, where an assertion of `propagate` would say it: its list was
-- walked when it became false, and then a literal of the clause was found true at no higher level, so that going back
-- frees the watch first; or its list is yet to be walked; or the clause came since propagation was last complete, and
-- is yet to be looked at. Clauses are looked at by rising id, and lists walked along the trail.
pub record AreSettled (a : ArenaView) (t : Trail) (looked walked : ℕ) : Type 0 where
  -- only ids that were given were looked at
  pub given : looked ≤ a.given
  -- lists were walked up to a place of the trail
  pub within : walked ≤ length t
  -- what stands from there on has the present level
  pub present : (k : ℕ) (d : TrailEntry) → walked ≤ k → k < length t → (slice_index_or t k d).level ≡ decisions t
  -- a watch that is false was walked, is pending, or its clause waits
  pub walked_pending_or_waiting : (id : ℕ) (c : Clause) (l : Literal) → held_clause a id ≡ Some c → IsWatch c l → IsFalse t l → HasTrueUpTo t c (level_at t l) ⊎ (IsPending t walked l ⊎ (looked ≤ id))
  -- a clause of fewer than two literals has one that is true at level 0, or waits
  pub short : (id : ℕ) (c : Clause) → held_clause a id ≡ Some c → length c < 2 → HasTrueUpTo t c 0 ⊎ (looked ≤ id)

-- clauses under a trail are watched
pub record AreWatched (a : ArenaView) (vars : ℕ) (t : Trail) (lists : List WatchListView) (looked walked : ℕ) : Type 0 where
  -- the lists are right
  pub listed : AreListed a vars lists
  -- and each watch that is false was walked, is pending, or its clause waits
  pub settled : AreSettled a t looked walked

-- the list of the literal is changed, and no other
pub record ChangesList (old new : List WatchListView) (l : Literal) (now : WatchListView) : Type 0 where
  -- there are as many
  pub sized : length new ≡ length old
  -- this is the list now
  pub here : list_of new l ≡ now
  -- no other one changed
  pub others : (m : Literal) → m ≢ l → list_of new m ≡ list_of old m

-- the entry of a list stood in another one, with the same literal beside it
pub record StoodIn (old new : WatchListView) (k : ℕ) : Type 0 where
  -- where it stood
  pub place : ℕ
  -- in the list
  pub within : place < length old.ids
  -- it is of the same clause
  pub ids : (d : ClauseId) → slice_index_or new.ids k d ≡ slice_index_or old.ids place d
  -- with the same literal beside it
  pub beside : (e : Beside) → slice_index_or new.beside k e ≡ slice_index_or old.beside place e

-- entries of a list whose clauses aren't live were taken out, as far as they stood at the place or behind it
pub record IsSwept (a : ArenaView) (from : ℕ) (old new : WatchListView) : Type 0 where
  -- something stands beside each entry
  pub in_step : length new.beside ≡ length new.ids
  -- those that are left stood there before
  pub stood : (k : ℕ) → k < length new.ids → StoodIn old new k
  -- none stands twice if none did
  pub distinct : AllPairs (λ i j. i ≢ j) old.ids → AllPairs (λ i j. i ≢ j) new.ids
  -- from the place on all are live
  pub live : (k : ℕ) (d : ClauseId) → from ≤ k → k < length new.ids → IsLive a (slice_index_or new.ids k d).0
  -- and those that are live are left
  pub kept : (id : ClauseId) → Contains old.ids id → IsLive a id.0 → Contains new.ids id

-- an entry is taken from the list of the literal, and no other list changed
pub record TakesWatch (old new : List WatchListView) (l : Literal) (index : ℕ) : Type 0 where
  -- there are as many lists
  pub sized : length new ≡ length old
  -- the clause is gone
  pub ids : IsTakenOut index (list_of old l).ids (list_of new l).ids
  -- and what stood beside it
  pub beside : IsTakenOut index (list_of old l).beside (list_of new l).beside
  -- no other list changed
  pub others : (m : Literal) → m ≢ l → list_of new m ≡ list_of old m

-- the literal beside an entry: the other one of a clause of two, or one of a longer clause
abbrev pub beside_for : Bool → Literal → Beside
beside_for true l = Other l
beside_for false l = Blocker l

-- a clause was put last into the lists of two literals, and no other list changed
pub record WatchesBoth (old new : List WatchListView) (id : ClauseId) (first second : Literal) (pair : Bool) : Type 0 where
  -- the list of the one
  pub one : list_of new first ≡ with_watch (list_of old first) id (beside_for pair second)
  -- and of the other
  pub two : list_of new second ≡ with_watch (list_of old second) id (beside_for pair first)
  -- no other list changed
  pub others : (m : Literal) → m ≢ first → m ≢ second → list_of new m ≡ list_of old m

-- the arena without the clauses of the ids
abbrev pub without_all : ArenaView → List ClauseId → ArenaView
without_all a [] = a
without_all a (id ∷ ids) = without_all (without a id.0) ids
