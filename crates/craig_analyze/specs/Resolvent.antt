-- The resolvent in the course of conflict analysis.
use Rattle.std.specs.Prelude.{◌≡◌, ◌≢◌, ◌⊎◌, ◌↔◌, ℕ, ◌<◌, ◌≤◌, List, [], ◌∷◌, ◌++◌, Some, IsSome, length, map, take, All, AllPairs, Contains, slice_index_or}
use Rattle.std.specs.List.Sorted.{IsPermutation}
use Rattle.std.specs.BinaryHeap.{heap_items}
use Rattle.craig_spec.specs.Literal.{Literal, Clause, negation}
use Rattle.craig_spec.specs.Chain.{ChainStep, SameLiterals, IsChain}
use Rattle.craig_base.specs.Counting.{NoneMoreThan}
use Rattle.craig_proof.specs.NeededSteps.{bound_of}
use Rattle.craig_watch.specs.declared.trail_entry.TrailEntry.{TrailEntry}
use Rattle.craig_watch.specs.Trail.{Trail, any_entry, IsFalse, level_at}
use Rattle.craig_watch.specs.Held.{HeldView, held_clause}
use Rattle.craig_analyze.specs.declared.resolvent.Resolvent.{Resolvent}
use Rattle.craig_analyze.specs.declared.staying.Staying.{Staying}
use Rattle.craig_analyze.specs.declared.staying.Staying.TheVariants.{InnerLevels, Decisions, Irredundant}
use Rattle.craig_analyze.specs.Decision.{IsDecision}

-- what contracts see of a resolvent
pub record ResolventView : Type 0 where
  -- the variables that were met
  pub marked : List ℕ
  -- the places on the trail that are to be resolved on
  pub pending : List ℕ
  -- the literals of the levels between, which stay
  pub lower : Clause

-- what the fields of a resolvent say
abbrev pub view_of : Resolvent → ResolventView
view_of r = record { marked = r.variables; pending = heap_items r.pending; lower = r.lower.items }

-- the entry at the place on the trail
abbrev pub at_place : Trail → ℕ → TrailEntry
at_place t p = slice_index_or t p any_entry

-- the literal that the entry at the place makes false
abbrev pub negated_at : Trail → ℕ → Literal
negated_at t p = negation (at_place t p).literal

-- the resolvent as a clause
abbrev pub resolvent_of : Trail → ResolventView → Clause
resolvent_of t s = map (negated_at t) s.pending ++ s.lower

-- the level is 0 or the present one
abbrev pub IsEndLevel : HeldView → ℕ → Type 0
IsEndLevel h level = (level ≡ 0) ⊎ (level ≡ h.level)

-- the entry is one whose literal may be resolved on: of an end level, or for the other two, one that has a reason
abbrev pub IsResolvedOn : Staying → HeldView → TrailEntry → Type 0
IsResolvedOn InnerLevels h e = IsEndLevel h e.level
IsResolvedOn Decisions h e = IsSome e.reason
IsResolvedOn Irredundant h e = IsSome e.reason

-- the literal may stay: it is of a level between, it negates a decision, or it is of a level above 0
abbrev pub Stays : Staying → HeldView → Literal → Type 0
Stays InnerLevels h l = (0 < level_at h.trail l) × (level_at h.trail l < h.level)
Stays Decisions h l = IsDecision h.trail (negation l)
Stays Irredundant h l = 0 < level_at h.trail l

-- a false clause under way: what is pending stands below the bound, and what is marked there is in the clause
pub record IsUnresolved (k : Staying) (h : HeldView) (bound : ℕ) (s : ResolventView) : Type 0 where
  -- the bound is on the trail
  pub within : bound ≤ length h.trail
  -- what is pending stands below the bound
  pub below : All (λ p. p < bound) s.pending
  -- no place is pending twice
  pub once : NoneMoreThan 1 s.pending
  -- what is pending is resolved on
  pub ends : All (λ p. IsResolvedOn k h (at_place h.trail p)) s.pending
  -- the variable of a pending place is marked
  pub pending_marked : All (λ p. Contains s.marked (at_place h.trail p).literal.var) s.pending
  -- the lower literals are false
  pub lower_false : All (IsFalse h.trail) s.lower
  -- they stay
  pub lower_inner : All (Stays k h) s.lower
  -- they are of different variables
  pub lower_apart : AllPairs (λ l m. l.var ≢ m.var) s.lower
  -- their variables are marked
  pub lower_marked : All (λ l. Contains s.marked l.var) s.lower
  -- no literal that stays is pending
  pub apart : (p : ℕ) (l : Literal) → Contains s.pending p → Contains s.lower l → l ≢ negated_at h.trail p
  -- what is false below the bound and marked is in the clause
  pub met : (l : Literal) → IsFalse (take bound h.trail) l → Contains s.marked l.var → Contains (resolvent_of h.trail s) l

-- the literal may be met: it is false under what stands below the bound, or marked
abbrev pub MayBeMet : Trail → ℕ → ResolventView → Literal → Type 0
MayBeMet t bound s l = IsFalse (take bound t) l ⊎ Contains s.marked l.var

-- the literals that are false under what stands below the bound came into the resolvent
pub record HasMet (k : Staying) (h : HeldView) (bound : ℕ) (c : Clause) (old new : ResolventView) : Type 0 where
  -- the clause is under way still
  pub unresolved : IsUnresolved k h bound new
  -- it has the literals from before and those of the other clause that are false below the bound
  pub literals : (l : Literal) → Contains (resolvent_of h.trail new) l ↔ (Contains (resolvent_of h.trail old) l ⊎ (Contains c l × IsFalse (take bound h.trail) l))
  -- what was marked stays so
  pub marked : (v : ℕ) → Contains old.marked v → Contains new.marked v

-- the same after a clause was met, from each state in which it may be
abbrev pub Meets : Staying → HeldView → Clause → ResolventView → ResolventView → Type 0
Meets k h c old new = (bound : ℕ) → IsUnresolved k h bound old → All (MayBeMet h.trail bound old) c → HasMet k h bound c old new

-- the greatest place is taken out
pub record IsGreatestTaken (place : ℕ) (old new : ResolventView) : Type 0 where
  -- the place was pending, and the rest is pending still
  pub rest : IsPermutation old.pending (place ∷ new.pending)
  -- no other is greater
  pub greatest : All (λ p. p ≤ place) new.pending
  -- the same variables are marked
  pub marked : new.marked ≡ old.marked
  -- the same literals stay
  pub lower : new.lower ≡ old.lower

-- the place that was taken out may be resolved on
pub record IsResolvable (k : Staying) (h : HeldView) (place : ℕ) (s : ResolventView) : Type 0 where
  -- the place is on the trail
  pub within : place < length h.trail
  -- its literal is resolved on
  pub end : IsResolvedOn k h (at_place h.trail place)
  -- its variable is marked
  pub marked : Contains s.marked (at_place h.trail place).literal.var
  -- it has a reason
  pub forced : IsSome (at_place h.trail place).reason
  -- the literal that it makes false doesn't stay
  pub gone : ¬ Contains s.lower (negated_at h.trail place)
  -- what is pending stands below it
  pub unresolved : IsUnresolved k h place s

-- a chain that ends at the resolvent, beside literals that stay
abbrev pub Leads : HeldView → Clause → List ChainStep → Clause → ResolventView → Type 0
Leads h start steps extra s = IsChain (held_clause h.arena) start steps (extra ++ resolvent_of h.trail s)

-- literals other than that of the place, whose negations are not false by what stands below it
abbrev pub AreApart : HeldView → ℕ → Clause → Type 0
AreApart h place extra = All (λ l. (¬ IsFalse (take place h.trail) (negation l)) × (l ≢ negated_at h.trail place)) extra

-- the literal at the place was resolved on
pub record HasResolved (k : Staying) (h : HeldView) (place : ℕ) (before after : List ChainStep) (old new : ResolventView) : Type 0 where
  -- what is pending stands below the place
  pub unresolved : IsUnresolved k h place new
  -- the other literals are in the resolvent still
  pub longer : (l : Literal) → Contains (resolvent_of h.trail old) l → Contains (resolvent_of h.trail new) l
  -- those that came are false by what stands below the place
  pub earlier : (l : Literal) → Contains (resolvent_of h.trail new) l → Contains (resolvent_of h.trail old) l ⊎ IsFalse (take place h.trail) l
  -- a chain to the resolvent before leads to the one after
  pub chain : (start extra : Clause) → AreApart h place extra → IsChain (held_clause h.arena) start before (extra ++ negated_at h.trail place ∷ resolvent_of h.trail old) → Leads h start after extra new

-- the state after the literals of a false clause were met
pub record HasBegun (h : HeldView) (id : ℕ) (s : ResolventView) : Type 0 where
  -- the false clause
  pub conflict : Clause
  -- it is held
  pub held : held_clause h.arena id ≡ Some conflict
  -- the resolvent has its literals
  pub same : SameLiterals conflict (resolvent_of h.trail s)
  -- it is under way
  pub unresolved : IsUnresolved InnerLevels h (length h.trail) s

-- a pending place is of the present level
abbrev pub HasPresent : HeldView → ResolventView → Type 0
HasPresent h s = (p : ℕ) × Contains s.pending p × ((at_place h.trail p).level ≡ h.level)

-- the asserting literal was found, and all other pending places are of level 0
pub record HasFound (h : HeldView) (first : Literal) (before after : List ChainStep) (old new : ResolventView) : Type 0 where
  -- the place of the literal
  pub place : ℕ
  -- it is on the trail
  pub within : place < length h.trail
  -- the literal is false by the entry there
  pub first_is : first ≡ negated_at h.trail place
  -- it is of the present level
  pub level : (at_place h.trail place).level ≡ h.level
  -- what is pending stands below it
  pub unresolved : IsUnresolved InnerLevels h place new
  -- what is pending is of level 0
  pub root : All (λ p. (at_place h.trail p).level ≡ 0) new.pending
  -- a chain to the resolvent before leads to the literal and the resolvent after
  pub chain : (start : Clause) → Leads h start before [] old → Leads h start after (first ∷ []) new

-- all pending places were resolved on, beside other false literals of levels above 0
pub record HasEnded (h : HeldView) (before after : List ChainStep) (old new : ResolventView) : Type 0 where
  -- a bound of what was pending
  pub bound : ℕ
  -- the clause is under way still
  pub unresolved : IsUnresolved InnerLevels h bound new
  -- nothing is pending
  pub none : new.pending ≡ []
  -- a chain to the resolvent before, beside such literals, leads to the one after
  pub chain : (start extra : Clause) → All (λ l. IsFalse h.trail l × (0 < level_at h.trail l)) extra → Leads h start before extra old → Leads h start after extra new

-- the search for the asserting literal so far: the place that was taken out last is of the present level
pub record IsWalking (h : HeldView) (place : ℕ) (before after : List ChainStep) (old s : ResolventView) : Type 0 where
  -- the place is on the trail
  pub within : place < length h.trail
  -- its literal is of the present level
  pub level : (at_place h.trail place).level ≡ h.level
  -- its variable is marked
  pub marked : Contains s.marked (at_place h.trail place).literal.var
  -- the literal that it makes false is taken out
  pub gone : ¬ Contains s.lower (negated_at h.trail place)
  -- what is pending stands below it
  pub unresolved : IsUnresolved InnerLevels h place s
  -- a chain to the resolvent at the start leads to the literal and the present resolvent
  pub chain : (start : Clause) → Leads h start before [] old → IsChain (held_clause h.arena) start after (negated_at h.trail place ∷ resolvent_of h.trail s)

-- the reason of the negation of a false literal came in: the resolvent has its other literals
pub record HasBegunReason (h : HeldView) (failed : Literal) (id : ℕ) (s : ResolventView) : Type 0 where
  -- the reason
  pub reason : Clause
  -- it is held
  pub held : held_clause h.arena id ≡ Some reason
  -- the place of the negation on the trail
  pub place : ℕ
  -- it is on the trail
  pub within : place < length h.trail
  -- the false literal is false by the entry there
  pub failed_is : failed ≡ negated_at h.trail place
  -- the entry has a reason
  pub forced : IsSome (at_place h.trail place).reason
  -- what came in is under way, below the place
  pub unresolved : IsUnresolved Decisions h place s
  -- with the negation it is the reason
  pub same : SameLiterals reason (negation failed ∷ resolvent_of h.trail s)
  -- what came in is false by what stands below the place
  pub earlier : (l : Literal) → Contains (resolvent_of h.trail s) l → IsFalse (take place h.trail) l

-- all literals that have a reason are resolved on, and what is left stays
pub record HasForced (k : Staying) (h : HeldView) (before after : List ChainStep) (old new : ResolventView) : Type 0 where
  -- a bound of what was pending
  pub bound : ℕ
  -- the clause is under way still
  pub unresolved : IsUnresolved k h bound new
  -- nothing is pending
  pub none : new.pending ≡ []
  -- what came in is false by what stands below the first bound
  pub earlier : (l : Literal) → Contains (resolvent_of h.trail new) l → Contains (resolvent_of h.trail old) l ⊎ IsFalse (take (bound_of old.pending) h.trail) l
  -- a chain to the resolvent before, beside literals that stay apart from what is resolved on, leads to the one after
  pub chain : (start extra : Clause) → ((p : ℕ) → p < bound_of old.pending → AreApart h p extra) → Leads h start before extra old → Leads h start after extra new

-- the resolution with reasons so far
pub record IsForcing (k : Staying) (h : HeldView) (before after : List ChainStep) (old s : ResolventView) : Type 0 where
  -- a bound of what is pending
  pub bound : ℕ
  -- it is no higher than at the start
  pub low : All (λ p. p < bound_of old.pending) s.pending
  -- the clause is under way
  pub unresolved : IsUnresolved k h bound s
  -- what came in is false by what stands below the first bound
  pub earlier : (l : Literal) → Contains (resolvent_of h.trail s) l → Contains (resolvent_of h.trail old) l ⊎ IsFalse (take (bound_of old.pending) h.trail) l
  -- a chain to the resolvent at the start, beside such literals, leads to the present one
  pub chain : (start extra : Clause) → ((p : ℕ) → p < bound_of old.pending → AreApart h p extra) → Leads h start before extra old → Leads h start after extra s

-- what is resolved on has a reason
abbrev pub AreForced : Staying → HeldView → Type 0
AreForced k h = (e : TrailEntry) → IsResolvedOn k h e → IsSome e.reason

-- literals that stayed are pending now, and the clause is the same
pub record IsSetAside (h : HeldView) (old new : ResolventView) : Type 0 where
  -- where all have lower levels than the present one, the clause is under way below a place of the present level
  pub unresolved : (bound : ℕ) → bound < length h.trail → (at_place h.trail bound).level ≡ h.level → All (λ l. level_at h.trail l < h.level) old.lower → IsUnresolved Irredundant h bound old → IsUnresolved Irredundant h bound new
  -- it has the same literals
  pub same : SameLiterals (resolvent_of h.trail old) (resolvent_of h.trail new)
  -- what stays has stayed
  pub fewer : (l : Literal) → Contains new.lower l → Contains old.lower l

-- an asserting literal was found, and what was pending and what follows from the rest was resolved on
pub record HasMinimized (h : HeldView) (first : Literal) (before after : List ChainStep) (old new : ResolventView) : Type 0 where
  -- a bound of what was pending
  pub bound : ℕ
  -- the clause is under way still
  pub unresolved : IsUnresolved InnerLevels h bound new
  -- nothing is pending
  pub none : new.pending ≡ []
  -- a chain to the literal and the resolvent before leads to the literal and the one after
  pub chain : (start : Clause) → Leads h start before (first ∷ []) old → Leads h start after (first ∷ []) new

-- the resolution at level 0 so far
pub record IsEnding (h : HeldView) (before after : List ChainStep) (old s : ResolventView) : Type 0 where
  -- a bound of what is pending
  pub bound : ℕ
  -- the clause is under way
  pub unresolved : IsUnresolved InnerLevels h bound s
  -- what is pending is of level 0
  pub root : All (λ p. (at_place h.trail p).level ≡ 0) s.pending
  -- a chain to the resolvent at the start, beside such literals, leads to the present one
  pub chain : (start extra : Clause) → All (λ l. IsFalse h.trail l × (0 < level_at h.trail l)) extra → Leads h start before extra old → Leads h start after extra s
