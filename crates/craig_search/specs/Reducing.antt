-- What is let go in the course of a search.
use Rattle.std.specs.Prelude.{◌≡◌, ◌≢◌, ◌⊎◌, ℕ, ◌+◌, true, false, IfSome, Option, Some}
use Rattle.craig_spec.specs.Literal.{Literal}
use Rattle.craig_spec.specs.Chain.{Told}
use Rattle.craig_base.specs.Arena.{ArenaView, clause_at}
use Rattle.craig_base.specs.declared.clause_id.ClauseId.{ClauseId}
use Rattle.craig_watch.specs.declared.trail_entry.TrailEntry.{TrailEntry}
use Rattle.craig_watch.specs.Trail.{Trail, entry_of}
use Rattle.craig_watch.specs.Held.{HeldView}
use Rattle.craig_search.specs.declared.reductions.Reductions.{Reductions}
use Rattle.craig_search.specs.Journal.{StayKept}
use Rattle.craig_search.specs.Searching.{GoesOnSince}

-- clauses under ids from the first on were let go, and nothing else was done
pub record LetsGo (first : ℕ) (old new : HeldView) (told_old told_new : Option Told) : Type 0 where
  -- the search goes on
  pub goes_on : GoesOnSince first old new told_old told_new
  -- the trail is the same
  pub others : new ≡ record old { arena = new.arena }
  -- no id was given
  pub given : new.arena.given ≡ old.arena.given
  -- a clause that is marked as kept is held still
  pub kept : StayKept old.arena new.arena

-- nothing was done, or one reduction less may come, and the clauses from now on are counted anew
abbrev pub IsReduced : Reductions → Reductions → HeldView → HeldView → Type 0
IsReduced old new before after = ((new ≡ old) × (after ≡ before)) ⊎ ((new.first ≡ old.first) × (new.since ≡ after.arena.given) × (new.left + 1 ≡ old.left))

-- the clause of the id is learnt
abbrev pub IsLearnt : ArenaView → ℕ → Type 0
IsLearnt a id = IfSome (clause_at a id) (λ c. c.flags.learnt ≡ true)

-- the clause of the id isn't marked as kept
abbrev pub IsUnkept : ArenaView → ℕ → Type 0
IsUnkept a id = IfSome (clause_at a id) (λ c. c.flags.kept ≡ false)

-- the literal isn't true with the clause of the id as its reason
abbrev pub IsNotForcedBy : Trail → ClauseId → Literal → Type 0
IsNotForcedBy t id l = (e : TrailEntry) → entry_of t l.var ≡ Some e → e.literal ≡ l → e.reason ≢ Some id
