-- What a search keeps from turn to turn.
use Rattle.std.specs.Prelude.{◌≡◌, ℕ, ◌<◌, ◌≤◌, Bool, true, false, List, [], Option, Some, None, length}
use Rattle.craig_spec.specs.Literal.{Clause}
use Rattle.craig_spec.specs.Chain.{ChainOk, GivesSame, Told}
use Rattle.craig_base.specs.Arena.{ArenaView, IsArena, with_clause, with_id}
use Rattle.craig_base.specs.LemmaRule.{ContainsClause}
use Rattle.craig_watch.specs.Held.{HeldView, IsConsistent, held_clause}
use Rattle.craig_proof.specs.Covers.{IsCovering}
use Rattle.craig_proof.specs.Tracer.{Appends, chain_of, derived_step}
use Rattle.craig_proof.specs.declared.step.Step.{Step}
use Rattle.craig_order.specs.Order.{OrderView}
use Rattle.craig_analyze.specs.declared.learnt.Learnt.{Learnt}
use Rattle.craig_watch.specs.Trail.{IsFalse}
use Rattle.craig_search.specs.declared.outcome.Outcome.{Outcome}
use Rattle.craig_search.specs.declared.outcome.Outcome.TheVariants.{Model, Refuted, Failed, Limited}
use Rattle.craig_search.specs.Assuming.{AreAllAssumed, IsAssumed}
use Rattle.craig_search.specs.Verdict.{Assumptions, IsFound}
use Rattle.craig_search.specs.Leaves.{IsReady, Leaves}
use Rattle.craig_search.specs.Tells.{Tells}

-- no held clause is contained in the clause
abbrev pub IsNew : ArenaView → Clause → Type 0
IsNew a c = (id : ℕ) (d : Clause) → held_clause a id ≡ Some d → ¬ ContainsClause c d

-- the clauses that are held under the ids from the first on, which a search has learnt and not let go
pub record IsJournal (first : ℕ) (a : ArenaView) : Type 0 where
  -- there is one under each id
  pub stand : (id : ℕ) → first ≤ id → id < a.given → (c : Clause) × (held_clause a id ≡ Some c)
  -- it contains no clause of a lower id
  pub new : (id other : ℕ) (c d : Clause) → first ≤ id → other < id → held_clause a id ≡ Some c → held_clause a other ≡ Some d → ¬ ContainsClause c d

-- what is held under the ids from any one on, none of it containing a held clause of a lower id, is so still
abbrev pub KeepsJournals : HeldView → HeldView → Type 0
KeepsJournals old new = (first : ℕ) → IsJournal first old.arena → IsJournal first new.arena

-- the arena with the learnt clause under the next id, which is marked as kept or not
abbrev pub with_learnt : ArenaView → Learnt → Bool → ArenaView
with_learnt a l kept = with_clause a (record { literals = l.lits; flags = record { learnt = true; kept = kept; glue = l.glue } })

-- where both are told, only derived clauses were told since, on the clauses of the start and on one another
abbrev pub TellsLearnt : HeldView → Option Told → Option Told → Type 0
TellsLearnt start before after = (t u : Told) → before ≡ Some t → after ≡ Some u → Tells (held_clause start.arena) start.arena.given (λ id. ⊥) t u

-- what a search has done from its start until now, where the tracer was told this before and that by now
pub record IsSearching (start now : HeldView) (before by_now : Option Told) : Type 0 where
  -- the clauses of the start were stored by rising ids
  pub lent : IsArena start.arena
  -- a tracer that tells its meaning covered them
  pub covered : IsCovering before (held_clause start.arena) start.arena.given
  -- the clauses that it leaves
  pub leaves : Leaves start now
  -- each clause that was held at the start is held still
  pub kept : (id : ℕ) → GivesSame (held_clause start.arena) (held_clause now.arena) id
  -- what it has told
  pub tells : TellsLearnt start before by_now

-- a step of a search, whatever its start was
abbrev pub GoesOn : HeldView → HeldView → Option Told → Option Told → Type 0
GoesOn old new told_old told_new = (start : HeldView) (before : Option Told) → IsSearching start old before told_old → IsSearching start new before told_new

-- a step that lets clauses go under ids from the first on, of a search whose start gave no such id
abbrev pub GoesOnSince : ℕ → HeldView → HeldView → Option Told → Option Told → Type 0
GoesOnSince first old new told_old told_new = (start : HeldView) (before : Option Told) → start.arena.given ≤ first → IsSearching start old before told_old → IsSearching start new before told_new

-- what is true at each turn of a search
pub record IsUnderWay (h : HeldView) (o : OrderView) (told : Option Told) : Type 0 where
  -- the clauses and their trail are as they are after every call
  pub consistent : IsConsistent h
  -- the order has each free variable
  pub ready : IsReady h o
  -- a tracer that tells its meaning covers the held clauses
  pub covers : IsCovering told (held_clause h.arena) h.arena.given

-- the empty clause was told
pub record TellsEmptyClause (old new : HeldView) (root : ℕ) (before after : Option Told) : Type 0 where
  -- one id more is given, and nothing else has changed
  pub numbered : new ≡ record old { arena = with_id old.arena }
  -- it is the root
  pub next : root ≡ old.arena.given
  -- no clause is held under it
  pub fresh : held_clause old.arena root ≡ None
  -- the chain of the empty clause, over the held clauses
  pub first : ℕ
  -- its steps
  pub rest : List Step
  -- it gives no literal
  pub chain : ChainOk (held_clause old.arena) [] first (chain_of rest)
  -- it was told under the root
  pub told : Appends before after (derived_step root [] first rest)

-- the end of the turns: a model on the trail, the empty clause, told at level 0, an assumption that is false by assumptions alone, or the limit
abbrev pub EndsWith : Assumptions → HeldView → HeldView → OrderView → Option Told → Option Told → Outcome → Type 0
EndsWith assumptions start end o before after Model = IsSearching start end before after × IsFound end assumptions × (length o.given_back ≡ end.vars)
EndsWith assumptions start end o before after (Refuted root) =
    (last : HeldView) × (by_then : Option Told) × IsSearching start last before by_then × TellsEmptyClause last end root.0 by_then after × (last.level ≡ 0) × IsReady last o
EndsWith assumptions start end o before after (Failed l) =
    IsSearching start end before after × IsReady end o × IsFalse end.trail l × IsAssumed assumptions l × AreAllAssumed assumptions end.trail
EndsWith assumptions start end o before after Limited = IsSearching start end before after × IsReady end o

-- what the turns of a search leave
pub record IsOutcome (assumptions : Assumptions) (start end : HeldView) (o : OrderView) (before after : Option Told) (outcome : Outcome) : Type 0 where
  -- a model, the root of a refutation, a false assumption, or nothing but the limit
  pub ends : EndsWith assumptions start end o before after outcome
  -- the clauses and their trail are as they are after every call
  pub consistent : IsConsistent end
  -- memory was not refused
  pub alive : end.dead ≡ false
  -- a tracer that tells its meaning covers the held clauses
  pub covers : IsCovering after (held_clause end.arena) end.arena.given
