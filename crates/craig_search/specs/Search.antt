-- What a search may begin with, and what it has done in the end.
use Rattle.std.specs.Prelude.{◌≡◌, ℕ, false, Option}
use Rattle.craig_spec.specs.Chain.{Told}
use Rattle.craig_proof.specs.Covers.{IsCovering}
use Rattle.craig_watch.specs.Held.{HeldView, IsConsistent, held_clause}
use Rattle.craig_order.specs.Order.{OrderView}
use Rattle.craig_search.specs.declared.verdict.Verdict.{Verdict}
use Rattle.craig_search.specs.Leaves.{IsAtRest, IsReady, Leaves}
use Rattle.craig_search.specs.Tells.{IsVerdictTold}
use Rattle.craig_search.specs.Verdict.{Assumptions, HasUnitIds, IsVerdict}

-- a search may begin
pub record MayBegin (h : HeldView) (o : OrderView) (told : Option Told) : Type 0 where
  -- nothing is decided
  pub level : h.level ≡ 0
  -- the order has each free variable
  pub ready : IsReady h o
  -- a tracer that tells its meaning covers the held clauses
  pub covers : IsCovering told (held_clause h.arena) h.arena.given

-- a search has come to the verdict, where the tracer was told this before and that after it
pub record IsSearched (old new : HeldView) (o : OrderView) (before after : Option Told) (assumptions : Assumptions) (limit : Option ℕ) (v : Verdict) : Type 0 where
  -- the verdict is right of the clauses that were held, and of the trail
  pub verdict : IsVerdict old new assumptions limit v
  -- its units have ids
  pub ids : HasUnitIds old v
  -- a model stays on the trail, and else nothing is decided and the order is ready
  pub at_rest : IsAtRest new o v
  -- the clauses that it leaves
  pub leaves : Leaves old new
  -- the clauses and their trail are as they are after every call
  pub consistent : IsConsistent new
  -- memory was not refused
  pub alive : new.dead ≡ false
  -- a tracer that tells its meaning covers the held clauses
  pub covers : IsCovering after (held_clause new.arena) new.arena.given
  -- what was told
  pub told : IsVerdictTold old new assumptions v before after
