use Rattle.std.proofs.Common.{ℕ, ◌/◌, ◌<◌, length, rules}
use Rattle.std.proofs.lemmas.List.Elements.{All-nil, All-push}
use Rattle.std.proofs.lemmas.Result.{IfOk-from_err}
use Rattle.craig_aiger_read.proofs.FaultLemmas.{memory_error}
use Rattle.craig_aiger_read.proofs.NumberingLemmas.{numbered-all, numbered-next, numbered-none, numbered-refused, one_literal}
use Rattle.craig_aiger_read.proofs.variables.number_roots.Goals as goal

pub loop-root-init : goal.loop-root-init
loop-root-init c = (rw c.new-numbered.ensures.items (numbered-none _ _ _ _), rw c.new-numbered.ensures.items (All-nil _))

pub offset_bounds-roots-root-index : goal.offset_bounds-roots-root-index
offset_bounds-roots-root-index c = search rules

pub number_literal-requires : goal.number_literal-requires
number_literal-requires c = c.requires

pub returns-in_default-clause-read : goal.returns-in_default-clause-read
returns-in_default-clause-read c =
    numbered-refused _ _ _ _ _ _ _ c.loop-root.invariant.0 c.loop-root-test.true (one_literal _ _ _ c.in_default.ensures.number)

pub returns-in_err-push-clause-read : goal.returns-in_err-push-clause-read
returns-in_err-push-clause-read c = memory_error _ _ _ _ c.from_residual.ensures.1

pub returns-in_err-push-clause-within : goal.returns-in_err-push-clause-within
returns-in_err-push-clause-within c = IfOk-from_err _ _ c.from_residual.ensures.0

pub loop-root-preserved : goal.loop-root-preserved
loop-root-preserved c = (
  rw c.in_ok-push.ensures.items (numbered-next _ _ _ _ _ _ _ _ c.loop-root.invariant.0 c.loop-root-test.true (one_literal _ _ _ c.in-Some.ensures.number)),
  rw c.in_ok-push.ensures.items (All-push (λ (l : ℕ). l / 2 < length c.args.variables.now.keys) _ _ c.loop-root.invariant.1 c.in-Some.ensures.within),
)

pub returns-clause-read : goal.returns-clause-read
returns-clause-read c = numbered-all _ _ _ _ _ _ c.loop-root.invariant.0 c.loop-root-test.false

pub returns-clause-within : goal.returns-clause-within
returns-clause-within c = c.loop-root.invariant.1
