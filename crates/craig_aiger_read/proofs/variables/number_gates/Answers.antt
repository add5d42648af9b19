use Rattle.std.proofs.Common.{◌∷◌, ◌++◌, ◌≡◌, [], length, map, ◌∙◌, ap, rules}
use Rattle.std.proofs.lemmas.List.{map_push}
use Rattle.std.proofs.lemmas.List.Elements.{All-nil, All-push}
use Rattle.std.proofs.lemmas.Result.{IfOk-from_err}
use Rattle.craig_aiger_read.specs.ReadNumbers.{IsGateWithin}
use Rattle.craig_aiger_read.specs.ReadViews.{as_operands}
use Rattle.craig_aiger_read.proofs.FaultLemmas.{memory_error}
use Rattle.craig_aiger_read.proofs.NumberingLemmas.{numbered-all, numbered-next, numbered-none, numbered-refused}
use Rattle.craig_aiger_read.proofs.variables.number_gates.Goals as goal

pub loop-gate-init : goal.loop-gate-init
loop-gate-init c = (rw c.new-numbered.ensures.items (numbered-none _ _ _ _), rw c.new-numbered.ensures.items (All-nil _))

pub offset_bounds-gates-gate-index : goal.offset_bounds-gates-gate-index
offset_bounds-gates-gate-index c = search rules

pub number_gate-requires : goal.number_gate-requires
number_gate-requires c = c.requires

pub returns-in_default-clause-read : goal.returns-in_default-clause-read
returns-in_default-clause-read c = numbered-refused _ _ _ _ _ _ _ c.loop-gate.invariant.0 c.loop-gate-test.true c.in_default.ensures.gate

pub returns-in_err-push-clause-read : goal.returns-in_err-push-clause-read
returns-in_err-push-clause-read c = memory_error _ _ _ _ c.from_residual.ensures.1

pub returns-in_err-push-clause-within : goal.returns-in_err-push-clause-within
returns-in_err-push-clause-within c = IfOk-from_err _ _ c.from_residual.ensures.0

pub loop-gate-preserved : goal.loop-gate-preserved
loop-gate-preserved c =
    let all : map as_operands c.push.new.self.items ≡ map as_operands c.loop-gate.numbered.items ++ as_operands c.in-Some.operands ∷ [] =
    ap (map as_operands) c.in_ok-push.ensures.items ∙ map_push as_operands c.loop-gate.numbered.items c.in-Some.operands in (
      rw all (numbered-next _ _ _ _ _ _ _ _ c.loop-gate.invariant.0 c.loop-gate-test.true c.in-Some.ensures.gate),
      rw c.in_ok-push.ensures.items (All-push (IsGateWithin (length c.args.variables.now.keys)) _ _ c.loop-gate.invariant.1 c.in-Some.ensures.within),
    )

pub returns-clause-read : goal.returns-clause-read
returns-clause-read c = numbered-all _ _ _ _ _ _ c.loop-gate.invariant.0 c.loop-gate-test.false

pub returns-clause-within : goal.returns-clause-within
returns-clause-within c = c.loop-gate.invariant.1
