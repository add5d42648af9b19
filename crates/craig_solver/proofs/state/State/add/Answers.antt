use Rattle.std.proofs.Common.{ap, refl}
use Rattle.std.proofs.lemmas.Result.{IfOk-from_err}
use Rattle.craig_solver.specs.State.{root_number}
use Rattle.craig_solver.proofs.AcceptedLemmas.{same-pushed}
use Rattle.craig_solver.proofs.HeldLemmas.{IsState-same}
use Rattle.craig_solver.proofs.state.State.add.Goals as goal

pub returns-clause-state : goal.returns-clause-state
returns-clause-state g c =
    IsState-same _ c.args.part c.args.lits.now _ (same-pushed _ _ _ c.args.part _ _ refl c.in_ok-written.ensures c.in_ok-push.ensures.items) c.in_ok-hold_normal.ensures.state

pub returns-clause-added : goal.returns-clause-added
returns-clause-added g c = record {
  accepted = same-pushed _ _ _ c.args.part _ _ c.in_ok-hold_normal.ensures.accepted c.in_ok-written.ensures c.in_ok-push.ensures.items;
  held = c.in_ok-hold_normal.ensures.held;
  told = c.in_ok-hold_normal.ensures.told;
  root = ap root_number c.in_ok-hold_normal.ensures.root;
}

pub returns-in_err-written-clause-state : goal.returns-in_err-written-clause-state
returns-in_err-written-clause-state g c = IfOk-from_err _ _ c.from_residual.ensures.0

pub returns-in_err-written-clause-added : goal.returns-in_err-written-clause-added
returns-in_err-written-clause-added g c = IfOk-from_err _ _ c.from_residual.ensures.0

pub returns-in_err-hold_normal-clause-state : goal.returns-in_err-hold_normal-clause-state
returns-in_err-hold_normal-clause-state g c = IfOk-from_err _ _ c.from_residual-in_err-hold_normal.ensures.0

pub returns-in_err-hold_normal-clause-added : goal.returns-in_err-hold_normal-clause-added
returns-in_err-hold_normal-clause-added g c = IfOk-from_err _ _ c.from_residual-in_err-hold_normal.ensures.0

pub returns-in_err-push-clause-state : goal.returns-in_err-push-clause-state
returns-in_err-push-clause-state g c = IfOk-from_err _ _ c.from_residual-in_err-push.ensures.0

pub returns-in_err-push-clause-added : goal.returns-in_err-push-clause-added
returns-in_err-push-clause-added g c = IfOk-from_err _ _ c.from_residual-in_err-push.ensures.0
