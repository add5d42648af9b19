use Rattle.std.proofs.Common.{ap}
use Rattle.std.proofs.lemmas.Result.{IfOk-from_err}
use Rattle.craig_watch.specs.Held.{HeldView}
use Rattle.craig_solver.proofs.ReadyLemmas.{IsReady-given, known-literals}
use Rattle.craig_solver.proofs.settling.read_model.Goals as goal

pub give_back_each-requires : goal.give_back_each-requires
give_back_each-requires c =
    known-literals c.args.held.now c.trail.result.now _ c.trail.ensures.consistent c.trail.ensures.value c.requires.known

pub returns-clause-ready : goal.returns-clause-ready
returns-clause-ready c =
    IsReady-given c.entries_have_places.ensures.place c.args.held.now c.back_to.new.self c.trail.result.now c.args.order.now c.give_back_each.new.order (ap (λ (h : HeldView). h.vars) c.back_to.ensures.back) c.trail.ensures.value c.requires.assigned c.requires.known c.give_back_each.ensures.known c.give_back_each.ensures.given

pub returns-in_err-values-clause-values : goal.returns-in_err-values-clause-values
returns-in_err-values-clause-values c = IfOk-from_err _ _ c.from_residual.ensures.0

pub returns-in_err-values-clause-back : goal.returns-in_err-values-clause-back
returns-in_err-values-clause-back c = IfOk-from_err _ _ c.from_residual.ensures.0

pub returns-in_err-values-clause-ready : goal.returns-in_err-values-clause-ready
returns-in_err-values-clause-ready c = IfOk-from_err _ _ c.from_residual.ensures.0

pub returns-in_err-values-clause-consistent : goal.returns-in_err-values-clause-consistent
returns-in_err-values-clause-consistent c = IfOk-from_err _ _ c.from_residual.ensures.0
