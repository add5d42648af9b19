use Rattle.std.proofs.lemmas.Result.{IfOk-from_err, on_ok_weaker}
use Rattle.craig_solver.proofs.GrownLemmas.{IsState-grown}
use Rattle.craig_solver.proofs.state.State.reach.Goals as goal

pub returns-clause-state : goal.returns-clause-state
returns-clause-state g c =
    on_ok_weaker c.grow-2.result (λ grown. IsState-grown _ c.grow.new.self c.grow-2.new.self c.args.vars c.requires.state c.in_ok-grow.ensures.grown c.grow.ensures.consistent grown) c.grow-2.ensures.grown

pub returns-in_err-grow-clause-state : goal.returns-in_err-grow-clause-state
returns-in_err-grow-clause-state g c = IfOk-from_err _ _ c.from_residual.ensures.0

pub returns-in_err-grow-clause-vars : goal.returns-in_err-grow-clause-vars
returns-in_err-grow-clause-vars g c = IfOk-from_err _ _ c.from_residual.ensures.0

pub returns-in_err-grow-clause-held : goal.returns-in_err-grow-clause-held
returns-in_err-grow-clause-held g c = IfOk-from_err _ _ c.from_residual.ensures.0
