use Rattle.std.proofs.Common.{arith, ◌∙◌}
use Rattle.std.proofs.lemmas.Result.{IfOk-from_err}
use Rattle.craig_solver.proofs.ValueLemmas.{AreValuesOf-read}
use Rattle.craig_solver.proofs.settling.values_of.Goals as goal

pub returns : goal.returns
returns c =
    AreValuesOf-read c.values_are_an_assignment.ensures c.entries_have_places.ensures.true_literal c.entries_have_places.ensures.place c.args.held.now c.loop-var.values c.vars-vars.ensures.consistent (c.loop-var.invariant.many ∙ c.vars-vars.ensures.value) (λ v low. c.loop-var.invariant.set v (omega (arith, low, c.vars-vars.ensures.value, c.loop-var-test.false)))

pub returns-in_err-values : goal.returns-in_err-values
returns-in_err-values c = IfOk-from_err _ _ c.from_residual.ensures.0
