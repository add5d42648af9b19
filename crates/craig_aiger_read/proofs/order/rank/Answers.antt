use Rattle.std.proofs.Common.{◌∙◌, rules}
use Rattle.std.proofs.lemmas.Result.{IfOk-from_err}
use Rattle.craig_aiger_read.proofs.OrderLemmas.{ranks-more}
use Rattle.craig_aiger_read.proofs.order.rank.Goals as goal

pub loop-gate-preserved : goal.loop-gate-preserved
loop-gate-preserved c =
    c.in_ok-push.ensures.items ∙ ranks-more c.args.depths.now c.loop-gate.gate c.unwrap_or.result _ c.loop-gate.ranked.items c.loop-gate.invariant (search rules) c.unwrap_or.ensures

pub returns-in_err-push : goal.returns-in_err-push
returns-in_err-push c = IfOk-from_err _ _ c.from_residual.ensures.0
