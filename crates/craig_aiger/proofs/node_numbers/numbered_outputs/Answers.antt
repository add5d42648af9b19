use Rattle.std.proofs.lemmas.Result.{IfOk-from_err}
use Rattle.craig_aiger.proofs.node_numbers.numbered_outputs.Goals as goal

pub returns-in_err-push-clause-value : goal.returns-in_err-push-clause-value
returns-in_err-push-clause-value c = IfOk-from_err _ _ c.from_residual.ensures.0

pub returns-in_err-push-clause-cuts : goal.returns-in_err-push-clause-cuts
returns-in_err-push-clause-cuts c = IfOk-from_err _ _ c.from_residual.ensures.0
