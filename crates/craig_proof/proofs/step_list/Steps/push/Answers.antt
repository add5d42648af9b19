use Rattle.std.proofs.lemmas.Result.{IfOk-from_err}
use Rattle.craig_proof.proofs.step_list.Steps.push.Goals as goal

pub returns-in_err-push-clause-pushed : goal.returns-in_err-push-clause-pushed
returns-in_err-push-clause-pushed c = IfOk-from_err _ _ c.from_residual.ensures.0
