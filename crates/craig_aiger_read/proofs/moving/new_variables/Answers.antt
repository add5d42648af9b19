use Rattle.std.proofs.lemmas.Result.{IfOk-from_err}
use Rattle.craig_aiger_read.proofs.moving.new_variables.Goals as goal

pub returns-in_err-variables-clause-places : goal.returns-in_err-variables-clause-places
returns-in_err-variables-clause-places c = IfOk-from_err _ _ c.from_residual.ensures.0

pub returns-in_err-variables-clause-long : goal.returns-in_err-variables-clause-long
returns-in_err-variables-clause-long c = IfOk-from_err _ _ c.from_residual.ensures.0
