use Rattle.std.proofs.lemmas.Result.{IfOk-from_err}
use Rattle.craig_aiger_read.proofs.assembly.circuit_with.Goals as goal

pub returns-in_err-gates : goal.returns-in_err-gates
returns-in_err-gates c = IfOk-from_err _ _ c.from_residual.ensures.0

pub returns-in_err-latches : goal.returns-in_err-latches
returns-in_err-latches c = IfOk-from_err _ _ c.from_residual-in_err-latches.ensures.0

pub returns-in_err-outputs : goal.returns-in_err-outputs
returns-in_err-outputs c = IfOk-from_err _ _ c.from_residual-in_err-outputs.ensures.0

pub returns-in_err-bads : goal.returns-in_err-bads
returns-in_err-bads c = IfOk-from_err _ _ c.from_residual-in_err-bads.ensures.0
