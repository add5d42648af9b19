use Rattle.std.proofs.lemmas.Result.{IfOk-from_err}
use Rattle.craig_analyze.proofs.marks.grow.Goals as goal

pub returns-in_err-resize-clause-room : goal.returns-in_err-resize-clause-room
returns-in_err-resize-clause-room c = IfOk-from_err _ _ c.from_residual.ensures.0
