use Rattle.std.proofs.lemmas.Result.{IfOk-from_err}
use Rattle.craig_solver.proofs.settling.answer_for.Goals as goal

pub returns-in_err-read_model-in-Model-clause-answer : goal.returns-in_err-read_model-in-Model-clause-answer
returns-in_err-read_model-in-Model-clause-answer c = IfOk-from_err _ _ c.from_residual.ensures.0

pub returns-in_err-read_model-in-Model-clause-at_root : goal.returns-in_err-read_model-in-Model-clause-at_root
returns-in_err-read_model-in-Model-clause-at_root c = IfOk-from_err _ _ c.from_residual.ensures.0
