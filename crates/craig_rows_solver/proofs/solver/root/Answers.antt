use Rattle.craig_rows_solver.proofs.RefutedLemmas.{replayable}
use Rattle.craig_rows_solver.proofs.solver.root.Goals as goal

pub replay-requires-clause-root : goal.replay-requires-clause-root
replay-requires-clause-root c =
    replayable c.in_ok-root.field-0 c.in-Failed.root _ c.solve.new.self.root c.solve.new.self.tracer c.tracer.result.now c.in-Failed.is c.in_ok-root.ensures.solved.root c.tracer.ensures.root c.tracer.ensures.value
