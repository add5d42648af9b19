use Rattle.std.proofs.Common.{◌∙◌}
use Rattle.craig_solver.proofs.LetGoLemmas.{LetsLearntGo-both}
use Rattle.craig_solver.proofs.state.State.let_learnt_go.Goals as goal

pub loop-number-preserved : goal.loop-number-preserved
loop-number-preserved g c =
    let step = c.let_go_if_bad.ensures in
    record {
      state = step.state;
      lets_go = LetsLearntGo-both _ _ _ c.loop-number.invariant.lets_go step.lets_go;
      tells = step.tells ∙ c.loop-number.invariant.tells;
      kept = step.kept ∙ c.loop-number.invariant.kept;
    }
