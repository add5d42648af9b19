use Rattle.std.proofs.Common.{◌∙◌}
use Rattle.craig_search.proofs.ReducingLemmas.{LetsGo-both, LetsGo-later}
use Rattle.craig_search.proofs.reducing.reduce.Goals as goal

pub loop-number-preserved : goal.loop-number-preserved
loop-number-preserved g c =
    let step = c.let_go_if_bad.ensures in
    record {
      lets_go = LetsGo-both c.args.first c.args.held.now c.loop-number.held c.let_go_if_bad.new.held (g.T.Tracer.told c.args.tracer.now) (g.T.Tracer.told c.loop-number.tracer) (g.T.Tracer.told c.let_go_if_bad.new.tracer) c.loop-number.invariant.lets_go (LetsGo-later c.args.first c.loop-number.number c.loop-number.held c.let_go_if_bad.new.held _ _ c.loop-number.auto.number step.lets_go);
      consistent = step.consistent;
      covers = step.covers;
      tells = step.tells ∙ c.loop-number.invariant.tells;
      kept = step.kept ∙ c.loop-number.invariant.kept;
    }
