use Rattle.craig_top.proofs.OutputLemmas.{pushed_all, pushed_more}
use Rattle.craig_top.proofs.refutation.push_named.Goals as goal

pub loop-place-preserved : goal.loop-place-preserved
loop-place-preserved c =
    pushed_more c.args.family c.args.cuts.now c.args.edges.now c.loop-place.place c.from-cut.result c.index-edges-place.result c.args.outputs.now.items c.loop-place.outputs.items _ c.loop-place-test.true c.requires c.from-cut.ensures c.index-edges-place.is
    c.loop-place.invariant c.in_ok-push.ensures.items

pub returns : goal.returns
returns c = pushed_all c.args.family c.args.cuts.now c.args.edges.now c.loop-place.place c.args.outputs.now.items c.loop-place.outputs.items c.loop-place-test.false c.requires c.loop-place.invariant
