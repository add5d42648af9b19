use Rattle.craig_analyze.proofs.LevelLemmas.{level_of-is}
use Rattle.craig_analyze.proofs.GlueLemmas.{greatest-step, greatest-end}
use Rattle.craig_analyze.proofs.levels.greatest_level.Goals as goal

pub loop-lit-preserved : goal.loop-lit-preserved
loop-lit-preserved c =
    let t = c.args.held.now.trail in
    greatest-step t c.args.lits.now c.loop-lit.lit-index c.lit-item.result c.loop-lit.greatest c.level_of.result c.max-greatest.result c.loop-lit-test.true c.lit-item.is c.loop-lit.invariant (level_of-is t c.lit-item.result c.var.result.0 c.level_of.result c.var.ensures.value c.level_of.ensures) c.max-greatest.ensures

pub returns : goal.returns
returns c = greatest-end c.args.held.now.trail c.args.lits.now c.loop-lit.lit-index c.loop-lit.greatest c.loop-lit-test.false c.loop-lit.invariant
