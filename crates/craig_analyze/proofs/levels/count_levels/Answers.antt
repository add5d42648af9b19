use Rattle.std.proofs.Common.{◌<◌, length, sym, arith}
use Rattle.std.proofs.lemmas.Result.{IfOk-from_err}
use Rattle.craig_analyze.proofs.LevelLemmas.{level_of-is}
use Rattle.craig_analyze.proofs.GlueLemmas.{count-step, count-end, few-levels}
use Rattle.craig_analyze.proofs.levels.count_levels.Goals as goal

pub loop-lit-preserved : goal.loop-lit-preserved
loop-lit-preserved c =
    let t = c.args.held.now.trail in
    count-step t c.args.lits.now c.loop-lit.lit-index c.lit-item.result c.level_of.result c.in_ok-insert.field-0 c.loop-lit.marks c.insert.new.self c.loop-lit-test.true c.lit-item.is c.loop-lit.invariant (level_of-is t c.lit-item.result c.var.result.0 c.level_of.result c.var.ensures.value c.level_of.ensures) c.in_ok-insert.ensures.marked

pub returns : goal.returns
returns c =
    record {
      different = c.loop-lit.marks;
      once = c.len.ensures.once;
      same = count-end c.args.held.now.trail c.args.lits.now c.loop-lit.lit-index c.loop-lit.marks c.loop-lit-test.false c.loop-lit.invariant;
      number = sym c.len.ensures.number;
    }

pub overflow_cast-result : goal.overflow_cast-result
overflow_cast-result c =
    let same = count-end c.args.held.now.trail c.args.lits.now c.loop-lit.lit-index c.loop-lit.marks c.loop-lit-test.false c.loop-lit.invariant in
    let few : length c.loop-lit.marks < 4294967296 = few-levels c.args.held.now c.args.lits.now c.loop-lit.marks c.requires.consistent (c.levels_rise.ensures.few_levels c.args.held.now c.requires.consistent) c.len.ensures.once same in
    omega (arith, c.len.ensures.number)

pub returns-in_err-insert : goal.returns-in_err-insert
returns-in_err-insert c = IfOk-from_err _ _ c.from_residual.ensures.0
