use Rattle.std.proofs.Common.{◌∙◌, ap, pos, get_or, arith}
use Rattle.std.specs.Int.RustNames.{unsigned_abs}
use mir.Val.{SFits}
use mir.Syntax.{w64}
use Rattle.std.proofs.lemmas.Int.{to_z-of_z}
use Rattle.craig_script.specs.Reading.{variable_limit}
use Rattle.craig_top.proofs.AssumptionLemmas.{pair-within}
use Rattle.craig_top.proofs.FormatLemmas.{pairs-more, variable_of}
use Rattle.craig_top.proofs.GrowthLemmas.{SFits-from_abs}
use Rattle.craig_top.proofs.greatest.greatest_assumed.Goals as goal

pub overflow_cast-unsigned_abs : goal.overflow_cast-unsigned_abs
overflow_cast-unsigned_abs c =
    let bounds = pair-within variable_limit c.args.pairs.now c.loop-pair.pair-index (0, pos 0) c.requires c.loop-pair-test.true in
    let fits : SFits w64 (get_or c.args.pairs.now c.loop-pair.pair-index (0, pos 0)).1 = SFits-from_abs _ bounds.1 in
    omega (arith, bounds.1, c.unsigned_abs.ensures.value ∙ ap unsigned_abs (to_z-of_z w64 _ fits))

pub loop-pair-preserved : goal.loop-pair-preserved
loop-pair-preserved c =
    let pair = get_or c.args.pairs.now c.loop-pair.pair-index (0, pos 0) in
    let bounds = pair-within variable_limit c.args.pairs.now c.loop-pair.pair-index (0, pos 0) c.requires c.loop-pair-test.true in
    let fits : SFits w64 pair.1 = SFits-from_abs _ bounds.1 in
    pairs-more c.args.pairs.now c.loop-pair.pair-index (0, pos 0) c.unsigned_abs.result c.loop-pair.greatest _ c.loop-pair-test.true
    (c.unsigned_abs.ensures.value ∙ ap unsigned_abs (to_z-of_z w64 _ fits) ∙ variable_of pair.1) c.loop-pair.invariant c.max-greatest.ensures
