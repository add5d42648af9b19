use Rattle.std.proofs.Common.{◌∙◌, ap, pos, get_or, arith}
use Rattle.std.specs.Int.RustNames.{unsigned_abs}
use mir.Val.{SFits}
use mir.Syntax.{w64}
use Rattle.std.proofs.lemmas.Int.{to_z-of_z}
use Rattle.craig_script.specs.Reading.{variable_limit}
use Rattle.craig_top.proofs.FormatLemmas.{literals-more, variable_of}
use Rattle.craig_top.proofs.GrowthLemmas.{is_within-at, SFits-from_abs}
use Rattle.craig_top.proofs.greatest.greatest_variable.Goals as goal

pub overflow_cast-unsigned_abs : goal.overflow_cast-unsigned_abs
overflow_cast-unsigned_abs c =
    let bounds = is_within-at variable_limit c.args.literals.now c.loop-literal.literal-index (pos 0) c.requires c.loop-literal-test.true in
    let fits : SFits w64 (get_or c.args.literals.now c.loop-literal.literal-index (pos 0)) = SFits-from_abs _ bounds.1 in
    omega (arith, bounds.1, c.unsigned_abs.ensures.value ∙ ap unsigned_abs (to_z-of_z w64 _ fits))

pub loop-literal-preserved : goal.loop-literal-preserved
loop-literal-preserved c =
    let z = get_or c.args.literals.now c.loop-literal.literal-index (pos 0) in
    let bounds = is_within-at variable_limit c.args.literals.now c.loop-literal.literal-index (pos 0) c.requires c.loop-literal-test.true in
    let fits : SFits w64 z = SFits-from_abs _ bounds.1 in
    literals-more c.args.literals.now c.loop-literal.literal-index (pos 0) c.unsigned_abs.result c.loop-literal.greatest _ c.loop-literal-test.true
    (c.unsigned_abs.ensures.value ∙ ap unsigned_abs (to_z-of_z w64 _ fits) ∙ variable_of z) c.loop-literal.invariant c.max-greatest.ensures
