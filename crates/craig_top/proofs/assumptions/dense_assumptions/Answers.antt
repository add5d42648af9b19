use Rattle.std.proofs.Common.{◌∙◌, ap, pos, get_or, refl}
use mir.Val.{SFits}
use mir.Syntax.{w64}
use Rattle.std.proofs.lemmas.Int.{to_z-of_z}
use Rattle.craig_script.specs.Reading.{variable_limit}
use Rattle.craig_top.specs.GivenState.{script_literal}
use Rattle.craig_top.proofs.AssumptionLemmas.{literals-push, named_assumptions-push, pair-within}
use Rattle.craig_top.proofs.GrowthLemmas.{IsOver-more, NamesGrow-trans, SFits-from_abs}
use Rattle.craig_top.proofs.assumptions.dense_assumptions.Goals as goal

pub dense_literal-requires-clause-low : goal.dense_literal-requires-clause-low
dense_literal-requires-clause-low c =
    let bounds = pair-within variable_limit c.args.pairs.now c.loop-pair.pair-index (0, pos 0) c.requires.variables c.loop-pair-test.true in
    let fits : SFits w64 (get_or c.args.pairs.now c.loop-pair.pair-index (0, pos 0)).1 = SFits-from_abs _ bounds.1 in
    rw (to_z-of_z w64 _ fits) bounds.0

pub dense_literal-requires-clause-high : goal.dense_literal-requires-clause-high
dense_literal-requires-clause-high c =
    let bounds = pair-within variable_limit c.args.pairs.now c.loop-pair.pair-index (0, pos 0) c.requires.variables c.loop-pair-test.true in
    let fits : SFits w64 (get_or c.args.pairs.now c.loop-pair.pair-index (0, pos 0)).1 = SFits-from_abs _ bounds.1 in
    rw (to_z-of_z w64 _ fits) bounds.1

pub loop-pair-preserved : goal.loop-pair-preserved
loop-pair-preserved c =
    let bounds = pair-within variable_limit c.args.pairs.now c.loop-pair.pair-index (0, pos 0) c.requires.variables c.loop-pair-test.true in
    let fits : SFits w64 (get_or c.args.pairs.now c.loop-pair.pair-index (0, pos 0)).1 = SFits-from_abs _ bounds.1 in
    record {
      grows = NamesGrow-trans _ _ _ c.loop-pair.invariant.grows c.in_ok-literal.ensures.grows;
      assumptions = named_assumptions-push _ _ _ _ _ _ c.args.pairs.now c.loop-pair.pair-index (0, pos 0) c.in_ok-literal.ensures.grows c.loop-pair.invariant.over c.loop-pair.invariant.assumptions c.loop-pair-test.true
          c.in_ok-push.ensures.items refl (c.in_ok-literal.ensures.literal ∙ ap script_literal (to_z-of_z w64 _ fits));
      over = literals-push _ _ _ _ _ (IsOver-more _ _ _ c.in_ok-literal.ensures.grows.longer c.loop-pair.invariant.over) c.in_ok-literal.ensures.over c.in_ok-push.ensures.items;
    }
