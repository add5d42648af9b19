use Rattle.std.proofs.Common.{◌∙◌, ap, pos, get_or}
use mir.Val.{SFits}
use mir.Syntax.{w64}
use Rattle.std.proofs.lemmas.Int.{to_z-of_z}
use Rattle.craig_script.specs.Reading.{variable_limit}
use Rattle.craig_top.specs.GivenState.{script_literal}
use Rattle.craig_top.proofs.GrowthLemmas.{NamesGrow-trans, is_within-at, named_clause-push, IsOver-more, IsOver-push, SFits-from_abs}
use Rattle.craig_top.proofs.clause.dense_clause.Goals as goal

pub dense_literal-requires-clause-low : goal.dense_literal-requires-clause-low
dense_literal-requires-clause-low c =
    let bounds = is_within-at variable_limit c.args.literals.now c.loop-literal.literal-index (pos 0) c.requires c.loop-literal-test.true in
    let fits : SFits w64 (get_or c.args.literals.now c.loop-literal.literal-index (pos 0)) = SFits-from_abs _ bounds.1 in
    rw (to_z-of_z w64 _ fits) bounds.0

pub dense_literal-requires-clause-high : goal.dense_literal-requires-clause-high
dense_literal-requires-clause-high c =
    let bounds = is_within-at variable_limit c.args.literals.now c.loop-literal.literal-index (pos 0) c.requires c.loop-literal-test.true in
    let fits : SFits w64 (get_or c.args.literals.now c.loop-literal.literal-index (pos 0)) = SFits-from_abs _ bounds.1 in
    rw (to_z-of_z w64 _ fits) bounds.1

pub loop-literal-preserved : goal.loop-literal-preserved
loop-literal-preserved c =
    let bounds = is_within-at variable_limit c.args.literals.now c.loop-literal.literal-index (pos 0) c.requires c.loop-literal-test.true in
    let fits : SFits w64 (get_or c.args.literals.now c.loop-literal.literal-index (pos 0)) = SFits-from_abs _ bounds.1 in
    record {
      grows = NamesGrow-trans _ _ _ c.loop-literal.invariant.grows c.in_ok-dense_literal.ensures.grows;
      clause = named_clause-push _ _ _ _ _ c.args.literals.now c.loop-literal.literal-index (pos 0) c.in_ok-dense_literal.ensures.grows c.loop-literal.invariant.over
          c.loop-literal.invariant.clause c.loop-literal-test.true c.in_ok-push.ensures.pushed (c.in_ok-dense_literal.ensures.literal ∙ ap script_literal (to_z-of_z w64 _ fits));
      over = rw c.in_ok-push.ensures.pushed (IsOver-push _ _ _ (IsOver-more _ _ _ c.in_ok-dense_literal.ensures.grows.longer c.loop-literal.invariant.over) c.in_ok-dense_literal.ensures.over);
    }
