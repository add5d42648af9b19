use Rattle.std.proofs.Common.{◌≡◌, ◌≤◌, ◌∙◌, ap, ◌++◌, ◌∷◌, [], map, pos, get_or, arith, take_all}
use Rattle.std.specs.Int.RustNames.{unsigned_abs}
use mir.Val.{SFits}
use mir.Syntax.{w64}
use Rattle.std.proofs.lemmas.Int.{to_z-of_z}
use Rattle.craig_top.proofs.GrowthLemmas.{SFits-from_abs}
use Rattle.craig_top.proofs.RisingCutsLemmas.{cut-at, map-take_more}
use Rattle.craig_top.proofs.choices.chosen_cuts.Goals as goal

pub overflow_cast-unsigned_abs : goal.overflow_cast-unsigned_abs
overflow_cast-unsigned_abs c =
    let bound : unsigned_abs (get_or c.args.numbers.now c.loop-number.number-index (pos 0)) ≤ 65535 = cut-at c.args.numbers.now c.loop-number.number-index c.requires c.loop-number-test.true in
    let fits : SFits w64 (get_or c.args.numbers.now c.loop-number.number-index (pos 0)) = SFits-from_abs _ (omega (arith, bound)) in
    let same : c.unsigned_abs.result ≡ unsigned_abs (get_or c.args.numbers.now c.loop-number.number-index (pos 0)) = c.unsigned_abs.ensures.value ∙ ap unsigned_abs (to_z-of_z w64 _ fits) in
    omega (arith, same, bound)

pub loop-number-preserved : goal.loop-number-preserved
loop-number-preserved c =
    let bound : unsigned_abs (get_or c.args.numbers.now c.loop-number.number-index (pos 0)) ≤ 65535 = cut-at c.args.numbers.now c.loop-number.number-index c.requires c.loop-number-test.true in
    let fits : SFits w64 (get_or c.args.numbers.now c.loop-number.number-index (pos 0)) = SFits-from_abs _ (omega (arith, bound)) in
    let same : c.unsigned_abs.result ≡ unsigned_abs (get_or c.args.numbers.now c.loop-number.number-index (pos 0)) = c.unsigned_abs.ensures.value ∙ ap unsigned_abs (to_z-of_z w64 _ fits) in
    c.in_ok-push.ensures.items ∙ ap (λ n. c.loop-number.cuts.items ++ n ∷ []) same ∙ ap (λ ns. ns ++ unsigned_abs (get_or c.args.numbers.now c.loop-number.number-index (pos 0)) ∷ []) c.loop-number.invariant
    ∙ map-take_more c.args.numbers.now c.loop-number.number-index c.loop-number-test.true

pub returns : goal.returns
returns c = c.loop-number.invariant ∙ ap (map unsigned_abs) (take_all c.loop-number.number-index c.args.numbers.now c.loop-number-test.false)
