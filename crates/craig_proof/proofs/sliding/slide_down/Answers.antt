use Rattle.std.proofs.Common.{◌≡◌, ◌∙◌, length, refl, ap, arith}
use Rattle.craig_proof.specs.Reclaiming.{left_from}
use Rattle.craig_proof.proofs.SlidingLemmas.{left_first, slides_first}
use Rattle.craig_proof.proofs.sliding.slide_down.Goals as goal

pub loop-place-init : goal.loop-place-init
loop-place-init c = record {
  sliding = slides_first c.args.rows.now c.args.literals.now c.args.bytes.now c.requires.0 c.requires.1;
  left = refl;
}

pub returns-clause-left : goal.returns-clause-left
returns-clause-left c = λ steps stored.
    let all : length c.loop-place.rows ≡ c.loop-place.place = omega (arith, c.loop-place-test.false, c.loop-place.auto.rows) in
    ap (λ n. left_from c.loop-place.rows c.loop-place.literals c.loop-place.bytes n c.loop-place.filled) all ∙ c.loop-place.invariant.left ∙ left_first c.args.rows.now c.args.literals.now c.args.bytes.now steps stored
