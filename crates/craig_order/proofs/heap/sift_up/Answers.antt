use Rattle.std.proofs.Common.{◌-◌, ◌/◌, ◌<◌, ◌≤◌, length, ap, ◌∙◌, arith}
use Rattle.std.proofs.lemmas.List.{length-map}
use Rattle.craig_order.specs.Heap.{exchanged, standing}
use Rattle.craig_order.proofs.HeapLemmas.{standing-exchanged}
use Rattle.craig_order.proofs.heap.sift_up.Goals as goal

pub loop-place-preserved : goal.loop-place-preserved
loop-place-preserved c =
    let before = c.loop-place.permutation in
    let place = c.loop-place.place in
    let parent = (c.loop-place.place - 1) / 2 in
    let positive : 0 < c.loop-place.place = c.loop-place-test.true in
    let low : c.loop-place.place ≤ c.args.place = c.loop-place.invariant.0 in
    let up : (c.loop-place.place - 1) / 2 ≤ c.loop-place.place = omega arith in (
      omega arith,
      ap length c.exchange.ensures ∙ length-map before (exchanged place parent) ∙ c.loop-place.invariant.1,
      λ size w. ap (standing size) c.exchange.ensures ∙ standing-exchanged size place parent before (omega arith) (omega arith) ∙ c.loop-place.invariant.2 size w,
    )
