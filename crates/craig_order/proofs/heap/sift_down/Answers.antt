use Rattle.std.proofs.Common.{◌<◌, length, ap, ◌∙◌, arith}
use Rattle.std.proofs.lemmas.List.{length-map}
use Rattle.craig_order.specs.Heap.{exchanged, standing}
use Rattle.craig_order.proofs.HeapLemmas.{standing-exchanged}
use Rattle.craig_order.proofs.heap.sift_down.Goals as goal

pub loop-child-preserved : goal.loop-child-preserved
loop-child-preserved c =
    let before = c.loop-child.permutation in
    let place = c.loop-child.place in
    let further : c.loop-child.place < c.in-Some.child = c.in-Some.ensures.0 in
    let below : c.in-Some.child < c.args.size = c.in-Some.ensures.1 in (
      ap length c.exchange.ensures ∙ length-map before (exchanged place c.in-Some.child) ∙ c.loop-child.invariant.0,
      ap (standing c.args.size) c.exchange.ensures ∙ standing-exchanged c.args.size place c.in-Some.child before (omega arith) below ∙ c.loop-child.invariant.1,
    )
