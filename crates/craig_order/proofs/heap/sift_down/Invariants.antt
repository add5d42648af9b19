use Rattle.std.proofs.Common.{◌≡◌, ◌-◌, length}
use Rattle.craig_order.specs.Heap.{standing}
use Rattle.craig_order.proofs.heap.sift_down.Given as goal

-- only places below the size were exchanged
abbrev pub invariant-loop-child : goal.invariant-loop-child
invariant-loop-child l =
    (length l.permutation ≡ length l.fn.permutation)
    × (standing l.size l.permutation ≡ standing l.size l.fn.permutation)

abbrev pub decreases-loop-child : goal.decreases-loop-child
decreases-loop-child l = l.size - l.place
