use Rattle.std.proofs.Common.{◌≡◌, ℕ, ◌<◌, ◌≤◌, length}
use Rattle.craig_order.specs.Heap.{standing}
use Rattle.craig_order.proofs.heap.sift_up.Given as goal

-- only places below the size were exchanged
abbrev pub invariant-loop-place : goal.invariant-loop-place
invariant-loop-place l =
    (l.place ≤ l.fn.place)
    × (length l.permutation ≡ length l.fn.permutation)
    × ((size : ℕ) → l.fn.place < size → standing size l.permutation ≡ standing size l.fn.permutation)

abbrev pub decreases-loop-place : goal.decreases-loop-place
decreases-loop-place l = l.place
