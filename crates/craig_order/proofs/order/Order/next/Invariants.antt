use Rattle.std.proofs.Common.{◌≡◌, ℕ, ◌≤◌, false, length, slice_index_or}
use Rattle.craig_order.specs.Order.{IsFree}
use Rattle.craig_order.proofs.order.Order.next.Given as goal

-- what was taken out of the heap is assigned
abbrev pub invariant-loop-var : goal.invariant-loop-var
invariant-loop-var l =
    (length l.self-inside.heap.stands ≡ length l.fn.self.given_back)
    × (length l.self-inside.heap.stands ≤ 2147483648)
    × (length l.self-inside.heap.stands ≤ l.self-inside.scores)
    × (length l.self-inside.heap.stands ≤ length l.self-inside.phases)
    × (l.self-inside.dead ≡ l.fn.self.dead)
    × ((v : ℕ) → IsFree l.fn.held v → slice_index_or l.self-inside.heap.stands v false ≡ slice_index_or l.fn.self.given_back v false)

abbrev pub decreases-loop-var : goal.decreases-loop-var
decreases-loop-var l = l.self-inside.heap.size
