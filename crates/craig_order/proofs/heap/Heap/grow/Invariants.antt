use Rattle.std.proofs.Common.{◌≡◌, ℕ, ◌<◌, ◌≤◌, true, false, length, slice_index_or}
use Rattle.craig_order.proofs.heap.Heap.grow.Given as goal

-- the new variables below the next one stand in the heap, and the others don't
abbrev pub invariant-loop-var : goal.invariant-loop-var
invariant-loop-var l = record {
  known : length l.self.stands ≡ l.count;
  as_before : (v : ℕ) → v < length l.fn.self.stands → slice_index_or l.self.stands v false ≡ slice_index_or l.fn.self.stands v false;
  stand : (v : ℕ) → length l.fn.self.stands ≤ v → v < l.var → slice_index_or l.self.stands v false ≡ true;
  others : (v : ℕ) → l.var ≤ v → v < l.count → slice_index_or l.self.stands v false ≡ false;
}
