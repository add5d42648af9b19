use Rattle.std.proofs.Common.{◌≡◌, ◌+◌, ◌≤◌, ◌-◌, length}
use Rattle.std.specs.Vec.{vec_capacity, vec_len}
use Rattle.craig_order.specs.Heap.{ArePlaces, IsAppended}
use Rattle.craig_order.proofs.permutation.Permutation.grow.Given as goal

-- the variables below the next one are there
abbrev pub invariant-loop-var : goal.invariant-loop-var
invariant-loop-var l = record {
  places : ArePlaces l.self-inside.row.items l.self-inside.places.items;
  appended : IsAppended l.fn.self l.self-inside.places.items l.var;
  filled : length l.self-inside.row.items ≡ l.count;
  room : vec_len l.self-inside.places + (l.count - l.var) ≤ vec_capacity l.self-inside.places;
}
