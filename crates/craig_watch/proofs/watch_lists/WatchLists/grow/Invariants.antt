use Rattle.std.proofs.Common.{◌≡◌, ◌≤◌, ◌-◌, length}
use Rattle.craig_spec.specs.Literal.{Literal}
use Rattle.craig_watch.specs.Watches.{list_of}
use Rattle.craig_watch.proofs.watch_lists.WatchLists.grow.Given as goal

-- there are more lists, and each is as it was
abbrev pub invariant-loop-alloc : goal.invariant-loop-alloc
invariant-loop-alloc l = record {
  more : length l.fn.self ≤ length l.self-inside.lists.items;
  same : (m : Literal) → list_of l.self-inside.lists.items m ≡ list_of l.fn.self m;
}

abbrev pub decreases-loop-alloc : goal.decreases-loop-alloc
decreases-loop-alloc l = l.count - length l.self-inside.lists.items
