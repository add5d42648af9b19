use Rattle.std.proofs.Common.{◌≡◌, ℕ, ◌<◌, ◌≤◌, length, get_or}
use Rattle.craig_watch.specs.Watches.{IsSwept, no_watches}
use Rattle.craig_watch.proofs.watch_lists.WatchLists.keep_live.Given as goal

-- the lists before this one were swept, and the others are as they were
abbrev pub invariant-loop-place : goal.invariant-loop-place
invariant-loop-place l = record {
  sized : length l.self-inside.lists.items ≡ length l.fn.self;
  done : (k : ℕ) → k < l.place → IsSwept l.arena 0 (get_or l.fn.self k no_watches) (get_or l.self-inside.lists.items k no_watches);
  rest : (k : ℕ) → l.place ≤ k → get_or l.self-inside.lists.items k no_watches ≡ get_or l.fn.self k no_watches;
}
