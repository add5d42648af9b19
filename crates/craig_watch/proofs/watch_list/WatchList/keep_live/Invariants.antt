use Rattle.std.proofs.Common.{◌≤◌, length}
use Rattle.craig_watch.specs.Watches.{IsSwept}
use Rattle.craig_watch.proofs.watch_list.WatchList.keep_live.Given as goal

-- entries from this one on were looked at
abbrev pub invariant-loop-index : goal.invariant-loop-index
invariant-loop-index l = record {
  within : l.index ≤ length l.self.ids;
  swept : IsSwept l.arena l.index l.fn.self l.self;
}

abbrev pub decreases-loop-index : goal.decreases-loop-index
decreases-loop-index l = l.index
