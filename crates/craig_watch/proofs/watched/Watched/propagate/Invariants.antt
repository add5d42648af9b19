use Rattle.std.proofs.Common.{◌≡◌, ◌-◌}
use Rattle.craig_watch.specs.Held.{IsLengthened}
use Rattle.craig_watch.specs.WatchedState.{IsSound, shown}
use Rattle.craig_watch.proofs.watched.Watched.propagate.Given as goal

-- no clause waits
abbrev pub invariant-loop-self : goal.invariant-loop-self
invariant-loop-self l = record {
  lengthened : IsLengthened (shown l.fn.self) (shown l.self);
  sound : IsSound l.self;
  looked : l.self.looked ≡ l.self.arena.given;
}

abbrev pub decreases-loop-self : goal.decreases-loop-self
decreases-loop-self l = l.self.assigned.vars - l.self.walked
