use Rattle.std.proofs.Common.{◌-◌}
use Rattle.craig_watch.specs.Held.{IsLengthened}
use Rattle.craig_watch.specs.WatchedState.{IsSound, shown}
use Rattle.craig_watch.proofs.watched.Watched.look_at_waiting.Given as goal

-- all is right
abbrev pub invariant-loop-self : goal.invariant-loop-self
invariant-loop-self l = record {
  lengthened : IsLengthened (shown l.initial.self) (shown l.self);
  sound : IsSound l.self;
}

abbrev pub decreases-loop-self : goal.decreases-loop-self
decreases-loop-self l = l.self.arena.given - l.self.looked
