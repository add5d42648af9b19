use Rattle.std.proofs.Common.{◌-◌, length}
use Rattle.craig_watch.specs.WatchedState.{Continues, HasReached, ids_of}
use Rattle.craig_watch.proofs.watched.Watched.walk.Given as goal

-- the entries before were reached
abbrev pub invariant-loop-index : goal.invariant-loop-index
invariant-loop-index l = record {
  continues : Continues l.initial.self l.self;
  reached : HasReached l.self l.lit l.index;
}

abbrev pub decreases-loop-index : goal.decreases-loop-index
decreases-loop-index l = length (ids_of l.self l.lit) - l.index
