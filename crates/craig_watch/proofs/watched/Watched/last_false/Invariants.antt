use Rattle.std.proofs.Common.{ℕ, ◌<◌, ◌≤◌, length, get_or}
use Rattle.craig_spec.specs.Literal.{Literal}
use Rattle.craig_watch.specs.WatchedState.{rank_of}
use Rattle.craig_watch.proofs.watched.Watched.last_false.Given as goal

-- none before is false later
abbrev pub invariant-loop-place : goal.invariant-loop-place
invariant-loop-place l = record {
  behind : l.from ≤ l.best;
  within : l.best < length l.lits;
  last : (k : ℕ) (d e : Literal) → l.from ≤ k → k < l.place → rank_of l.self.assigned.trail (get_or l.lits k d) ≤ rank_of l.self.assigned.trail (get_or l.lits l.best e);
}
