use Rattle.std.proofs.Common.{ℕ, ◌<◌, ◌≤◌, get_or}
use Rattle.craig_spec.specs.Literal.{Literal}
use Rattle.craig_watch.specs.Trail.{IsFalse}
use Rattle.craig_watch.proofs.watched.Watched.open_place.Given as goal

-- the literals before are false
abbrev pub invariant-loop-place : goal.invariant-loop-place
invariant-loop-place l = (k : ℕ) (d : Literal) → 2 ≤ k → k < l.place → IsFalse l.self.assigned.trail (get_or l.lits k d)
