use Rattle.std.proofs.Common.{◌≤◌, length}
use Rattle.craig_analyze.specs.Resolvent.{IsSetAside, view_of}
use Rattle.craig_analyze.proofs.resolvent.Resolvent.set_aside.Given as goal

-- literals were set aside, and the place is one of those that stay, or their end
abbrev pub invariant-loop-place : goal.invariant-loop-place
invariant-loop-place l = record {
  aside : IsSetAside l.held (view_of l.fn.self) (view_of l.self);
  within : l.place ≤ length l.self.lower.items;
}

abbrev pub decreases-loop-place : goal.decreases-loop-place
decreases-loop-place l = l.place
