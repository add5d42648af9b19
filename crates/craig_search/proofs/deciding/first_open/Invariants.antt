use Rattle.std.proofs.Common.{length, ◌-◌, ◌≤◌}
use Rattle.craig_search.specs.Assuming.{AreTrueBefore}
use Rattle.craig_search.proofs.deciding.first_open.Given as goal

-- the assumptions so far are true
abbrev pub invariant-loop-place : goal.invariant-loop-place
invariant-loop-place l = (l.place ≤ length l.assumptions) × AreTrueBefore l.held.trail l.assumptions l.place

abbrev pub decreases-loop-place : goal.decreases-loop-place
decreases-loop-place l = length l.assumptions - l.place
