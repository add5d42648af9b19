use Rattle.std.proofs.Common.{length, ◌-◌, ◌≤◌}
use Rattle.craig_search.specs.Assuming.{AreNegated}
use Rattle.craig_search.proofs.places.Places.negated.Given as goal

-- the places so far
abbrev pub invariant-loop-place : goal.invariant-loop-place
invariant-loop-place l = (l.place ≤ length l.assumptions) × AreNegated l.assumptions l.clause l.place l.places.items

abbrev pub decreases-loop-place : goal.decreases-loop-place
decreases-loop-place l = length l.assumptions - l.place
