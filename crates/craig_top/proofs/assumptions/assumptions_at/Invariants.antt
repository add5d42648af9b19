use Rattle.std.proofs.Common.{◌≡◌, take}
use Rattle.craig_search.specs.Verdict.{at_places}
use Rattle.craig_top.proofs.assumptions.assumptions_at.Given as goal

-- the assumptions at the places so far are chosen
abbrev pub invariant-loop-place : goal.invariant-loop-place
invariant-loop-place l = l.chosen.items ≡ at_places l.assumptions (take l.place-index l.places)
