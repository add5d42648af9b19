use Rattle.std.proofs.Common.{◌≢◌, All, take}
use Rattle.craig_search.proofs.places.is_new.Given as goal

-- the assumptions so far are of other literals
abbrev pub invariant-loop-other : goal.invariant-loop-other
invariant-loop-other l = All (λ a. a.1 ≢ l.lit) (take l.other-index l.assumptions)
