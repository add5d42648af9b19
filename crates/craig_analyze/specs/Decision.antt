-- Decisions on a trail.
use Rattle.std.specs.Prelude.{◌≡◌, None, Some}
use Rattle.craig_spec.specs.Literal.{Literal}
use Rattle.craig_watch.specs.declared.trail_entry.TrailEntry.{TrailEntry}
use Rattle.craig_watch.specs.Trail.{Trail, entry_of}

-- the literal stands on the trail as a decision
pub record IsDecision (t : Trail) (l : Literal) : Type 0 where
  -- the entry of its variable
  pub entry : TrailEntry
  -- it stands on the trail
  pub found : entry_of t l.var ≡ Some entry
  -- with this literal
  pub literal : entry.literal ≡ l
  -- no clause forced it
  pub decided : entry.reason ≡ None
