-- How the trail is kept: the literals in a list, and by variable the place, the level and the reason.
use Rattle.std.specs.Prelude.{◌≡◌, ℕ, ◌<◌, ◌≤◌, List, map, None, length, slice_index_or}
use Rattle.craig_spec.specs.Literal.{Literal}
use Rattle.craig_watch.specs.declared.assignment.Assignment.{Assignment}
use Rattle.craig_watch.specs.declared.trail_entry.TrailEntry.{TrailEntry}
use Rattle.craig_watch.specs.Trail.{Trail}

-- an assignment to name where a variable has none
abbrev pub any_assignment : Assignment
any_assignment = record { place = 0; level = 0; reason = None }

-- the entry of a literal whose variable has the assignment
abbrev pub entry_with : Literal → Assignment → TrailEntry
entry_with l a = record { literal = l; level = a.level; reason = a.reason }

-- the entry of a literal that is assigned
abbrev pub entry_in : List Assignment → Literal → TrailEntry
entry_in assignments l = entry_with l (slice_index_or assignments l.var any_assignment)

-- the trail of the literals that are assigned
abbrev pub trail_of : List Literal → List Assignment → Trail
trail_of literals assignments = map (entry_in assignments) literals

-- the place of a literal in the list is noted beside its variable
abbrev pub IsPlaced : List Literal → List Assignment → Type 0
IsPlaced literals assignments = (k : ℕ) (d : Literal) → k < length literals → (slice_index_or assignments (slice_index_or literals k d).var any_assignment).place ≡ k

-- each literal is placed, and there is room for one of every known variable
pub record IsStored (literals : List Literal) (assignments : List Assignment) (literal_room : ℕ) : Type 0 where
  -- places are noted
  pub placed : IsPlaced literals assignments
  -- a literal of each variable fits into the list
  pub fits : length assignments ≤ literal_room
