-- The levels of what stands on a trail.
use Rattle.std.specs.Prelude.{ℕ, ◌<◌, ◌≤◌, length, slice_index_or}
use Rattle.craig_watch.specs.declared.trail_entry.TrailEntry.{TrailEntry}
use Rattle.craig_watch.specs.Trail.{Trail}

-- the entries before a place are of this level or of a lower one
abbrev pub AreUpToBefore : ℕ → ℕ → Trail → Type 0
AreUpToBefore place level t = (k : ℕ) (d : TrailEntry) → k < place → (slice_index_or t k d).level ≤ level

-- the entries from a place on are of a higher level
abbrev pub AreAboveFrom : ℕ → ℕ → Trail → Type 0
AreAboveFrom place level t = (k : ℕ) (d : TrailEntry) → place ≤ k → k < length t → level < (slice_index_or t k d).level
