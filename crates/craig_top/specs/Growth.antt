-- A table of names that only grows.
use Rattle.std.specs.Prelude.{◌≡◌, ℕ, ◌<◌, ◌≤◌, List, length, slice_index}

-- every name keeps its dense number
pub record NamesGrow (old new : List ℕ) : Type 0 where
  -- no name goes
  pub longer : length old ≤ length new
  -- a dense number has the name that it had
  pub kept : (i : ℕ) → i < length old → slice_index new i ≡ slice_index old i
