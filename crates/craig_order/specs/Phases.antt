-- Phases of variables.
use Rattle.std.specs.Prelude.{◌≡◌, ℕ, ◌<◌, ◌≤◌, Bool, true, List, length, max, slice_index_or}

-- there are phases for the variables below the number, and the new ones are negated
pub record ArePhasesGrown (old new : List Bool) (count : ℕ) : Type 0 where
  -- what had a phase and what is below the number has one
  pub known : length new ≡ max (length old) count
  -- what had a phase has it still
  pub as_before : (v : ℕ) → v < length old → slice_index_or new v true ≡ slice_index_or old v true
  -- what is new is negated
  pub negated : (v : ℕ) → length old ≤ v → slice_index_or new v true ≡ true
