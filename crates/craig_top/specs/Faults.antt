-- Which counts of faults a run leaves as they were.
use Rattle.std.specs.Prelude.{◌≡◌, ℕ, ◌≤◌}
use Rattle.craig_io.specs.Faults.{Rose}

-- the count rose where a call failed, and is as it was where none did
pub record CountsFaults (failed : Type 0) (before later : ℕ) : Type 0 where
  -- a failure is counted
  pub fault : failed → Rose before later
  -- with no failure the count stands
  pub quiet : ¬ failed → later ≡ before
  -- it never falls
  pub count : before ≤ later
