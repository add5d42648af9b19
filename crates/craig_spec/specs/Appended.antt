-- Bytes that only grow at their end.
use Rattle.std.specs.Prelude.{◌≡◌, ℕ, List, ◌++◌}

-- what was there stands in front still
pub record AppendsOnly (old new : List ℕ) : Type 0 where
  -- the bytes that came
  pub text : List ℕ
  -- they stand behind those that were there
  pub behind : new ≡ old ++ text
