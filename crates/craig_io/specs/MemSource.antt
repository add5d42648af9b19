-- A source in memory.
use Rattle.std.specs.Prelude.{ℕ, ◌<◌, ◌≤◌, List}
use Rattle.craig_io.specs.Calls.{CallsMade}

-- the bytes left to read, how many of them a read gives at most, and the reads so far
pub record MemSourceView : Type 0 where
  -- the bytes left to read
  pub left : List ℕ
  -- how many of them a read gives at most
  pub piece : ℕ
  -- the reads so far, and those that are to fail
  pub calls : CallsMade

-- reading stands within the bytes, and a read may give one
pub record IsMemSource (len at piece : ℕ) : Type 0 where
  -- reading stands within the bytes
  pub within : at ≤ len
  -- a read may give a byte
  pub gives : 0 < piece
