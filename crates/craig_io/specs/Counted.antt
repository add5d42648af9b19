-- A reader or a writer of std with a count.
use Rattle.std.specs.Prelude.{ℕ}

-- the reader or writer, and the number of its faults so far
pub record Counted (A : Type 0) : Type 0 where
  -- the reader or writer
  pub inner : A
  -- how many faults it met so far
  pub faults : ℕ
