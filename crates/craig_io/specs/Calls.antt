-- The calls of a source or a sink in memory.
use Rattle.std.specs.Prelude.{ℕ, List}
use Rattle.craig_io.specs.Faults.{raised}

-- the numbers of the calls that are to fail, the first call having 1, and how many calls and faults there were, each at most 18446744073709551615, where it stands still
pub record CallsMade : Type 0 where
  -- the numbers of the calls that are to fail; the first call has 1
  pub fails : List ℕ
  -- how many calls there were, at most 18446744073709551615, where the count stands still
  pub made : ℕ
  -- how many of them failed, with the same limit
  pub faults : ℕ

-- one call more
abbrev pub call_counted : CallsMade → CallsMade
call_counted c = record c { made = raised c.made }

-- one fault more
abbrev pub fault_counted : CallsMade → CallsMade
fault_counted c = record c { faults = raised c.faults }
