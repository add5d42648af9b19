-- The number at the front of bytes, as a call gives it.
use Rattle.std.specs.Borrow.{Bor}
use Rattle.std.specs.Prelude.{ℕ, List, Result, Ok, Err}
use Rattle.craig_spec.specs.SevenBits.{FirstNumber}
use Rattle.craig_aiger_read.specs.declared.seven_bits.NumberFault.{NumberFault}
use Rattle.craig_aiger_read.specs.declared.seven_bits.NumberFault.TheVariants.{Ends, TooLong}

-- what stands at the front of the bytes
abbrev pub as_first_number : Result (ℕ × Bor (List ℕ)) NumberFault → FirstNumber
as_first_number (Ok x) = FirstNumber.Number x.0 x.1.now
as_first_number (Err Ends) = FirstNumber.Ends
as_first_number (Err TooLong) = FirstNumber.TooLong
