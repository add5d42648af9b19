use Rattle.std.proofs.Common.{◌≡◌, ◌^◌, ◌<◌, drop}
use Rattle.std.specs.Str.Parse.{digits_value, digits_value_after}
use Rattle.craig_aiger_read.proofs.decimal.value_of.Given as goal

-- the number so far, followed by the digits to come, is the number of all of them
abbrev pub invariant-loop-digit : goal.invariant-loop-digit
invariant-loop-digit l =
    (l.value < 10 ^ l.digit-index) × (digits_value_after 10 l.value (drop l.digit-index l.digits) ≡ digits_value 10 l.digits)
