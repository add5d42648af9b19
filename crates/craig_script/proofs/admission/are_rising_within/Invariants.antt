use Rattle.std.proofs.Common.{◌≡◌, ◌≤◌, drop}
use Rattle.craig_script.specs.Reading.{are_rising_within}
use Rattle.craig_script.proofs.admission.are_rising_within.Given as goal

-- what the numbers from here on are is what all of them are
abbrev pub invariant-loop-number : goal.invariant-loop-number
invariant-loop-number l = (are_rising_within l.least l.greatest (drop l.number-index l.numbers) ≡ are_rising_within 0 l.greatest l.numbers) × (l.least ≤ 65536)
