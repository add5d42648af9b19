use Rattle.std.proofs.Common.{◌≡◌, map, take}
use Rattle.std.specs.Int.RustNames.{unsigned_abs}
use Rattle.craig_top.proofs.choices.chosen_cuts.Given as goal

-- the numbers so far are cuts
abbrev pub invariant-loop-number : goal.invariant-loop-number
invariant-loop-number l = l.cuts.items ≡ map unsigned_abs (take l.number-index l.numbers)
