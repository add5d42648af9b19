use Rattle.std.proofs.Common.{◌≡◌, ◌-◌, ◌<◌, ◌≤◌, All, take, length}
use Rattle.std.specs.Option.{option_copied}
use Rattle.craig_aiger_read.specs.Cuts.{pieces_behind}
use Rattle.craig_aiger_read.proofs.NumberLemmas.{NumbersSoFar}
use Rattle.craig_aiger_read.proofs.line_numbers.numbers_of.Given as goal

abbrev pub invariant-loop-rest : goal.invariant-loop-rest
invariant-loop-rest l = (l.count ≤ 9) × (length l.values ≡ 9) × NumbersSoFar l.line (take l.count l.values) (pieces_behind 32 (option_copied l.rest)) × All (λ x. x < 1000000000000000000) (take l.count l.values)

abbrev pub decreases-loop-rest : goal.decreases-loop-rest
decreases-loop-rest l = 10 - l.count
