use Rattle.std.proofs.Common.{◌≡◌, map}
use Rattle.std.specs.List.{range_with_len}
use Rattle.craig_aiger_read.specs.Ranks.{ranks}
use Rattle.craig_aiger_read.proofs.order.rank.Given as goal

abbrev pub invariant-loop-gate : goal.invariant-loop-gate
invariant-loop-gate l = l.ranked.items ≡ map (ranks l.depths) (range_with_len 0 l.gate)
