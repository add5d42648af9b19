use Rattle.std.proofs.Common.{◌≡◌}
use Rattle.std.specs.List.{range_with_len}
use Rattle.craig_itp.proofs.interpolation.cuts_up_to.Given as goal

abbrev pub invariant-loop-cut : goal.invariant-loop-cut
invariant-loop-cut l = l.cuts.items ≡ range_with_len 0 l.cut
