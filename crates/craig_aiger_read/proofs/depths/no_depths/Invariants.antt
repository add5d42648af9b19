use Rattle.std.proofs.Common.{◌≡◌, replicate, None}
use Rattle.craig_aiger_read.proofs.depths.no_depths.Given as goal

abbrev pub invariant-loop : goal.invariant-loop
invariant-loop l = l.depths.items ≡ replicate l.counter None
