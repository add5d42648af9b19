use Rattle.std.proofs.Common.{◌≡◌, replicate, None}
use Rattle.craig_aiger_read.proofs.symbols.unnamed.Given as goal

abbrev pub invariant-loop : goal.invariant-loop
invariant-loop l = l.names.items ≡ replicate l.counter None
