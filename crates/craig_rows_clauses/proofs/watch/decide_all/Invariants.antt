use Rattle.std.proofs.Common.{◌≡◌}
use Rattle.craig_rows_clauses.proofs.watch.decide_all.Given as goal

abbrev pub invariant-loop-lit : goal.invariant-loop-lit
invariant-loop-lit l = l.held.vars ≡ l.fn.held.vars
