use Rattle.std.proofs.Common.{◌≡◌}
use Rattle.craig_rows_solver.proofs.pigeons.add_pigeon.Given as goal

abbrev pub invariant-loop-earlier : goal.invariant-loop-earlier
invariant-loop-earlier l = l.solver.vars ≡ l.fn.solver.vars
