use Rattle.std.proofs.Common.{◌≤◌}
use Rattle.craig_rows_solver.proofs.pigeons.add_pigeons.Given as goal

abbrev pub invariant-loop-pigeon : goal.invariant-loop-pigeon
invariant-loop-pigeon l = 56 ≤ l.solver.vars
