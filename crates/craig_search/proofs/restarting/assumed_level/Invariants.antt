use Rattle.std.proofs.Common.{◌≤◌}
use Rattle.craig_search.proofs.restarting.assumed_level.Given as goal

abbrev pub invariant-loop-lit : goal.invariant-loop-lit
invariant-loop-lit l = l.highest ≤ l.held.level
