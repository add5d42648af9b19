use Rattle.std.proofs.Common.{◌≤◌}
use Rattle.craig_search.proofs.bar.Bar.new.Given as goal

abbrev pub invariant-loop-glue : goal.invariant-loop-glue
invariant-loop-glue l = l.glue ≤ 63

abbrev pub decreases-loop-glue : goal.decreases-loop-glue
decreases-loop-glue l = l.glue
