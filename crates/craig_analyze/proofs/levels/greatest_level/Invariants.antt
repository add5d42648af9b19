use Rattle.craig_watch.specs.Trail.{level_at}
use Rattle.std.proofs.Common.{map, take}
use Rattle.craig_analyze.specs.Learnt.{IsGreatestOf}
use Rattle.craig_analyze.proofs.levels.greatest_level.Given as goal

-- the greatest of the levels so far
abbrev pub invariant-loop-lit : goal.invariant-loop-lit
invariant-loop-lit l = IsGreatestOf (map (level_at l.held.trail) (take l.lit-index l.lits)) l.greatest
