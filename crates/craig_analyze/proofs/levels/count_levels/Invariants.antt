use Rattle.craig_watch.specs.Trail.{level_at}
use Rattle.std.proofs.Common.{map, take, Contains, ◌↔◌, ℕ}
use Rattle.craig_analyze.proofs.levels.count_levels.Given as goal

-- the levels so far are marked
abbrev pub invariant-loop-lit : goal.invariant-loop-lit
invariant-loop-lit l = (n : ℕ) → Contains l.marks n ↔ Contains (map (level_at l.held.trail) (take l.lit-index l.lits)) n
