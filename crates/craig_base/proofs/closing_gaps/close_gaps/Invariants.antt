use Rattle.std.proofs.Common.{◌≡◌}
use Rattle.craig_base.specs.ArenaTable.{AreLaidOut, IsClosedBelow, arena_with}
use Rattle.craig_base.proofs.closing_gaps.close_gaps.Given as goal

-- gaps are closed up to this place, and no clause has changed
abbrev pub invariant-loop-place : goal.invariant-loop-place
invariant-loop-place l = record {
  laid_out : AreLaidOut l.heads l.literals;
  closed : IsClosedBelow l.place l.end l.heads;
  same : arena_with l.heads l.literals ≡ arena_with l.fn.heads l.fn.literals;
}
