use Rattle.std.proofs.Common.{◌≡◌, length}
use Rattle.craig_label.specs.Sides.{IsSides, SidesView}
use Rattle.craig_top.specs.Sides.{AreRanges, PutsBack}
use Rattle.craig_top.proofs.sides.put_back.Given as goal

-- what is left to be put back gives the same as all did
abbrev pub invariant-loop-var : goal.invariant-loop-var
invariant-loop-var l = record {
  back : (past : SidesView) → PutsBack l.fn.before.items l.fn.sides past → PutsBack l.before.items l.sides past;
  ranges : AreRanges l.sides.parts l.before.items;
  is_sides : IsSides l.sides;
  parts : l.sides.parts ≡ l.fn.sides.parts;
}

abbrev pub decreases-loop-var : goal.decreases-loop-var
decreases-loop-var l = length l.before.items
