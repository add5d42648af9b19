use Rattle.std.proofs.Common.{◌≡◌, take}
use Rattle.craig_label.specs.Sides.{IsSides}
use Rattle.craig_top.specs.Sides.{AreRanges, NotesAssumptions, PutsBack}
use Rattle.craig_top.proofs.sides.note_assumptions.Given as goal

-- the assumptions so far are noted, and what their variables had before is kept
abbrev pub invariant-loop-assumption : goal.invariant-loop-assumption
invariant-loop-assumption l = record {
  noted : NotesAssumptions (take l.assumption-index l.assumptions) l.fn.sides l.sides;
  back : PutsBack l.before.items l.sides l.fn.sides;
  ranges : AreRanges l.sides.parts l.before.items;
  is_sides : IsSides l.sides;
  parts : l.sides.parts ≡ l.fn.sides.parts;
}
