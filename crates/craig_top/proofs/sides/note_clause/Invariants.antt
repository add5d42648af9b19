use Rattle.std.proofs.Common.{take}
use Rattle.craig_label.specs.Sides.{IsSides}
use Rattle.craig_top.specs.Sides.{NotesClause}
use Rattle.craig_top.proofs.sides.note_clause.Given as goal

-- the variables of the literals so far are noted
abbrev pub invariant-loop-literal : goal.invariant-loop-literal
invariant-loop-literal l = record {
  noted : NotesClause l.fn.sides (take l.literal-index l.clause) l.part.0 l.sides;
  is_sides : IsSides l.sides;
}
