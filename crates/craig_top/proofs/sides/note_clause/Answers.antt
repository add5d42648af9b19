use Rattle.std.proofs.Common.{◌∙◌, ap, subst}
use Rattle.craig_spec.specs.Literal.{Literal}
use Rattle.craig_label.specs.Sides.{IsNoted}
use Rattle.craig_top.proofs.SidesLemmas.{NotesClause-none, NotesClause-more}
use Rattle.craig_top.proofs.sides.note_clause.Goals as goal

pub loop-literal-init : goal.loop-literal-init
loop-literal-init c = record { noted = NotesClause-none c.args.sides.now c.args.part.0; is_sides = c.parts.ensures.is_sides }

pub loop-literal-preserved : goal.loop-literal-preserved
loop-literal-preserved c = record {
  noted = NotesClause-more c.args.sides.now c.loop-literal.sides c.note.new.self c.args.clause.now c.loop-literal.literal-index c.literal-item.result c.args.part.0 c.loop-literal-test.true c.loop-literal.invariant.noted
      (subst (λ x. IsNoted c.loop-literal.sides x c.args.part.0 c.note.new.self) (c.var.ensures.value ∙ ap (λ (l : Literal). l.var) c.literal-item.is) c.in_ok-note.ensures.noted);
  is_sides = c.note.ensures.is_sides;
}
