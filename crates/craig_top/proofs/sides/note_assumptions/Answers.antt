use Rattle.std.proofs.Common.{◌≤◌, ◌∙◌, ℕ, IfSome, Option, arith, get_or, subst, sym}
use Rattle.std.proofs.lemmas.List.{take_all}
use Rattle.craig_spec.specs.Literal.{Literal}
use Rattle.craig_base.specs.declared.script_part.Part.{Part}
use Rattle.craig_label.specs.Sides.{IsNoted, IsRange, Range}
use Rattle.craig_search.specs.Verdict.{Assumptions}
use Rattle.craig_top.specs.Sides.{AreRanges, NotesAssumptions}
use Rattle.craig_top.proofs.PutBackLemmas.{AreRanges-push, NotesAssumptions-more, PutsBack-noted}
use Rattle.craig_top.proofs.sides.note_assumptions.Goals as goal

pub loop-assumption-preserved : goal.loop-assumption-preserved
loop-assumption-preserved c =
    let i = c.loop-assumption.assumption-index in
    let item = c.assumption-item.result in
    let mid = c.loop-assumption.sides in
    let noted : IsNoted mid c.var-var.result.0 item.0.0 c.note.new.self = c.in_ok-note.ensures.noted in
    record {
      noted = NotesAssumptions-more c.args.sides.now mid c.note.new.self c.args.assumptions.now i item c.loop-assumption-test.true c.loop-assumption.invariant.noted
          (subst (λ (a : Part × Literal). IsNoted mid a.1.var a.0.0 c.note.new.self) c.assumption-item.is (subst (λ (v : ℕ). IsNoted mid v item.0.0 c.note.new.self) c.var-var.ensures.value noted)) c.note.ensures.is_sides
          (subst (λ (n : ℕ). (get_or c.args.assumptions.now i item).0.0 ≤ n) (sym c.loop-assumption.invariant.parts) (c.requires i item c.loop-assumption-test.true));
      back = PutsBack-noted c.loop-assumption.before.items c.push.new.self.items c.var-var.result c.range.result item.0.0 mid c.note.new.self c.args.sides.now c.loop-assumption.invariant.back c.range.ensures.value noted c.in_ok-push.ensures.items;
      ranges = subst (λ (n : ℕ). AreRanges n c.push.new.self.items) (sym noted.parts)
          (AreRanges-push mid.parts c.loop-assumption.before.items c.push.new.self.items c.var-var.result c.range.result c.loop-assumption.invariant.ranges (λ r is. subst (λ (o : Option Range). IfSome o (λ q. IsRange mid.parts q)) is c.range.ensures.is_range) c.in_ok-push.ensures.items);
      is_sides = c.note.ensures.is_sides;
      parts = noted.parts ∙ c.loop-assumption.invariant.parts;
    }

pub returns-clause-noted : goal.returns-clause-noted
returns-clause-noted c =
    subst (λ (assumptions : Assumptions). NotesAssumptions assumptions c.args.sides.now c.loop-assumption.sides) (take_all c.loop-assumption.assumption-index c.args.assumptions.now (omega (arith, c.loop-assumption-test.false))) c.loop-assumption.invariant.noted
