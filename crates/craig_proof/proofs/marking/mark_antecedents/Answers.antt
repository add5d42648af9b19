use Rattle.std.proofs.Common.{subst, arith}
use Rattle.craig_spec.specs.Chain.{Derived, antecedents}
use Rattle.craig_proof.proofs.MarkingLemmas.{LeftToMark, LeftToMark-first, LeftToMark-more}
use Rattle.craig_proof.proofs.marking.mark_antecedents.Goals as goal

pub mark-requires-clause-has : goal.mark-requires-clause-has
mark-requires-clause-has c = c.requires.have 0 0 (omega arith)

pub loop-step-init : goal.loop-step-init
loop-step-init c = LeftToMark-first c.args.rows.now c.mark.new.rows c.args.first.0 c.args.rest c.requires.rising c.requires.have c.mark.ensures

pub mark-requires-in-Some-clause-has : goal.mark-requires-in-Some-clause-has
mark-requires-in-Some-clause-has c =
    let left = subst (LeftToMark c.args.rows.now c.loop-step.rows (antecedents (Derived c.args.first.0 c.args.rest))) c.in-Some.ensures.step c.loop-step.invariant in
    left.have 0 0 (omega arith)

pub loop-step-preserved : goal.loop-step-preserved
loop-step-preserved c =
    LeftToMark-more c.args.rows.now c.loop-step.rows c.mark-in-Some.new.rows _ _ c.next.new.self (subst (LeftToMark c.args.rows.now c.loop-step.rows (antecedents (Derived c.args.first.0 c.args.rest))) c.in-Some.ensures.step c.loop-step.invariant) c.mark-in-Some.ensures
