use Rattle.std.proofs.Common.{ap, not, ◌∙◌}
use Rattle.craig_proof.proofs.MarkingLemmas.{antecedents_have_rows, marked_before, origin_at, packed_at, part_before, rows_rise, unmarked_before}
use Rattle.craig_proof.proofs.RowLemmas.{no_row}
use Rattle.craig_proof.proofs.marking.mark_before.Goals as goal
use Rattle.craig_proof.proofs.marking.mark_before.Goals.{else-row-via-then-row+else-is_none, else-row-via-else-row}

pub bytes_at-requires-clause-stored : goal.bytes_at-requires-clause-stored
bytes_at-requires-clause-stored c = (c.requires.chains.0, c.requires.chains.1.stored)

pub open-rest-requires : goal.open-rest-requires
open-rest-requires c =
    let chains = c.requires.chains in
    packed_at c.args.rows.now c.args.bytes.now chains.0 chains.1 c.args.place _ c.requires.within (c.is_none.ensures ∙ ap not c.if-is_none.true) c.bytes_at.result.now (c.bytes_at.ensures chains.0 chains.1.stored)

pub mark_antecedents-requires-clause-rising : goal.mark_antecedents-requires-clause-rising
mark_antecedents-requires-clause-rising c = rows_rise c.args.rows.now c.args.bytes.now c.requires.chains.0 c.requires.chains.1

pub mark_antecedents-requires-clause-have : goal.mark_antecedents-requires-clause-have
mark_antecedents-requires-clause-have c =
    let chains = c.requires.chains in
    let origin = origin_at c.args.rows.now c.args.bytes.now chains.0 chains.1 c.args.place _ c.requires.within (c.is_none.ensures ∙ ap not c.if-is_none.true) c.bytes_at.result.now c.open-rest.result.0.0 c.open-rest.result.1 (c.bytes_at.ensures chains.0 chains.1.stored) c.open-rest.ensures in
    antecedents_have_rows c.args.rows.now c.args.bytes.now chains.0 chains.1 c.args.place no_row c.requires.within c.open-rest.result.0.0 c.open-rest.result.1 origin

pub returns-then-is_none-clause-marked : goal.returns-then-is_none-clause-marked
returns-then-is_none-clause-marked c = λ steps chains back.
    let origin = origin_at c.args.rows.now c.args.bytes.now steps chains c.args.place _ c.requires.within (c.is_none.ensures ∙ ap not c.if-is_none.true) c.bytes_at.result.now c.open-rest.result.0.0 c.open-rest.result.1 (c.bytes_at.ensures steps chains.stored) c.open-rest.ensures in
    marked_before c.args.rows.now c.args.bytes.now steps chains c.args.place _ c.requires.within c.mark_antecedents.new.rows c.open-rest.result.0.0 c.open-rest.result.1 c.if-row.true origin c.mark_antecedents.ensures back

pub returns-else-row-clause-marked : goal.returns-else-row-clause-marked
returns-else-row-clause-marked c = λ steps chains back.
    elim c.else-row.branch [
      | else-row-via-then-row+else-is_none w ↦ part_before c.args.rows.now c.args.bytes.now steps chains c.args.place _ c.requires.within (w.is_none.ensures ∙ ap not w.if-is_none.false) back
      | else-row-via-else-row w ↦ unmarked_before c.args.rows.now c.args.bytes.now steps chains c.args.place _ c.requires.within w.if-row.false back
    ]
