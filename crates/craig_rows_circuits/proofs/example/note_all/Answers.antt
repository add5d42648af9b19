use Rattle.std.proofs.Common.{◌∙◌}
use Rattle.craig_itp.proofs.SpansLemmas.{spans_kept}
use Rattle.craig_rows_circuits.proofs.ExampleLemmas.{noted_more}
use Rattle.craig_rows_circuits.proofs.example.note_all.Goals as goal

pub returns-in_err-note-clause-kept : goal.returns-in_err-note-clause-kept
returns-in_err-note-clause-kept c = rw c.in_err-note.ensures.unchanged c.loop-lit.invariant.kept

pub loop-lit-preserved : goal.loop-lit-preserved
loop-lit-preserved c =
    let noted = rw c.var.ensures.value at c.in_ok-note.ensures.noted in
    record {
      noted = noted_more c.loop-lit.sides c.note.new.self c.args.part.0 c.loop-lit.lit-index c.args.lits.now c.lit-item.result c.loop-lit-test.true c.lit-item.is noted c.loop-lit.invariant.noted;
      kept = λ x other h. spans_kept c.loop-lit.sides c.note.new.self c.lit-item.result.var c.args.part.0 x other noted (c.loop-lit.invariant.kept x other h);
      parts = noted.parts ∙ c.loop-lit.invariant.parts;
    }
