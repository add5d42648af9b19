use Rattle.std.proofs.lemmas.Result.{on_ok_weaker}
use Rattle.craig_rows_circuits.proofs.ExampleLemmas.{AreNoted-told}
use Rattle.craig_rows_circuits.proofs.example.tell_original.Goals as goal

pub returns-clause-noted : goal.returns-clause-noted
returns-clause-noted c =
    on_ok_weaker c.original.result (λ told. AreNoted-told c.args.sides.now c.note_all.new.sides c.args.store.now.told c.original.new.self.told c.args.id.0 c.args.part.0 c.args.lits.now c.requires.noted c.note_all.ensures.kept c.in_ok-note_all.ensures.noted told) c.original.ensures.told
