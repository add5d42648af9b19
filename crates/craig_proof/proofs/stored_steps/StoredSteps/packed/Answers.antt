use Rattle.craig_proof.proofs.RowLemmas.{within_rows}
use Rattle.craig_proof.proofs.stored_steps.StoredSteps.packed.Goals as goal

pub bytes_at-requires-clause-within : goal.bytes_at-requires-clause-within
bytes_at-requires-clause-within c =
    rw c.as_slice.ensures.value (within_rows c.self.inside.literals.items c.self.inside.bytes.items c.self.inside.rows.items c.args.place (rw (← c.self.view_is) at c.requires))
