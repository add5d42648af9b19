use Rattle.craig_rows_clauses.proofs.RefutationLemmas.{has_root}
use Rattle.craig_rows_clauses.proofs.proof.packed_root.Goals as goal

pub packed-requires : goal.packed-requires
packed-requires c = has_root c.args.store.now.told.steps c.requires
