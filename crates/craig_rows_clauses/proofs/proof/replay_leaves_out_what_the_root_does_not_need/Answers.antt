use Rattle.std.proofs.Common.{◌≡◌, refl}
use Rattle.craig_rows_clauses.proofs.proof.replay_leaves_out_what_the_root_does_not_need.Goals as goal

pub replay-requires-clause-root : goal.replay-requires-clause-root
replay-requires-clause-root g c =
    let held = c.in_ok-tell_refutation.ensures.told _ refl in
    let same : c.tell_refutation.new.tracer.told ≡ held.0 = cc in
    rw same held.2
