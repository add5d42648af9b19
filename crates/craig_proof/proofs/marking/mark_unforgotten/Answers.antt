use Rattle.std.proofs.Common.{arith}
use Rattle.std.proofs.lemmas.List.{get_or_default}
use Rattle.std.proofs.lemmas.List.Edits.{map_over_more}
use Rattle.craig_proof.specs.Reclaiming.{marked_unless_forgotten}
use Rattle.craig_proof.proofs.marking.mark_unforgotten.Goals as goal

pub loop-place-preserved : goal.loop-place-preserved
loop-place-preserved c =
    map_over_more marked_unless_forgotten c.args.rows.now c.loop-place.rows c.loop-place.place _ c.loop-place-test.true c.loop-place.invariant (get_or_default c.loop-place.rows c.loop-place.place _ _ (omega (arith, c.loop-place-test.true, c.loop-place.auto.rows)))
