use Rattle.craig_proof.proofs.PackedLemmas.{NumberLeft-done, NumberLeft-more}
use Rattle.std.proofs.Common.{refl}
use Rattle.craig_proof.proofs.packed_number.append_number.Goals as goal

pub loop-rest-preserved : goal.loop-rest-preserved
loop-rest-preserved c = NumberLeft-more c.args.out.now.items c.loop-rest.out.items _ c.args.number c.loop-rest.rest _ c.loop-rest.invariant c.loop-rest-test.true refl c.in_ok-push.ensures.items

pub returns-clause-appended : goal.returns-clause-appended
returns-clause-appended c = NumberLeft-done c.args.out.now.items c.loop-rest.out.items _ c.args.number c.loop-rest.rest c.loop-rest.invariant c.loop-rest-test.false c.in_ok-push-2.ensures.items
