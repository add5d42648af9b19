use Rattle.craig_proof.proofs.PackedLemmas.{small_more, steps_more}
use Rattle.craig_proof.proofs.packing.append_steps.Goals as goal

pub loop-step-preserved : goal.loop-step-preserved
loop-step-preserved c = record {
  appended = steps_more c.args.id.0 c.args.rest.now c.loop-step.step-index c.step-item.result c.loop-step-test.true c.step-item.is c.args.out.now.items c.loop-step.out.items _ c.loop-step.invariant.appended c.in_ok-append_step.ensures.appended;
  small = small_more c.args.id.0 c.args.rest.now c.loop-step.step-index c.step-item.result c.loop-step-test.true c.step-item.is c.loop-step.invariant.small c.append_step.ensures.small;
}
