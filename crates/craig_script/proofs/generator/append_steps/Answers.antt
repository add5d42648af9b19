use Rattle.craig_script.proofs.GeneratorLemmas.{steps_more}
use Rattle.craig_script.proofs.generator.append_steps.Goals as goal

pub loop-before-preserved : goal.loop-before-preserved
loop-before-preserved c = steps_more c.args.script.now c.loop-before.script c.append_step.new.script c.loop-before.before c.loop-before.invariant c.in_ok-append_step.ensures
