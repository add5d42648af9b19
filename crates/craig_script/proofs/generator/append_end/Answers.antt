use Rattle.std.proofs.Common.{◌-◌, arith}
use Rattle.craig_script.proofs.GeneratorLemmas.{end_more}
use Rattle.craig_script.proofs.generator.append_end.Goals as goal

pub loop-bit-preserved : goal.loop-bit-preserved
loop-bit-preserved c =
    end_more c.args.steps (c.loop-bit.bit - 1) c.loop-bit.bit c.args.script.now c.loop-bit.script c.append_end_bit.new.script (omega arith) (omega arith) c.loop-bit.invariant c.in_ok-append_end_bit.ensures
