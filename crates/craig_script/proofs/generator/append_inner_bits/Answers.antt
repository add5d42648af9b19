use Rattle.std.proofs.Common.{◌+◌, arith}
use Rattle.craig_script.specs.Generator.{higher_bit, next_helper}
use Rattle.craig_script.proofs.GeneratorLemmas.{inner_all, inner_more, two_rows}
use Rattle.craig_script.proofs.generator.append_inner_bits.Goals as goal

pub loop-bit-preserved : goal.loop-bit-preserved
loop-bit-preserved c =
    inner_more (c.args.before + 1) c.args.before c.args.script.now c.loop-bit.script c.append_next_helper.new.script c.loop-bit.bit c.loop-bit.auto.bit c.loop-bit.invariant
    (two_rows (c.args.before + 1) (higher_bit c.args.before c.loop-bit.bit) (next_helper c.args.before c.loop-bit.bit) c.loop-bit.script c.append_higher_bit.new.script c.append_next_helper.new.script c.in_ok-append_higher_bit.ensures c.in_ok-append_next_helper.ensures)

pub returns : goal.returns
returns c = inner_all (c.args.before + 1) c.args.before c.args.script.now c.loop-bit.script c.loop-bit.bit (omega arith) c.loop-bit.invariant
