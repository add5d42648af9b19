use Rattle.std.proofs.Common.{arith}
use Rattle.craig_aiger.specs.AsciiText.{output_line}
use Rattle.craig_aiger.proofs.AppendingLemmas.{HasRoom-more, IsAppended-more}
use Rattle.craig_aiger.proofs.writing.append_outputs.Goals as goal

pub append_literal-requires : goal.append_literal-requires
append_literal-requires c = HasRoom-more output_line 0 c.args.outputs.now c.loop-place.place c.loop-place.place _ c.args.out.now c.loop-place.out c.loop-place-test.true (omega arith) c.loop-place.invariant c.requires

pub loop-place-preserved : goal.loop-place-preserved
loop-place-preserved c = IsAppended-more output_line 0 c.args.outputs.now c.loop-place.place c.loop-place.place _ c.args.out.now c.loop-place.out c.loop-place-test.true (omega arith) c.loop-place.invariant c.append_literal.new.out c.append_literal.ensures
