use Rattle.std.proofs.Common.{arith}
use Rattle.craig_aiger.specs.AsciiText.{output_symbol}
use Rattle.craig_aiger.proofs.AppendingLemmas.{HasRoom-more, IsAppended-more}
use Rattle.craig_aiger.proofs.writing.append_output_symbols.Goals as goal

pub append_output_symbol-requires : goal.append_output_symbol-requires
append_output_symbol-requires c = HasRoom-more output_symbol 0 c.args.outputs.now c.loop-place.place c.loop-place.place _ c.args.out.now c.loop-place.out c.loop-place-test.true (omega arith) c.loop-place.invariant c.requires

pub loop-place-preserved : goal.loop-place-preserved
loop-place-preserved c = IsAppended-more output_symbol 0 c.args.outputs.now c.loop-place.place c.loop-place.place _ c.args.out.now c.loop-place.out c.loop-place-test.true (omega arith) c.loop-place.invariant c.append_output_symbol.new.out c.append_output_symbol.ensures
