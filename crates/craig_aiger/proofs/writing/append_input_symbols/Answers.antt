use Rattle.std.proofs.Common.{arith}
use Rattle.craig_aiger.specs.AsciiText.{input_symbol}
use Rattle.craig_aiger.proofs.AppendingLemmas.{HasRoom-more, IsAppended-more}
use Rattle.craig_aiger.proofs.writing.append_input_symbols.Goals as goal

pub append_input_symbol-requires : goal.append_input_symbol-requires
append_input_symbol-requires c = HasRoom-more input_symbol 0 c.args.inputs.now c.loop-place.place c.loop-place.place _ c.args.out.now c.loop-place.out c.loop-place-test.true (omega arith) c.loop-place.invariant c.requires

pub loop-place-preserved : goal.loop-place-preserved
loop-place-preserved c = IsAppended-more input_symbol 0 c.args.inputs.now c.loop-place.place c.loop-place.place _ c.args.out.now c.loop-place.out c.loop-place-test.true (omega arith) c.loop-place.invariant c.append_input_symbol.new.out c.append_input_symbol.ensures
