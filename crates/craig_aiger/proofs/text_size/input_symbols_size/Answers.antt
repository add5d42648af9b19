use Rattle.std.proofs.Common.{arith}
use Rattle.craig_aiger.specs.AsciiText.{input_symbol}
use Rattle.craig_aiger.proofs.TextLemmas.{Counted-more}
use Rattle.craig_aiger.proofs.text_size.input_symbols_size.Goals as goal

pub loop-place-preserved : goal.loop-place-preserved
loop-place-preserved c = Counted-more input_symbol 0 c.args.inputs.now c.loop-place.place c.loop-place.place c.loop-place.size c.input_symbol_size-size.result 0 c.loop-place-test.true (omega arith) c.loop-place.invariant c.input_symbol_size-size.ensures.value (omega (arith, c.input_symbol_size-size.ensures.small))
