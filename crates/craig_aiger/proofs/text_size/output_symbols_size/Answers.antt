use Rattle.std.proofs.Common.{arith}
use Rattle.craig_aiger.specs.AsciiText.{output_symbol}
use Rattle.craig_aiger.proofs.TextLemmas.{Counted-more}
use Rattle.craig_aiger.proofs.text_size.output_symbols_size.Goals as goal

pub loop-place-preserved : goal.loop-place-preserved
loop-place-preserved c = Counted-more output_symbol 0 c.args.outputs.now c.loop-place.place c.loop-place.place c.loop-place.size c.output_symbol_size-size.result _ c.loop-place-test.true (omega arith) c.loop-place.invariant c.output_symbol_size-size.ensures.value (omega (arith, c.output_symbol_size-size.ensures.small))
