use Rattle.std.proofs.Common.{◌+◌, refl, arith}
use Rattle.craig_aiger.specs.AsciiText.{input_line}
use Rattle.craig_aiger.proofs.TextLemmas.{Counted-more}
use Rattle.craig_aiger.proofs.text_size.inputs_size.Goals as goal

pub loop-place-preserved : goal.loop-place-preserved
loop-place-preserved c = Counted-more input_line 1 c.args.inputs.now c.loop-place.place (1 + c.loop-place.place) c.loop-place.size c.literal_size-size.result 0 c.loop-place-test.true refl c.loop-place.invariant c.literal_size-size.ensures.value (omega (arith, c.literal_size-size.ensures.small))
