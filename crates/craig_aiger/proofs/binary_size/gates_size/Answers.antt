use Rattle.std.proofs.Common.{◌+◌, refl, arith}
use Rattle.craig_aiger.specs.BinaryText.{gate_groups}
use Rattle.craig_aiger.proofs.TextLemmas.{Counted-more}
use Rattle.craig_aiger.proofs.binary_size.gates_size.Goals as goal

pub loop-place-preserved : goal.loop-place-preserved
loop-place-preserved c = Counted-more gate_groups c.args.first c.args.gates.now c.loop-place.place (c.args.first + c.loop-place.place) c.loop-place.size c.gate_size-size.result _ c.loop-place-test.true refl c.loop-place.invariant c.gate_size-size.ensures.value (omega (arith, c.gate_size-size.ensures.small))
