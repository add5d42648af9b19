use Rattle.std.proofs.Common.{length, refl, arith}
use Rattle.std.proofs.lemmas.List.{length-map}
use Rattle.craig_aiger.specs.Layouts.{edges_of}
use Rattle.craig_aiger.proofs.NeededLemmas.{RootedTo-more, edge_at, place_at}
use Rattle.craig_aiger.proofs.needed.keep_outputs.Goals as goal

pub loop-output-preserved : goal.loop-output-preserved
loop-output-preserved c =
    RootedTo-more c.args.aig.now (edges_of c.args.outputs.now) c.loop-output.table c.keep.new.table c.loop-output.output-index _ c.output-item.result.1 refl c.loop-output.invariant
    (omega (arith, c.loop-output-test.true, length-map c.args.outputs.now (λ o. o.1)))
    (edge_at c.args.outputs.now c.loop-output.output-index c.output-item.result c.output-item.is c.loop-output-test.true)
    (place_at c.args.outputs.now (length c.args.aig.now) c.loop-output.output-index c.output-item.result c.output-item.is c.loop-output-test.true c.requires.within) c.keep.ensures.lengths c.keep.ensures.kept
