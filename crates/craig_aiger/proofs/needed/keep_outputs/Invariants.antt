use Rattle.craig_aiger.specs.Layouts.{edges_of}
use Rattle.craig_aiger.proofs.NeededLemmas.{RootedTo}
use Rattle.craig_aiger.proofs.needed.keep_outputs.Given as goal

abbrev pub invariant-loop-output : goal.invariant-loop-output
invariant-loop-output l = RootedTo l.aig (edges_of l.outputs) l.table l.output-index
