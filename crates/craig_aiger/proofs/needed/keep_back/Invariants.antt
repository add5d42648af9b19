use Rattle.std.proofs.Common.{◌≤◌, length}
use Rattle.craig_aiger.specs.Layouts.{edges_of}
use Rattle.craig_aiger.proofs.NeededLemmas.{Back}
use Rattle.craig_aiger.proofs.needed.keep_back.Given as goal

abbrev pub invariant-loop-place : goal.invariant-loop-place
invariant-loop-place l = record { within : l.place ≤ length l.table; back : Back l.aig (edges_of l.outputs) l.table l.place }

abbrev pub decreases-loop-place : goal.decreases-loop-place
decreases-loop-place l = l.place
