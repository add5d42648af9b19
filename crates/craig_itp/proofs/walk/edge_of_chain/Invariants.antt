use Rattle.std.proofs.Common.{length}
use Rattle.craig_aig.specs.Growth.{ArenaGrows}
use Rattle.craig_system.specs.Rules.{labelling}
use Rattle.craig_itp.proofs.WalkLemmas.{IsWalked}
use Rattle.craig_itp.proofs.walk.edge_of_chain.Given as goal

abbrev pub invariant-loop-step : goal.invariant-loop-step
invariant-loop-step g l = record {
  walked : IsWalked (labelling l.sides l.cut (g.S.System.marks l.system)) l.needed l.fn.first.0 l.initial.left l.left l.aig l.edge;
  grows : ArenaGrows l.initial.aig l.aig;
}

abbrev pub decreases-loop-step : goal.decreases-loop-step
decreases-loop-step g l = length l.left
