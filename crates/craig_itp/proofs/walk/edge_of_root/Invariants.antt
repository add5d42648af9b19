use Rattle.std.proofs.Common.{◌≡◌, length}
use Rattle.craig_aig.specs.Growth.{ArenaGrows}
use Rattle.craig_system.specs.Rules.{labelling}
use Rattle.craig_itp.specs.Walk.{AreFirstEdges}
use Rattle.craig_itp.proofs.walk.edge_of_root.Given as goal

abbrev pub invariant-loop : goal.invariant-loop
invariant-loop g l = record {
  count : length l.edges.items ≡ l.counter;
  first : AreFirstEdges (labelling l.sides l.cut (g.S.System.marks l.system)) l.needed l.aig l.edges.items;
  grows : ArenaGrows l.initial.aig l.aig;
}
