use Rattle.std.proofs.Common.{◌≡◌, length}
use Rattle.craig_aig.specs.Growth.{ArenaGrows}
use Rattle.craig_itp.proofs.SequenceLemmas.{AreOutputs}
use Rattle.craig_itp.proofs.interpolation.outputs.Given as goal

abbrev pub invariant-loop-cut : goal.invariant-loop-cut
invariant-loop-cut g l = record {
  count : length l.edges ≡ l.cut-index;
  each : AreOutputs l.sides (g.S.System.marks l.system) l.needed l.root.0 l.cuts l.aig l.edges;
  grows : ArenaGrows l.initial.aig l.aig;
}
