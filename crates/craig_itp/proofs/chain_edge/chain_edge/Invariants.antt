use Rattle.std.proofs.Common.{◌<◌, length, take}
use Rattle.craig_aig.specs.Growth.{ArenaGrows}
use Rattle.craig_system.specs.Rules.{labelling}
use Rattle.craig_proof.specs.Tracer.{chain_of}
use Rattle.craig_itp.specs.StepEdges.{IsChainEdge}
use Rattle.craig_itp.proofs.chain_edge.chain_edge.Given as goal

abbrev pub invariant-loop-step : goal.invariant-loop-step
invariant-loop-step g l = record {
  within : l.edge.place < length l.aig;
  chain : IsChainEdge (labelling l.sides l.cut (g.S.System.marks l.system)).label l.edges l.fn.aig l.fn.first.0 (chain_of (take l.step-index l.rest)) l.aig l.edge;
  grows : ArenaGrows l.fn.aig l.aig;
}
