use Rattle.std.proofs.Common.{◌<◌, length, refl, sym, subst, arith}
use Rattle.std.proofs.lemmas.List.Elements.{All-contains}
use Rattle.craig_system.specs.Rules.{labelling}
use Rattle.craig_itp.specs.StepEdges.{HasEdge, IsChainEdge}
use Rattle.craig_itp.specs.declared.step_edge.StepEdge.{StepEdge}
use Rattle.craig_itp.proofs.ChainEdgeLemmas.{chain_of-more, IsChainEdge-joined}
use Rattle.craig_aig.proofs.GrowthLemmas.{ArenaGrows-trans, length-Extends}
use Rattle.craig_itp.proofs.chain_edge.chain_edge.Goals as goal

pub known_edge-right-requires-clause-known : goal.known_edge-right-requires-clause-known
known_edge-right-requires-clause-known g c =
    subst (λ (s : _). HasEdge c.args.edges.now s.antecedent.0) (sym c.step-item.is) (c.requires.rest c.loop-step.step-index c.step-item.result (omega arith))

pub returns-in_err-edge-clause-grows : goal.returns-in_err-edge-clause-grows
returns-in_err-edge-clause-grows g c = ArenaGrows-trans _ _ _ c.loop-step.invariant.grows c.join.ensures.grows

pub loop-step-preserved : goal.loop-step-preserved
loop-step-preserved g c =
    let right : StepEdge = record { id = c.step-item.result.antecedent; edge = c.known_edge-right.result } in
    let before : right.edge.place < length c.args.aig.now = All-contains (λ (s : StepEdge). s.edge.place < length c.args.aig.now) c.args.edges.now right c.requires.within c.known_edge-right.ensures in
    let after : right.edge.place < length c.loop-step.aig = omega (arith, before, length-Extends _ _ c.loop-step.invariant.grows.extends) in
    record {
      within = c.in_ok-edge.ensures.within;
      chain = subst (λ r. IsChainEdge (labelling c.args.sides.now c.args.cut (g.S.System.marks c.args.system.now)).label c.args.edges.now c.args.aig.now c.args.first.0 r c.join.new.aig c.in_ok-edge.edge) (sym (chain_of-more c.args.rest.now c.loop-step.step-index c.step-item.result (omega arith) c.step-item.is))
          (IsChainEdge-joined _ c.args.edges.now c.args.aig.now c.args.first.0 _ c.loop-step.aig c.loop-step.edge right (record { pivot = c.step-item.result.pivot; antecedent = c.step-item.result.antecedent.0 }) c.join.new.aig c.in_ok-edge.edge c.loop-step.invariant.chain c.loop-step.invariant.grows.kept c.known_edge-right.ensures refl before after c.in_ok-edge.ensures.join);
      grows = ArenaGrows-trans _ _ _ c.loop-step.invariant.grows c.join.ensures.grows;
    }
