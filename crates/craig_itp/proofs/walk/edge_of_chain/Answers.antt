use Rattle.std.proofs.Common.{length, ◌++◌, ◌∷◌, [], append_assoc, ap, sym, ◌∙◌, arith}
use Rattle.craig_aig.proofs.GrowthLemmas.{ArenaGrows-same, ArenaGrows-trans}
use Rattle.craig_proof.specs.Tracer.{chain_step}
use Rattle.craig_system.specs.Rules.{labelling}
use Rattle.craig_itp.specs.Walk.{IsBefore}
use Rattle.craig_itp.proofs.WalkLemmas.{AreFirstEdges-grown, IsEdgeOfChain-joined, IsEdgeOfChain-start, IsWalked-all, IsWalked-done, next_of_chain}
use Rattle.craig_itp.proofs.walk.edge_of_chain.Goals as goal

pub edge_of_id-right-requires : goal.edge_of_id-right-requires
edge_of_id-right-requires g c =
    next_of_chain (λ s. IsBefore c.args.needed.now (length c.args.edges.now) s.antecedent) c.loop-step.invariant.walked.done c.loop-step.left c.args.rest (chain_step c.in-Some.step) _ c.requires.rest c.loop-step.invariant.walked.split c.in-Some.ensures.step

pub loop-step-init : goal.loop-step-init
loop-step-init g c = record {
  walked = IsWalked-all _ c.args.needed.now c.args.first.0 c.args.rest c.args.aig.now c.edge_of_id-edge.result (IsEdgeOfChain-start _ c.args.needed.now c.args.aig.now c.args.first.0 c.edge_of_id-edge.result (c.edge_of_id-edge.ensures _ c.args.aig.now c.requires.edges));
  grows = ArenaGrows-same c.args.aig.now c.len.ensures.is_arena;
}

pub join-requires-clause-right : goal.join-requires-clause-right
join-requires-clause-right g c =
    let l = labelling c.args.sides.now c.args.cut (g.S.System.marks c.args.system.now) in
    (c.edge_of_id-right.ensures l c.loop-step.aig (AreFirstEdges-grown l c.args.needed.now c.args.aig.now c.loop-step.aig c.args.edges.now c.loop-step.invariant.grows c.requires.edges)).within

pub returns-in_err-edge-clause-grows : goal.returns-in_err-edge-clause-grows
returns-in_err-edge-clause-grows g c = ArenaGrows-trans _ _ _ c.loop-step.invariant.grows c.join.ensures.grows

pub loop-step-preserved : goal.loop-step-preserved
loop-step-preserved g c =
    let l = labelling c.args.sides.now c.args.cut (g.S.System.marks c.args.system.now) in
    let part = c.args.needed.now in
    let walked = c.loop-step.invariant.walked in
    let now = AreFirstEdges-grown l part c.args.aig.now c.loop-step.aig c.args.edges.now c.loop-step.invariant.grows c.requires.edges in
    let right = c.edge_of_id-right.ensures l c.loop-step.aig now in
    record {
      walked = record {
        done = walked.done ++ chain_step c.in-Some.step ∷ [];
        split = append_assoc walked.done (chain_step c.in-Some.step ∷ []) _ ∙ ap (λ xs. walked.done ++ xs) (sym c.in-Some.ensures.step) ∙ walked.split;
        chain = IsEdgeOfChain-joined l part c.args.first.0 walked.done c.loop-step.aig c.loop-step.edge c.edge_of_id-right.result (chain_step c.in-Some.step) c.join.new.aig c.in_ok-edge.edge walked.chain right c.in_ok-edge.ensures.within c.in_ok-edge.ensures.join;
      };
      grows = ArenaGrows-trans _ _ _ c.loop-step.invariant.grows c.join.ensures.grows;
    }

pub returns-clause-chain : goal.returns-clause-chain
returns-clause-chain g c =
    IsWalked-done _ c.args.needed.now c.args.first.0 c.args.rest _ c.loop-step.aig c.loop-step.edge c.in_default.ensures.none c.loop-step.invariant.walked
