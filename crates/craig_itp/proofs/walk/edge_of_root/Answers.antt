use Rattle.std.proofs.Common.{◌≡◌, ◌<◌, ℕ, ◌+◌, ◌-◌, List, [], ◌∷◌, get_or, length, length-append, subst, ap, ◌∙◌, arith}
use Rattle.craig_aig.specs.Edges.{Edge}
use Rattle.craig_aig.proofs.GrowthLemmas.{ArenaGrows-trans}
use Rattle.craig_system.specs.Rules.{labelling}
use Rattle.craig_itp.specs.Walk.{IsEdgeAt}
use Rattle.craig_itp.proofs.WalkLemmas.{AreFirstEdges-pushed, root_interpolant}
use Rattle.craig_itp.proofs.walk.edge_of_root.Goals as goal

pub returns-in_err-edge-clause-grows : goal.returns-in_err-edge-clause-grows
returns-in_err-edge-clause-grows g c = ArenaGrows-trans c.args.aig.now c.loop.aig c.edge_at.new.aig c.loop.invariant.grows c.edge_at.ensures.grows

pub returns-in_err-push-clause-grows : goal.returns-in_err-push-clause-grows
returns-in_err-push-clause-grows g c = ArenaGrows-trans c.args.aig.now c.loop.aig c.edge_at.new.aig c.loop.invariant.grows c.edge_at.ensures.grows

pub loop-preserved : goal.loop-preserved
loop-preserved g c =
    let l = labelling c.args.sides.now c.args.cut (g.S.System.marks c.args.system.now) in
    let part = c.args.needed.now in
    let edge = c.in_ok-edge.edge in
    let old = c.loop.edges.items in
    let room : length old < length part = omega (arith, c.loop.invariant.count, c.loop-test.true, c.len-end.ensures) in
    let now : IsEdgeAt l part (length old) c.edge_at.new.aig edge = subst (λ (es : List Edge). IsEdgeAt l part (length es) c.edge_at.new.aig edge) c.as_slice.ensures.value c.in_ok-edge.ensures.edge in
    record {
      count = ap length c.in_ok-push.ensures.items ∙ length-append old (edge ∷ []) ∙ ap (λ (n : ℕ). n + 1) c.loop.invariant.count;
      first = AreFirstEdges-pushed l part c.loop.aig c.edge_at.new.aig old c.push.new.self.items edge room c.edge_at.ensures.grows c.loop.invariant.first now c.in_ok-push.ensures.items;
      grows = ArenaGrows-trans c.args.aig.now c.loop.aig c.edge_at.new.aig c.loop.invariant.grows c.edge_at.ensures.grows;
    }

pub returns-clause-interpolant : goal.returns-clause-interpolant
returns-clause-interpolant g c =
    let all : length c.loop.edges.items ≡ length c.args.needed.now = omega (arith, c.loop.invariant.count, c.loop-test.false, c.len-end.ensures, c.loop.auto.counter-end) in
    let items = c.loop.edges.items in
    let last : c.len-2.result ≡ length items = c.len-2.ensures ∙ c.loop.edges.ok.0 in
    root_interpolant c.args.sides.now c.args.cut (g.S.System.marks c.args.system.now) c.args.needed.now c.args.root.0 c.loop.aig items c.requires.ends c.loop.invariant.first all c.index.result.now
    (c.index.ensures ∙ ap (λ (k : ℕ). get_or items (k - 1) c.index.result.now) last)
