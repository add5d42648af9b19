use Rattle.std.proofs.Common.{◌<◌, length}
use Rattle.std.proofs.lemmas.Result.{IfOk-weaker}
use Rattle.craig_system.specs.Rules.{labelling}
use Rattle.craig_system.proofs.ResultLemmas.{IfOk-both}
use Rattle.craig_itp.specs.StepEdges.{IsLeafEdge}
use Rattle.craig_itp.specs.Walk.{IsEdgeAt, IsEdgeOfChain}
use Rattle.craig_itp.proofs.WalkLemmas.{IsEdgeOf-chain, IsEdgeOf-leaf, first_before, rest_before, one_at}
use Rattle.craig_itp.proofs.walk.edge_at.Goals as goal

pub edge_of_chain-requires-clause-first : goal.edge_of_chain-requires-clause-first
edge_of_chain-requires-clause-first g c =
    let s = c.in-Derived.ensures in first_before c.args.needed.now c.args.root.0 _ s.0 c.requires.ends.told s.1 c.in-Derived.first.0 c.in-Derived.rest s.2

pub edge_of_chain-requires-clause-rest : goal.edge_of_chain-requires-clause-rest
edge_of_chain-requires-clause-rest g c =
    let s = c.in-Derived.ensures in rest_before c.args.needed.now c.args.root.0 _ s.0 c.requires.ends.told s.1 c.in-Derived.first.0 c.in-Derived.rest s.2

pub returns-in-Original-clause-edge : goal.returns-in-Original-clause-edge
returns-in-Original-clause-edge g c =
    let l = labelling c.args.sides.now c.args.cut (g.S.System.marks c.args.system.now) in
    let part = c.args.needed.now in
    let place = length c.args.edges.now in
    let new = c.leaf_edge.new.aig in
    let found = c.in-Original.ensures in
    IfOk-both c.leaf_edge.result (λ e. e.place < length new) (IsLeafEdge l c.in-Original.part.0 c.in-Original.lits.now new) (IsEdgeAt l part place new)
    (λ e within leaf s at. one_at l part place new e found.0 s found.1 at (IsEdgeOf-leaf l part c.args.root.0 place found.0 c.requires.ends.told found.1 new e c.in-Original.part.0 c.in-Original.lits.now found.2.0 found.2.1 within leaf))
    c.leaf_edge.ensures.within c.leaf_edge.ensures.leaf

pub returns-in-Derived-clause-edge : goal.returns-in-Derived-clause-edge
returns-in-Derived-clause-edge g c =
    let l = labelling c.args.sides.now c.args.cut (g.S.System.marks c.args.system.now) in
    let part = c.args.needed.now in
    let new = c.edge_of_chain.new.aig in
    let found = c.in-Derived.ensures in
    IfOk-weaker c.edge_of_chain.result (IsEdgeOfChain l part c.in-Derived.first.0 c.in-Derived.rest new) (IsEdgeAt l part (length c.args.edges.now) new)
    (λ e h s at. one_at l part (length c.args.edges.now) new e found.0 s found.1 at (IsEdgeOf-chain l part c.args.root.0 (length c.args.edges.now) found.0 c.requires.ends.told found.1 new e c.in-Derived.first.0 c.in-Derived.rest found.2 h))
    c.edge_of_chain.ensures.chain
