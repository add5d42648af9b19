use Rattle.craig_itp.proofs.step_edge.known_edge.Goals as goal

pub unreachable-requires : goal.unreachable-requires
unreachable-requires c =
    let known = c.requires.known in
    c.edge_of.ensures.none c.in-None.is known.0 known.1 known.2
