use Rattle.craig_itp.proofs.SharedLemmas.{inputs_are_shared}
use Rattle.craig_itp.proofs.ToldEdgesLemmas.{rising_edges, found_where_told, found_edge, for_found}
use Rattle.craig_itp.proofs.cut_tracer.CutTracer.edge.Goals as goal

pub edge_of-requires : goal.edge_of-requires
edge_of-requires g c =
    rw c.as_slice.ensures.value (rising_edges c.self.inside.edges.items c.self.inside.store.told.steps c.self.invariant.edges_are.ids c.each_clause_follows.ensures.told.rising)

pub returns-clause-none : goal.returns-clause-none
returns-clause-none g c =
    rw (← c.self.view_is) (found_where_told c.self.inside.edges.items c.self.inside.store.told.steps c.args.id c.edge_of.result c.self.invariant.edges_are.ids (rw c.as_slice.ensures.value at c.edge_of.ensures.some) (rw c.as_slice.ensures.value at c.edge_of.ensures.none))

pub returns-clause-within : goal.returns-clause-within
returns-clause-within g c =
    rw (← c.self.view_is) (for_found c.edge_of.result _ _ (λ e h. h.within) (found_edge _ _ _ _ _ c.args.id c.edge_of.result c.self.invariant.edges_are (rw c.as_slice.ensures.value at c.edge_of.ensures.some)))

pub returns-clause-value : goal.returns-clause-value
returns-clause-value g c =
    rw (← c.self.view_is) (for_found c.edge_of.result _ _ (λ e h. h.value) (found_edge _ _ _ _ _ c.args.id c.edge_of.result c.self.invariant.edges_are (rw c.as_slice.ensures.value at c.edge_of.ensures.some)))

pub returns-clause-inputs : goal.returns-clause-inputs
returns-clause-inputs g c =
    rw (← c.self.view_is) (λ noted. for_found c.edge_of.result _ _ (λ e h. inputs_are_shared c.self.inside.sides.now c.self.inside.cut (g.S.System.marks c.self.inside.system.now) c.self.inside.store.told.steps c.self.inside.aig c.args.id.0 e noted h) (found_edge _ _ _ _ _ c.args.id c.edge_of.result c.self.invariant.edges_are (rw c.as_slice.ensures.value at c.edge_of.ensures.some)))
