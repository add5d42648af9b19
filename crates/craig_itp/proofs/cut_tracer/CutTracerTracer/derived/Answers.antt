use Rattle.std.proofs.Common.{refl}
use Rattle.craig_itp.proofs.CutTracerLemmas.{IsCutTracer-failed, IsCutTracer-derived}
use Rattle.craig_itp.proofs.ToldEdgesLemmas.{rising_edges, first_has_edge, rest_have_edges, places_within}
use Rattle.craig_itp.proofs.cut_tracer.CutTracerTracer.derived.Goals as goal

pub chain_edge-requires-clause-rising : goal.chain_edge-requires-clause-rising
chain_edge-requires-clause-rising g c =
    rw c.as_slice-edges.ensures.value (rising_edges c.self.inside.edges.items c.self.inside.store.told.steps c.self.invariant.edges_are.ids c.each_clause_follows.ensures.told.rising)

pub chain_edge-requires-clause-within : goal.chain_edge-requires-clause-within
chain_edge-requires-clause-within g c = rw c.as_slice-edges.ensures.value (places_within _ _ _ _ _ c.self.invariant.edges_are)

pub chain_edge-requires-clause-first : goal.chain_edge-requires-clause-first
chain_edge-requires-clause-first g c =
    rw c.as_slice-edges.ensures.value (first_has_edge c.self.inside.edges.items c.self.inside.store.told.steps c.args.first.0 c.args.rest.now c.self.invariant.edges_are.ids ((rw (← c.self.view_is) at c.requires.unforgotten) c.self.inside.store.told refl))

pub chain_edge-requires-clause-rest : goal.chain_edge-requires-clause-rest
chain_edge-requires-clause-rest g c =
    rw c.as_slice-edges.ensures.value (rest_have_edges c.self.inside.edges.items c.self.inside.store.told.steps c.args.first.0 c.args.rest.now c.self.invariant.edges_are.ids ((rw (← c.self.view_is) at c.requires.unforgotten) c.self.inside.store.told refl))

pub derived-requires-clause-unforgotten : goal.derived-requires-clause-unforgotten
derived-requires-clause-unforgotten g c = rw (← c.self.view_is) at c.requires.unforgotten

pub invariant_of-self : goal.invariant_of-self
invariant_of-self g c =
    IsCutTracer-failed _ _ _ _ _ _ _ _ _ _ c.self.invariant c.chain_edge.ensures.grows.extends c.chain_edge.ensures.grows.kept c.chain_edge.ensures.grows.is_arena refl refl

pub invariant_of-self-in_err-reserve : goal.invariant_of-self-in_err-reserve
invariant_of-self-in_err-reserve g c =
    IsCutTracer-failed _ _ _ _ _ _ _ _ _ _ c.self.invariant c.chain_edge.ensures.grows.extends c.chain_edge.ensures.grows.kept c.chain_edge.ensures.grows.is_arena c.reserve.ensures.items refl

pub invariant_of-self-in_err-derived : goal.invariant_of-self-in_err-derived
invariant_of-self-in_err-derived g c =
    IsCutTracer-failed _ _ _ _ _ _ _ _ _ _ c.self.invariant c.chain_edge.ensures.grows.extends c.chain_edge.ensures.grows.kept c.chain_edge.ensures.grows.is_arena c.reserve.ensures.items c.in_err-derived.ensures.unchanged

pub invariant_of-self-2 : goal.invariant_of-self-2
invariant_of-self-2 g c =
    IsCutTracer-derived _ _ _ _ _ _ _ _ _ _ c.args.id _ c.self.invariant c.each_clause_follows.ensures.told (rw (← c.self.view_is) at c.requires.above) c.chain_edge.ensures.grows.extends c.chain_edge.ensures.grows.kept c.chain_edge.ensures.grows.is_arena c.in_ok-edge.ensures.within (rw c.reserve.ensures.items at c.push_reserved.ensures.items) _ _ _ (rw c.as_slice-edges.ensures.value at c.in_ok-edge.ensures.chain) c.in_ok-derived.ensures.told
