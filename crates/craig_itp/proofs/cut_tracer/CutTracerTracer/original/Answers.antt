use Rattle.std.proofs.Common.{refl}
use Rattle.craig_itp.proofs.CutTracerLemmas.{IsCutTracer-failed, IsCutTracer-original}
use Rattle.craig_itp.proofs.cut_tracer.CutTracerTracer.original.Goals as goal

pub invariant_of-self : goal.invariant_of-self
invariant_of-self g c =
    IsCutTracer-failed _ _ _ _ _ _ _ _ _ _ c.self.invariant c.leaf_edge.ensures.grows.extends c.leaf_edge.ensures.grows.kept c.leaf_edge.ensures.grows.is_arena refl refl

pub invariant_of-self-in_err-reserve : goal.invariant_of-self-in_err-reserve
invariant_of-self-in_err-reserve g c =
    IsCutTracer-failed _ _ _ _ _ _ _ _ _ _ c.self.invariant c.leaf_edge.ensures.grows.extends c.leaf_edge.ensures.grows.kept c.leaf_edge.ensures.grows.is_arena c.reserve.ensures.items refl

pub invariant_of-self-in_err-original : goal.invariant_of-self-in_err-original
invariant_of-self-in_err-original g c =
    IsCutTracer-failed _ _ _ _ _ _ _ _ _ _ c.self.invariant c.leaf_edge.ensures.grows.extends c.leaf_edge.ensures.grows.kept c.leaf_edge.ensures.grows.is_arena c.reserve.ensures.items c.in_err-original.ensures.unchanged

pub invariant_of-self-2 : goal.invariant_of-self-2
invariant_of-self-2 g c =
    IsCutTracer-original _ _ _ _ _ _ _ _ _ _ c.args.id _ c.self.invariant c.each_clause_follows.ensures.told (rw (← c.self.view_is) at c.requires.above) c.leaf_edge.ensures.grows.extends c.leaf_edge.ensures.grows.kept c.leaf_edge.ensures.grows.is_arena c.in_ok-edge.ensures.within (rw c.reserve.ensures.items at c.push_reserved.ensures.items) _ _ c.in_ok-edge.ensures.leaf c.in_ok-original.ensures.told
