use Rattle.std.proofs.Common.{◌∙◌, ap, length, Some}
use Rattle.craig_spec.specs.PartialInterpolant.{A, AB, B}
use Rattle.craig_aiger.specs.declared.family.Family.TheVariants.{McMillan, Pudlak, Inverse}
use Rattle.craig_top.specs.Material.{view_of}
use Rattle.craig_top.proofs.WrittenOutputsLemmas.{pushed_by, three_systems}
use Rattle.craig_top.proofs.refutation.three_outputs.Goals as goal

pub push_named-requires : goal.push_named-requires
push_named-requires c = ap length c.as_slice.ensures ∙ c.in_ok-mcmillan.ensures.interpolants.count

pub push_named-requires-2 : goal.push_named-requires-2
push_named-requires-2 c = ap length c.as_slice-2.ensures ∙ c.in_ok-pudlak.ensures.interpolants.count

pub push_named-requires-3 : goal.push_named-requires-3
push_named-requires-3 c = ap length c.as_slice-3.ensures ∙ c.in_ok-inverse.ensures.interpolants.count

pub returns : goal.returns
returns c =
    let m = view_of c.args.material.now in
    let root = c.args.root.0 in
    let cuts = c.args.cuts.now in
    three_systems m root cuts (Some McMillan) (Some Pudlak) (Some Inverse) (λ x. B) (λ x. AB) (λ x. A) c.args.aig.now c.system_edges.new.aig c.system_edges-2.new.aig c.system_edges-3.new.aig
    c.new-outputs.result.items c.push_named.new.outputs.items c.push_named-2.new.outputs.items c.push_named-3.new.outputs.items c.new-outputs.ensures.items
    (pushed_by m root cuts (Some McMillan) (λ x. B) c.args.aig.now c.system_edges.new.aig c.in_ok-mcmillan.mcmillan c.as_slice.result.now c.new-outputs.result.items c.push_named.new.outputs.items
    c.as_slice.ensures c.in_ok-mcmillan.ensures.interpolants c.system_edges.ensures.grows c.in_ok-push_named.ensures)
    (pushed_by m root cuts (Some Pudlak) (λ x. AB) c.system_edges.new.aig c.system_edges-2.new.aig c.in_ok-pudlak.pudlak c.as_slice-2.result.now c.push_named.new.outputs.items c.push_named-2.new.outputs.items
    c.as_slice-2.ensures c.in_ok-pudlak.ensures.interpolants c.system_edges-2.ensures.grows c.in_ok-push_named-2.ensures)
    (pushed_by m root cuts (Some Inverse) (λ x. A) c.system_edges-2.new.aig c.system_edges-3.new.aig c.in_ok-inverse.inverse c.as_slice-3.result.now c.push_named-2.new.outputs.items c.push_named-3.new.outputs.items
    c.as_slice-3.ensures c.in_ok-inverse.ensures.interpolants c.system_edges-3.ensures.grows c.in_ok-push_named-3.ensures)
