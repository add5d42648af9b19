use Rattle.std.proofs.Common.{◌∙◌, ap, length, None}
use Rattle.craig_top.specs.Material.{view_of}
use Rattle.craig_top.proofs.WrittenOutputsLemmas.{one_system, pushed_by}
use Rattle.craig_top.proofs.refutation.lone_outputs.Goals as goal

pub push_named-requires : goal.push_named-requires
push_named-requires g c = ap length c.as_slice.ensures ∙ c.in_ok-edges.ensures.interpolants.count

pub returns : goal.returns
returns g c =
    let m = view_of c.args.material.now in
    one_system m c.args.root.0 c.args.aig.now c.system_edges.new.aig c.args.cuts.now (g.S.System.marks c.args.system.now) c.new-outputs.result.items c.push_named.new.outputs.items c.new-outputs.ensures.items
    (pushed_by m c.args.root.0 c.args.cuts.now None (g.S.System.marks c.args.system.now) c.args.aig.now c.system_edges.new.aig c.in_ok-edges.edges c.as_slice.result.now c.new-outputs.result.items c.push_named.new.outputs.items
    c.as_slice.ensures c.in_ok-edges.ensures.interpolants c.system_edges.ensures.grows c.in_ok-push_named.ensures)
