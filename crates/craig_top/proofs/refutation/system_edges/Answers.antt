use Rattle.std.proofs.lemmas.Result.{IfOk-weaker}
use Rattle.craig_itp.specs.Interpolants.{AreInterpolants}
use Rattle.craig_top.proofs.refutation.system_edges.Goals as goal

pub outputs-requires-clause-ends : goal.outputs-requires-clause-ends
outputs-requires-clause-ends g c =
    let m = c.args.material.now in
    c.needed_parts_tell_all.ensures.ends m.store.now.told c.args.root.0 c.args.needed.now c.each_clause_follows.ensures.told c.requires.needed m.sides.now c.requires.root c.requires.noted

pub returns-clause-interpolants : goal.returns-clause-interpolants
returns-clause-interpolants g c =
    let m = c.args.material.now in
    let t = m.store.now.told in
    let root = c.args.root.0 in
    let part = c.args.needed.now in
    let marks = g.S.System.marks c.args.system.now in
    let aig = c.outputs.new.aig in
    let cuts = c.args.cuts.now in
    IfOk-weaker c.outputs.result (AreInterpolants m.sides.now marks part root aig cuts) (AreInterpolants m.sides.now marks t.steps root aig cuts)
    (λ edges are. c.needed_parts_tell_all.ensures.outputs t root part c.each_clause_follows.ensures.told c.requires.needed m.sides.now marks aig cuts edges are)
    c.outputs.ensures.interpolants
