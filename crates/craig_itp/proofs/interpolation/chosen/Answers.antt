use Rattle.std.proofs.lemmas.Result.{IfOk-weaker}
use Rattle.craig_itp.specs.Interpolants.{AreInterpolants}
use Rattle.craig_itp.proofs.interpolation.chosen.Goals as goal

pub outputs-requires-clause-ends : goal.outputs-requires-clause-ends
outputs-requires-clause-ends g c =
    c.needed_parts_tell_all.ensures.ends c.args.store.now.told c.args.root.0 c.in_ok-needed.needed c.each_clause_follows.ensures.told c.in_ok-needed.ensures.needed c.args.sides.now c.requires.root c.requires.noted

pub returns-clause-interpolants : goal.returns-clause-interpolants
returns-clause-interpolants g c =
    let t = c.args.store.now.told in
    let root = c.args.root.0 in
    let part = c.in_ok-needed.needed in
    let marks = g.S.System.marks c.args.system.now in
    let aig = c.outputs.new.aig in
    let cuts = c.args.cuts.now in
    IfOk-weaker c.outputs.result (AreInterpolants c.args.sides.now marks part root aig cuts) (AreInterpolants c.args.sides.now marks t.steps root aig cuts)
    (λ edges are. c.needed_parts_tell_all.ensures.outputs t root part c.each_clause_follows.ensures.told c.in_ok-needed.ensures.needed c.args.sides.now marks aig cuts edges are)
    c.outputs.ensures.interpolants
