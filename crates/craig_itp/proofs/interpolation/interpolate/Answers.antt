use Rattle.std.proofs.lemmas.Result.{IfOk-weaker}
use Rattle.craig_itp.specs.Interpolants.{IsInterpolant}
use Rattle.craig_itp.proofs.interpolation.interpolate.Goals as goal

pub edge_of_root-requires-clause-ends : goal.edge_of_root-requires-clause-ends
edge_of_root-requires-clause-ends g c =
    c.needed_parts_tell_all.ensures.ends c.args.store.now.told c.args.root.0 c.in_ok-needed.needed c.each_clause_follows.ensures.told c.in_ok-needed.ensures.needed c.args.sides.now c.requires.root c.requires.noted

pub returns-clause-interpolant : goal.returns-clause-interpolant
returns-clause-interpolant g c =
    let t = c.args.store.now.told in
    let root = c.args.root.0 in
    let part = c.in_ok-needed.needed in
    let marks = g.S.System.marks c.args.system.now in
    let aig = c.edge_of_root.new.aig in
    IfOk-weaker c.edge_of_root.result (IsInterpolant c.args.sides.now c.args.cut marks part root aig) (IsInterpolant c.args.sides.now c.args.cut marks t.steps root aig)
    (λ e h. c.needed_parts_tell_all.ensures.one t root part c.each_clause_follows.ensures.told c.in_ok-needed.ensures.needed c.args.sides.now c.args.cut marks aig e h)
    c.edge_of_root.ensures.interpolant
