use Rattle.craig_system.specs.Rules.{labelling}
use Rattle.craig_system.proofs.LeafLemmas.{IsLeafB-negation}
use Rattle.craig_system.proofs.system.System.leaf_b.Goals as goal

pub returns-clause-leaf : goal.returns-clause-leaf
returns-clause-leaf g c =
    let new = c.any_labelled.new.aig in
    IsLeafB-negation (labelling c.args.sides.now c.args.cut (g.Self.System.marks c.args.self.now)).label c.args.lits.now new c.in_ok-some.some c.not.result c.in_ok-some.ensures.any
    (λ s. c.not.ensures.computes s new) (c.not.ensures.cone new)
