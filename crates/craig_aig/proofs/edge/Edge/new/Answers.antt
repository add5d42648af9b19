use Rattle.craig_aig.proofs.EdgeLemmas.{code-edge, code-fits, code-small, double-fits}
use Rattle.craig_aig.proofs.edge.Edge.new.Goals as goal

pub overflow_mul-result : goal.overflow_mul-result
overflow_mul-result c = double-fits c.args.place c.requires

pub overflow_add-result : goal.overflow_add-result
overflow_add-result c = code-fits c.args.place _ _ c.requires c.from.ensures

pub invariant_of-result : goal.invariant_of-result
invariant_of-result c = code-small c.args.place _ _ c.requires c.from.ensures

pub returns : goal.returns
returns c = code-edge c.args.place _ _ c.from.ensures
