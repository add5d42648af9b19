use Rattle.craig_cnf.proofs.AppendingLemmas.{greatest_literal_more}
use Rattle.craig_cnf.proofs.greatest.greatest_name_in.Goals as goal

pub loop-literal-preserved : goal.loop-literal-preserved
loop-literal-preserved c = greatest_literal_more c.args.names.now c.args.literals.now c.loop-literal.literal-index c.literal-item.result c.name.result c.loop-literal.greatest c.max-greatest.result c.var.result.0 c.loop-literal-test.true c.literal-item.is c.var.ensures.value c.name.ensures.value c.loop-literal.invariant c.max-greatest.ensures
