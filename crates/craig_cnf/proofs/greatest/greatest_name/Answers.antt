use Rattle.craig_cnf.proofs.AppendingLemmas.{greatest_clause_more}
use Rattle.craig_cnf.proofs.greatest.greatest_name.Goals as goal

pub loop-clause-preserved : goal.loop-clause-preserved
loop-clause-preserved c = greatest_clause_more c.args.names.now c.args.clauses.now c.loop-clause.clause-index c.clause-item.result c.as_slice.result.now c.greatest_name_in.result c.loop-clause.greatest c.max-greatest.result c.loop-clause-test.true c.clause-item.is c.as_slice.ensures c.greatest_name_in.ensures c.loop-clause.invariant c.max-greatest.ensures
