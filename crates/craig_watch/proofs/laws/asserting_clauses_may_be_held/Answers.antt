use Rattle.craig_watch.proofs.AssertingLemmas.{asserting-may_be_held}
use Rattle.craig_watch.proofs.laws.asserting_clauses_may_be_held.Goals as goal

pub returns : goal.returns
returns c = asserting-may_be_held
