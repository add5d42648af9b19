use Rattle.craig_watch.proofs.AssertingLemmas.{conflict-two, asserting-new}
use Rattle.craig_watch.proofs.laws.conflicts_above_the_root.Goals as goal

pub returns-clause-two : goal.returns-clause-two
returns-clause-two c = conflict-two

pub returns-clause-new : goal.returns-clause-new
returns-clause-new c = asserting-new
