use Rattle.craig_top.proofs.DrawnStepsLemmas.{in_order, needed_ones, root_is_empty}
use Rattle.craig_top.proofs.laws.refutations.steps_of_the_last_root.Goals as goal

pub returns-clause-last : goal.returns-clause-last
returns-clause-last c = λ names kept last steps root of_last. of_last.is_last

pub returns-clause-needed : goal.returns-clause-needed
returns-clause-needed c = needed_ones

pub returns-clause-order : goal.returns-clause-order
returns-clause-order c = in_order

pub returns-clause-empty : goal.returns-clause-empty
returns-clause-empty c = root_is_empty

pub returns-clause-solve : goal.returns-clause-solve
returns-clause-solve c = λ view state pairs text is. is
