use Rattle.craig_top.proofs.FormatLemmas.{named-above, named-reached}
use Rattle.craig_top.proofs.laws.replies.greatest_variable_of_a_solve.Goals as goal

pub returns-clause-above : goal.returns-clause-above
returns-clause-above c = named-above

pub returns-clause-occurs : goal.returns-clause-occurs
returns-clause-occurs c = named-reached
