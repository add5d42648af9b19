use Rattle.craig_watch.proofs.LevelsLemmas.{levels-rise, levels-present, decision-level, root-reason, length-bounded}
use Rattle.craig_watch.proofs.HeldLemmas.{level-bounded}
use Rattle.craig_watch.proofs.laws.levels_rise.Goals as goal

pub returns-clause-rise : goal.returns-clause-rise
returns-clause-rise c = levels-rise

pub returns-clause-present : goal.returns-clause-present
returns-clause-present c = levels-present

pub returns-clause-decision : goal.returns-clause-decision
returns-clause-decision c = decision-level

pub returns-clause-root : goal.returns-clause-root
returns-clause-root c = root-reason

pub returns-clause-few_levels : goal.returns-clause-few_levels
returns-clause-few_levels c = level-bounded

pub returns-clause-few_literals : goal.returns-clause-few_literals
returns-clause-few_literals c = length-bounded
