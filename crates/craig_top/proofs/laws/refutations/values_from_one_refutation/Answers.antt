use Rattle.craig_top.proofs.DrawnStepsLemmas.{by_the_rules}
use Rattle.craig_top.proofs.laws.refutations.values_from_one_refutation.Goals as goal

pub returns-clause-one : goal.returns-clause-one
returns-clause-one c = λ clauses parts cuts circuit systems drawn. drawn.refutes

pub returns-clause-values : goal.returns-clause-values
returns-clause-values c = λ clauses parts cuts circuit systems drawn. by_the_rules clauses parts cuts circuit systems drawn c.partial_values_by_steps.ensures.unique
