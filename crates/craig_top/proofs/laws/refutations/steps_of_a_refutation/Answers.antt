use Rattle.craig_top.proofs.DrawnStepsLemmas.{derived_are_resolved, derived_follow, end_in_the_empty_clause, ids_rise, no_model, originals_are_clauses, originals_are_normal}
use Rattle.craig_top.proofs.laws.refutations.steps_of_a_refutation.Goals as goal

pub returns-clause-rising : goal.returns-clause-rising
returns-clause-rising c = ids_rise

pub returns-clause-originals : goal.returns-clause-originals
returns-clause-originals c = originals_are_clauses

pub returns-clause-normal : goal.returns-clause-normal
returns-clause-normal c = originals_are_normal

pub returns-clause-derived : goal.returns-clause-derived
returns-clause-derived c = derived_are_resolved

pub returns-clause-follow : goal.returns-clause-follow
returns-clause-follow c = λ clauses steps root refutes. derived_follow clauses steps root refutes c.chain_follows.ensures.follows

pub returns-clause-last : goal.returns-clause-last
returns-clause-last c = end_in_the_empty_clause

pub returns-clause-no_model : goal.returns-clause-no_model
returns-clause-no_model c = λ clauses steps root refutes. no_model clauses steps root refutes (c.told_clauses_follow.ensures.follows _)
