use Rattle.craig_top.proofs.ListedLiteralsLemmas.{each_has_one, lists_each, makes_model, true_together, variables_rise}
use Rattle.craig_top.proofs.laws.models.literals_of_a_model.Goals as goal

pub returns-clause-each : goal.returns-clause-each
returns-clause-each c = lists_each

pub returns-clause-rising : goal.returns-clause-rising
returns-clause-rising c = variables_rise

pub returns-clause-in_each_clause : goal.returns-clause-in_each_clause
returns-clause-in_each_clause c = each_has_one

pub returns-clause-model : goal.returns-clause-model
returns-clause-model c = makes_model

pub returns-clause-together : goal.returns-clause-together
returns-clause-together c = true_together
