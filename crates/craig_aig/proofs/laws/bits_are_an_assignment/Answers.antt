use Rattle.craig_aig.proofs.TrueVariablesLemmas.{variable_value-true_variables}
use Rattle.craig_aig.proofs.laws.bits_are_an_assignment.Goals as goal

pub returns : goal.returns
returns c = variable_value-true_variables
