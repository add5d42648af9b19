use Rattle.craig_base.proofs.ValuesLemmas.{variable_value-values}
use Rattle.craig_base.proofs.laws.values_are_an_assignment.Goals as goal

pub returns : goal.returns
returns c = variable_value-values
