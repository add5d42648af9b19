use Rattle.craig_top.proofs.CircuitShapeLemmas.{all_are_used, gates_stand_once, inputs_rise, operands_are_ordered}
use Rattle.craig_top.proofs.laws.circuits.strict_circuits.Goals as goal

pub returns-clause-inputs : goal.returns-clause-inputs
returns-clause-inputs c = inputs_rise

pub returns-clause-operands : goal.returns-clause-operands
returns-clause-operands c = operands_are_ordered

pub returns-clause-gates : goal.returns-clause-gates
returns-clause-gates c = gates_stand_once

pub returns-clause-used : goal.returns-clause-used
returns-clause-used c = all_are_used
