use Rattle.craig_top.proofs.CircuitShapeLemmas.{constant_false, gates_are_conjunctions, gates_reach_by_operands, inputs_are_variables, odd_negates, outputs_are_literals}
use Rattle.craig_top.proofs.laws.circuits.literals_of_a_circuit.Goals as goal

pub returns-clause-constant : goal.returns-clause-constant
returns-clause-constant c = constant_false

pub returns-clause-negations : goal.returns-clause-negations
returns-clause-negations c = odd_negates

pub returns-clause-inputs : goal.returns-clause-inputs
returns-clause-inputs c = inputs_are_variables

pub returns-clause-gates : goal.returns-clause-gates
returns-clause-gates c = gates_are_conjunctions

pub returns-clause-cones : goal.returns-clause-cones
returns-clause-cones c = gates_reach_by_operands

pub returns-clause-outputs : goal.returns-clause-outputs
returns-clause-outputs c = outputs_are_literals
