use Rattle.craig_aig.proofs.FunctionLemmas.{cone-node, edge_value-node}
use Rattle.craig_aig.proofs.laws.nodes_by_operands.Goals as goal

pub returns-clause-value : goal.returns-clause-value
returns-clause-value c = edge_value-node

pub returns-clause-cone : goal.returns-clause-cone
returns-clause-cone c = cone-node
