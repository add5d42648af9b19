use Rattle.std.proofs.Common.{◌≡◌, ◌∷◌, take}
use Rattle.craig_aig.specs.Values.{true_variables, values}
use Rattle.craig_aig.specs.declared.node.Node.TheVariants.{Constant}
use Rattle.craig_aig.proofs.value.values_of.Given as goal

abbrev pub invariant-loop-node : goal.invariant-loop-node
invariant-loop-node l = l.values.items ≡ values (true_variables l.assignment) (Constant ∷ take l.node-index l.nodes)
