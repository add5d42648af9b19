use Rattle.std.proofs.Common.{◌≡◌, ◌≤◌, All, map, take, get_or, vec_len}
use Rattle.std.specs.List.{filter_map}
use Rattle.craig_aiger.specs.Layouts.{node_variable}
use Rattle.craig_aiger.proofs.script_inputs.names_in.Given as goal

abbrev pub invariant-loop-node : goal.invariant-loop-node
invariant-loop-node l = record {
  names_are : l.inputs.items ≡ map (λ i. get_or l.names i 0) (filter_map node_variable (take l.node-index l.table));
  variables : All (λ x. (1 ≤ x) × (x ≤ 2147483647)) l.inputs.items;
  bound : vec_len l.inputs ≤ l.node-index;
}
