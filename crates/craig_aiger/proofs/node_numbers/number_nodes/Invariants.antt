use Rattle.std.proofs.Common.{◌≡◌, ◌<◌, ◌≤◌, ◌+◌, ◌^◌, All, length, take}
use Rattle.std.specs.List.{filter_map}
use Rattle.craig_aiger.specs.Layouts.{node_operands}
use Rattle.craig_aiger.proofs.TableLemmas.{Numbered}
use Rattle.craig_aiger.proofs.node_numbers.number_nodes.Given as goal

abbrev pub invariant-loop-node : goal.invariant-loop-node
invariant-loop-node l = record {
  numbered : Numbered l.names l.inputs l.table l.numbers.items l.node-index;
  small : All (λ n. n < 2 ^ 43) l.numbers.items;
  taken : l.taken ≡ 1 + length l.inputs + length (filter_map node_operands (take l.node-index l.table));
  few : l.taken ≤ 1 + length l.inputs + l.node-index;
}
