use Rattle.std.proofs.Common.{◌≡◌, ◌<◌, ◌^◌, All, map, take}
use Rattle.craig_aiger.specs.Layouts.{edge_literal}
use Rattle.craig_aiger.proofs.node_numbers.numbered_outputs.Given as goal

abbrev pub invariant-loop-output : goal.invariant-loop-output
invariant-loop-output l = record {
  value : l.numbered.items ≡ map (λ o. (o.0, edge_literal l.numbers o.1)) (take l.output-index l.outputs);
  cuts : All (λ o. o.0.cut < 2 ^ 32) l.numbered.items;
}
