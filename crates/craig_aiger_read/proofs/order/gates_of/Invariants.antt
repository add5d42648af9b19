use Rattle.std.proofs.Common.{◌≡◌, map, take}
use Rattle.craig_aiger_read.specs.declared.order.Ranked.{Ranked}
use Rattle.craig_aiger_read.proofs.order.gates_of.Given as goal

abbrev pub invariant-loop-ranked : goal.invariant-loop-ranked
invariant-loop-ranked l = l.gates.items ≡ map (λ (r : Ranked). r.gate) (take l.ranked-index l.fn.ranked)
