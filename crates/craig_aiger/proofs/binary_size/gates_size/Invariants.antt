use Rattle.craig_aiger.specs.BinaryText.{gate_groups}
use Rattle.craig_aiger.proofs.TextLemmas.{Counted}
use Rattle.craig_aiger.proofs.binary_size.gates_size.Given as goal

abbrev pub invariant-loop-place : goal.invariant-loop-place
invariant-loop-place l = Counted gate_groups l.first l.gates l.place l.size
