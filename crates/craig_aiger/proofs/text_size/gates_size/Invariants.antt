use Rattle.craig_aiger.specs.AsciiText.{gate_line}
use Rattle.craig_aiger.proofs.TextLemmas.{Counted}
use Rattle.craig_aiger.proofs.text_size.gates_size.Given as goal

abbrev pub invariant-loop-place : goal.invariant-loop-place
invariant-loop-place l = Counted gate_line l.first l.gates l.place l.size
