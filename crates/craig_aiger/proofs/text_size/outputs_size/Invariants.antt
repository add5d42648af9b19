use Rattle.craig_aiger.specs.AsciiText.{output_line}
use Rattle.craig_aiger.proofs.TextLemmas.{Counted}
use Rattle.craig_aiger.proofs.text_size.outputs_size.Given as goal

abbrev pub invariant-loop-place : goal.invariant-loop-place
invariant-loop-place l = Counted output_line 0 l.outputs l.place l.size
