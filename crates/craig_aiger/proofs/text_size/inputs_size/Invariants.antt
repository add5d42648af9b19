use Rattle.craig_aiger.specs.AsciiText.{input_line}
use Rattle.craig_aiger.proofs.TextLemmas.{Counted}
use Rattle.craig_aiger.proofs.text_size.inputs_size.Given as goal

abbrev pub invariant-loop-place : goal.invariant-loop-place
invariant-loop-place l = Counted input_line 1 l.inputs l.place l.size
