use Rattle.craig_aiger.specs.AsciiText.{output_symbol}
use Rattle.craig_aiger.proofs.TextLemmas.{Counted}
use Rattle.craig_aiger.proofs.text_size.output_symbols_size.Given as goal

abbrev pub invariant-loop-place : goal.invariant-loop-place
invariant-loop-place l = Counted output_symbol 0 l.outputs l.place l.size
