use Rattle.craig_aiger.specs.AsciiText.{input_symbol}
use Rattle.craig_aiger.proofs.TextLemmas.{Counted}
use Rattle.craig_aiger.proofs.text_size.input_symbols_size.Given as goal

abbrev pub invariant-loop-place : goal.invariant-loop-place
invariant-loop-place l = Counted input_symbol 0 l.inputs l.place l.size
