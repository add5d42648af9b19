use Rattle.std.proofs.Common.{take}
use Rattle.craig_aiger.specs.Appending.{IsAppended}
use Rattle.craig_aiger.specs.AsciiText.{numbered_lines, input_symbol}
use Rattle.craig_aiger.proofs.writing.append_input_symbols.Given as goal

abbrev pub invariant-loop-place : goal.invariant-loop-place
invariant-loop-place l = IsAppended l.initial.out (numbered_lines input_symbol 0 (take l.place l.inputs)) l.out
