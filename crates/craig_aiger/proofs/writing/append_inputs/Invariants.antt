use Rattle.std.proofs.Common.{take}
use Rattle.craig_aiger.specs.Appending.{IsAppended}
use Rattle.craig_aiger.specs.AsciiText.{numbered_lines, input_line}
use Rattle.craig_aiger.proofs.writing.append_inputs.Given as goal

abbrev pub invariant-loop-place : goal.invariant-loop-place
invariant-loop-place l = IsAppended l.initial.out (numbered_lines input_line 1 (take l.place l.inputs)) l.out
