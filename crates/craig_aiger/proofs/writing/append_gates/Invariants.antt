use Rattle.std.proofs.Common.{take}
use Rattle.craig_aiger.specs.Appending.{IsAppended}
use Rattle.craig_aiger.specs.AsciiText.{numbered_lines, gate_line}
use Rattle.craig_aiger.proofs.writing.append_gates.Given as goal

abbrev pub invariant-loop-place : goal.invariant-loop-place
invariant-loop-place l = IsAppended l.initial.out (numbered_lines gate_line l.first (take l.place l.gates)) l.out
