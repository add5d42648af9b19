use Rattle.std.proofs.Common.{take}
use Rattle.craig_aiger.specs.Appending.{IsAppended}
use Rattle.craig_aiger.specs.AsciiText.{numbered_lines}
use Rattle.craig_aiger.specs.BinaryText.{gate_groups}
use Rattle.craig_aiger.proofs.binary_writing.append_gates.Given as goal

abbrev pub invariant-loop-place : goal.invariant-loop-place
invariant-loop-place l = IsAppended l.initial.out (numbered_lines gate_groups l.first (take l.place l.gates)) l.out
