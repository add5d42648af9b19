use Rattle.std.proofs.Common.{ℕ, ◌/◌, ◌<◌, All, length}
use Rattle.craig_spec.specs.AigerReading.{latch_use, numbered}
use Rattle.craig_aiger_read.specs.declared.latch_line.LatchLine.{LatchLine}
use Rattle.craig_aiger_read.specs.ReadViews.{as_latch}
use Rattle.craig_aiger_read.proofs.NumberingLemmas.{NumberedSoFar}
use Rattle.craig_aiger_read.proofs.variables.number_latches.Given as goal

abbrev pub invariant-loop-latch : goal.invariant-loop-latch
invariant-loop-latch l =
    NumberedSoFar l.variables.keys (λ (x : LatchLine). latch_use (as_latch x)) (λ (x : LatchLine). numbered l.variables.keys x.next) l.latches l.latch-index (l.numbered.items)
    × All (λ (n : ℕ). n / 2 < length l.variables.keys) l.numbered.items
