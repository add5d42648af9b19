use Rattle.std.proofs.Common.{◌≡◌, ◌++◌, map}
use Rattle.craig_spec.specs.AigerReading.{latch_in}
use Rattle.craig_aiger_read.specs.ReadViews.{as_counts, as_latch, latch_variables}
use Rattle.craig_aiger_read.proofs.ReadLinesLemmas.{ReadSoFar}
use Rattle.craig_aiger_read.proofs.latch_line.read_latches.Given as goal

-- the keys are those before and the variables of what was read
abbrev pub invariant-loop : goal.invariant-loop
invariant-loop l =
    (l.variables.keys ≡ l.fn.variables.keys ++ latch_variables (map as_latch l.latches.items))
    × ReadSoFar (latch_in (as_counts l.counts) l.fn.variables.keys) l.fn.end l.counts.latches l.counter (map as_latch l.latches.items) l.text l.rest
