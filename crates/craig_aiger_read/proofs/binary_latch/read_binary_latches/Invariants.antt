use Rattle.std.proofs.Common.{◌≡◌, ◌+◌, length, map}
use Rattle.craig_spec.specs.AigerBinary.{binary_latch_in}
use Rattle.craig_aiger_read.specs.ReadViews.{as_counts, as_latch}
use Rattle.craig_aiger_read.proofs.ReadLinesLemmas.{ReadSoFar}
use Rattle.craig_aiger_read.proofs.binary_latch.read_binary_latches.Given as goal

-- the variable is the next one behind those of the latches that were read
abbrev pub invariant-loop : goal.invariant-loop
invariant-loop l =
    (l.variable ≡ 1 + l.counts.inputs + l.counter)
    × (length l.latches.items ≡ l.counter)
    × ReadSoFar (binary_latch_in (as_counts l.counts)) l.fn.end l.counts.latches l.counter (map as_latch l.latches.items) l.text l.rest
