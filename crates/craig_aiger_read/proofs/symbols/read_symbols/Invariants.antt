use Rattle.std.proofs.Common.{◌≡◌, ℕ, ◌+◌, List, length}
use Rattle.craig_spec.specs.AigerReading.{Symbol, symbol_in}
use Rattle.craig_aiger_read.specs.ReadLines.{lines_at}
use Rattle.craig_aiger_read.specs.ReadNames.{HasNames, symbol_count}
use Rattle.craig_aiger_read.specs.ReadViews.{as_counts}
use Rattle.craig_aiger_read.proofs.ReadLinesLemmas.{ReadSoFar}
use Rattle.craig_aiger_read.proofs.symbols.read_symbols.Given as goal

-- some symbols were read and gave the names
abbrev pub invariant-loop-line : goal.invariant-loop-line
invariant-loop-line l =
    (symbols : List Symbol) × (i : ℕ)
    × ReadSoFar (symbol_in (as_counts l.fn.counts)) l.fn.end (symbol_count (lines_at l.fn.end l.text)) i symbols l.text l.rest
    × HasNames (as_counts l.fn.counts) symbols l.names
    × (i + symbol_count (lines_at l.fn.end l.rest) ≡ symbol_count (lines_at l.fn.end l.text))

abbrev pub decreases-loop-line : goal.decreases-loop-line
decreases-loop-line l = length l.rest
