use Rattle.std.proofs.Common.{◌≡◌, ◌∷◌, drop}
use Rattle.craig_spec.specs.AigerReading.{input_in}
use Rattle.craig_aiger_read.specs.ReadViews.{as_counts}
use Rattle.craig_aiger_read.proofs.ReadLinesLemmas.{ReadSoFar}
use Rattle.craig_aiger_read.proofs.input_line.read_inputs.Given as goal

-- the keys are the constant's variable and those that were read
abbrev pub invariant-loop : goal.invariant-loop
invariant-loop l =
    (l.variables.keys ≡ 0 ∷ drop 1 l.variables.keys)
    × ReadSoFar (input_in (as_counts l.counts)) l.fn.end l.counts.inputs l.counter (drop 1 l.variables.keys) l.text l.rest
