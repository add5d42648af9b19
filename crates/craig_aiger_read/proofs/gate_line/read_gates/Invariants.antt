use Rattle.std.proofs.Common.{◌≡◌, ◌++◌, map}
use Rattle.craig_spec.specs.AigerReading.{gate_in}
use Rattle.craig_aiger_read.specs.ReadViews.{as_counts, as_gate, gate_variables}
use Rattle.craig_aiger_read.proofs.ReadLinesLemmas.{ReadSoFar}
use Rattle.craig_aiger_read.proofs.gate_line.read_gates.Given as goal

-- the keys are those before and the variables of what was read
abbrev pub invariant-loop : goal.invariant-loop
invariant-loop l =
    (l.variables.keys ≡ l.fn.variables.keys ++ gate_variables (map as_gate l.gates.items))
    × ReadSoFar (gate_in (as_counts l.counts) l.fn.variables.keys) l.fn.end l.counts.gates l.counter (map as_gate l.gates.items) l.text l.rest
