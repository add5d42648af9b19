use Rattle.std.proofs.Common.{map}
use Rattle.craig_spec.specs.AigerReading.{root_in}
use Rattle.craig_aiger_read.specs.ReadViews.{as_counts, as_root}
use Rattle.craig_aiger_read.proofs.ReadLinesLemmas.{ReadSoFar}
use Rattle.craig_aiger_read.proofs.root_line.read_roots.Given as goal

abbrev pub invariant-loop : goal.invariant-loop
invariant-loop l = ReadSoFar (root_in (as_counts l.counts)) l.fn.end l.fn.count l.counter (map as_root l.roots.items) l.text l.rest
