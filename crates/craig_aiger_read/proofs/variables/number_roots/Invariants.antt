use Rattle.std.proofs.Common.{ℕ, ◌/◌, ◌<◌, All, length}
use Rattle.craig_spec.specs.AigerReading.{root_use, numbered}
use Rattle.craig_aiger_read.specs.declared.root_line.RootLine.{RootLine}
use Rattle.craig_aiger_read.specs.ReadViews.{as_root}
use Rattle.craig_aiger_read.proofs.NumberingLemmas.{NumberedSoFar}
use Rattle.craig_aiger_read.proofs.variables.number_roots.Given as goal

abbrev pub invariant-loop-root : goal.invariant-loop-root
invariant-loop-root l =
    NumberedSoFar l.variables.keys (λ (r : RootLine). root_use (as_root r)) (λ (r : RootLine). numbered l.variables.keys r.literal) l.roots l.root-index (l.numbered.items)
    × All (λ (n : ℕ). n / 2 < length l.variables.keys) l.numbered.items
