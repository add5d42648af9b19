use Rattle.std.proofs.Common.{◌≡◌, ◌++◌}
use Rattle.craig_script.proofs.GeneratorLemmas.{end_from}
use Rattle.craig_script.proofs.generator.append_end.Given as goal

-- the clauses of the bits so far, from the highest on, are appended
abbrev pub invariant-loop-bit : goal.invariant-loop-bit
invariant-loop-bit l = l.script ≡ l.fn.script ++ end_from l.steps l.bit
