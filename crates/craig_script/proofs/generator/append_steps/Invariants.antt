use Rattle.std.proofs.Common.{◌≡◌, ◌++◌}
use Rattle.std.specs.List.{flat_map, range_with_len}
use Rattle.craig_script.specs.Generator.{step_commands}
use Rattle.craig_script.proofs.generator.append_steps.Given as goal

-- the clauses of the steps so far are appended
abbrev pub invariant-loop-before : goal.invariant-loop-before
invariant-loop-before l = l.script ≡ l.fn.script ++ flat_map step_commands (range_with_len 0 l.before)
