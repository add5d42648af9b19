use Rattle.std.proofs.Common.{◌≡◌, ◌++◌, map}
use Rattle.std.specs.List.{range_with_len}
use Rattle.craig_script.specs.Generator.{in_part, start_clause}
use Rattle.craig_script.proofs.generator.append_start.Given as goal

-- the clauses of the bits so far are appended
abbrev pub invariant-loop-bit : goal.invariant-loop-bit
invariant-loop-bit l = l.script ≡ l.fn.script ++ in_part 1 (map start_clause (range_with_len 0 l.bit))
