use Rattle.std.proofs.Common.{◌≡◌, ◌+◌, ◌-◌, ◌++◌}
use Rattle.std.specs.List.{flat_map, range_with_len}
use Rattle.craig_script.specs.Generator.{in_part, inner_bit}
use Rattle.craig_script.proofs.generator.append_inner_bits.Given as goal

-- the clauses of the bits so far are appended
abbrev pub invariant-loop-bit : goal.invariant-loop-bit
invariant-loop-bit l = l.script ≡ l.fn.script ++ in_part (l.before + 1) (flat_map (inner_bit l.before) (range_with_len 1 (l.bit - 1)))
