use Rattle.std.proofs.Common.{◌≡◌, ◌+◌, ◌-◌, ◌∷◌, map, not}
use Rattle.std.specs.List.{filter, range_with_len}
use Rattle.craig_script.specs.Generator.{end_bound, has_bit, holds, state_bit}
use Rattle.craig_script.proofs.generator.end_clause.Given as goal

-- the bit, and the higher ones so far that the bound lacks
abbrev pub invariant-loop-above : goal.invariant-loop-above
invariant-loop-above l = l.lits ≡ map (λ i. holds (state_bit l.steps i)) (l.bit ∷ filter (λ i. not (has_bit (end_bound l.steps) i)) (range_with_len (l.bit + 1) (l.above - (l.bit + 1))))
