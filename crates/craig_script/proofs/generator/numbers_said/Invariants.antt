use Rattle.std.proofs.Common.{◌≡◌, map, take}
use Rattle.craig_script.specs.Generator.{number_said}
use Rattle.craig_script.proofs.generator.numbers_said.Given as goal

-- the numbers of the literals so far
abbrev pub invariant-loop-lit : goal.invariant-loop-lit
invariant-loop-lit l = l.numbers ≡ map number_said (take l.lit-index l.lits)
