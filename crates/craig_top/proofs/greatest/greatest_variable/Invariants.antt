use Rattle.std.proofs.Common.{◌≡◌, map, take}
use Rattle.craig_spec.specs.DimacsText.{greatest_of_clause}
use Rattle.craig_top.specs.GivenState.{script_literal}
use Rattle.craig_top.proofs.greatest.greatest_variable.Given as goal

-- the greatest variable of the literals so far
abbrev pub invariant-loop-literal : goal.invariant-loop-literal
invariant-loop-literal l = l.greatest ≡ greatest_of_clause (map script_literal (take l.literal-index l.literals))
