use Rattle.std.proofs.Common.{◌≡◌, take}
use Rattle.craig_spec.specs.DimacsText.{greatest_of_clause}
use Rattle.craig_cnf.specs.ScriptClauses.{named_clause}
use Rattle.craig_cnf.proofs.greatest.greatest_name_in.Given as goal

-- the greatest name of the literals so far
abbrev pub invariant-loop-literal : goal.invariant-loop-literal
invariant-loop-literal l = l.greatest ≡ greatest_of_clause (named_clause l.names (take l.literal-index l.literals))
