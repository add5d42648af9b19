use Rattle.std.proofs.Common.{◌≡◌, take}
use Rattle.craig_cnf.specs.ScriptClauses.{named_clause}
use Rattle.craig_cnf.proofs.script_clause.named_literals.Given as goal

-- the literals so far are named
abbrev pub invariant-loop-literal : goal.invariant-loop-literal
invariant-loop-literal l = l.over_script.items ≡ named_clause l.names (take l.literal-index l.literals)
