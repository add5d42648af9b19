use Rattle.std.proofs.Common.{◌≡◌, map, take}
use Rattle.craig_spec.specs.DimacsText.{greatest_of_clauses}
use Rattle.craig_cnf.specs.ScriptClauses.{named_clause}
use Rattle.craig_cnf.proofs.greatest.greatest_name.Given as goal

-- the greatest name in the clauses so far
abbrev pub invariant-loop-clause : goal.invariant-loop-clause
invariant-loop-clause l = l.greatest ≡ greatest_of_clauses (map (named_clause l.names) (take l.clause-index l.clauses))
