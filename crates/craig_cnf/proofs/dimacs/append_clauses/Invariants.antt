use Rattle.std.proofs.Common.{◌≡◌, ◌++◌, take}
use Rattle.std.specs.List.{flat_map}
use Rattle.craig_spec.specs.DimacsText.{clause_line}
use Rattle.craig_cnf.specs.ScriptClauses.{script_clauses}
use Rattle.craig_cnf.proofs.dimacs.append_clauses.Given as goal

-- the clauses so far are appended
abbrev pub invariant-loop-clause : goal.invariant-loop-clause
invariant-loop-clause l = l.out.items ≡ l.fn.out.items ++ flat_map clause_line (script_clauses l.names (take l.clause-index l.clauses))
