use Rattle.std.proofs.Common.{subst, sym, ◌∙◌}
use Rattle.craig_base.specs.Clauses.{IsNormal}
use Rattle.craig_cnf.proofs.dimacs.append_clauses.Goals as goal

pub script_clause-requires-clause-normal : goal.script_clause-requires-clause-normal
script_clause-requires-clause-normal c = subst IsNormal (sym (c.as_slice.ensures ∙ c.clause-item.is)) (c.requires.normal c.loop-clause.clause-index c.clause-item.result c.loop-clause-test.true)
