use Rattle.std.proofs.Common.{◌∙◌, sym, length}
use Rattle.std.proofs.lemmas.List.{length-map}
use Rattle.craig_spec.specs.Literal.{Clause}
use Rattle.craig_cnf.specs.ScriptClauses.{by_variable, named_clause, script_clauses}
use Rattle.craig_cnf.proofs.AppendingLemmas.{dimacs_appended}
use Rattle.craig_cnf.proofs.DimacsRoundTripLemmas.{script_greatest}
use Rattle.craig_cnf.proofs.dimacs.append_text.Goals as goal

pub returns-clause-text : goal.returns-clause-text
returns-clause-text c =
    dimacs_appended c.append_clauses.result c.from.result (length c.args.clauses.now) (script_clauses c.args.names.now c.args.clauses.now) c.args.out.now.items c.append_header.new.out.items c.append_clauses.new.out.items
    (c.from.ensures ∙ c.greatest_name-greatest.ensures ∙ sym (script_greatest c.args.names.now c.args.clauses.now)) (sym (length-map c.args.clauses.now (λ (d : Clause). by_variable (named_clause c.args.names.now d))))
    c.in_ok-append_header.ensures.text c.append_clauses.ensures.text
