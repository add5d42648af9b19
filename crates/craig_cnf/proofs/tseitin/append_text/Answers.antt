use Rattle.std.proofs.Common.{◌+◌, ◌*◌, arith, length, ap, map}
use Rattle.std.proofs.lemmas.List.{length-map}
use Rattle.craig_cnf.specs.LayoutClauses.{layout_clauses, text_operands}
use Rattle.craig_cnf.proofs.AppendingLemmas.{cnf_appended}
use Rattle.craig_cnf.proofs.OccurrenceLemmas.{length-gates_clauses}
use Rattle.craig_cnf.proofs.tseitin.append_text.Goals as goal

pub returns-clause-text : goal.returns-clause-text
returns-clause-text c =
    cnf_appended c.append_gates.result c.greatest_variable.result (3 * length c.gates.result.now) (layout_clauses c.args.top c.args.layout.now) c.args.out.now.items c.append_outputs.new.out.items c.append_header.new.out.items c.append_gates.new.out.items
    c.greatest_variable.ensures
    (omega (arith, length-gates_clauses (c.args.top + 1) (map (text_operands c.args.top c.args.layout.now.inputs) c.args.layout.now.gates), length-map c.args.layout.now.gates (text_operands c.args.top c.args.layout.now.inputs), ap length c.gates.ensures.value))
    c.in_ok-append_outputs.ensures.text c.in_ok-append_header.ensures.text c.append_gates.ensures.text
