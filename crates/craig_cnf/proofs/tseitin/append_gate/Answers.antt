use Rattle.std.proofs.Common.{◌∷◌, [], ◌∙◌, ap, false}
use Rattle.craig_spec.specs.Literal.{negation}
use Rattle.craig_cnf.proofs.AppendingLemmas.{gate_appended}
use Rattle.craig_cnf.proofs.tseitin.append_gate.Goals as goal

pub returns-clause-text : goal.returns-clause-text
returns-clause-text c =
    gate_appended c.append_clause-3.result c.args.gate (record { left = c.args.left; right = c.args.right })
    (c.not.result ∷ (c.args.left ∷ [])) (c.not-2.result ∷ (c.args.right ∷ [])) (c.new-gate.result ∷ (c.not-3.result ∷ (c.not-4.result ∷ [])))
    c.args.out.now.items c.append_clause.new.out.items c.append_clause-2.new.out.items c.append_clause-3.new.out.items
    (ap (λ l. l ∷ (c.args.left ∷ [])) (c.not.ensures ∙ ap negation c.new-gate.ensures))
    (ap (λ l. l ∷ (c.args.right ∷ [])) (c.not-2.ensures ∙ ap negation c.new-gate.ensures))
    (ap (λ l. l ∷ (c.not-3.result ∷ (c.not-4.result ∷ []))) c.new-gate.ensures ∙ ap (λ l. record { var = c.args.gate; negated = false } ∷ (l ∷ (c.not-4.result ∷ []))) c.not-3.ensures ∙ ap (λ l. record { var = c.args.gate; negated = false } ∷ (negation c.args.left ∷ (l ∷ []))) c.not-4.ensures)
    c.in_ok-append_clause.ensures.text c.in_ok-append_clause-2.ensures.text c.append_clause-3.ensures.text
