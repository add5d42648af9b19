use Rattle.std.proofs.Common.{◌<◌, ◌≡◌, ◌∙◌, ◌+◌, ap, arith, get_or, length, subst, ℕ}
use Rattle.craig_cnf.specs.LayoutClauses.{text_literal}
use Rattle.craig_cnf.proofs.AppendingLemmas.{gates_more}
use Rattle.craig_cnf.proofs.GateOperandLemmas.{gate_at}
use Rattle.craig_cnf.proofs.tseitin.append_gates.Goals as goal

pub text_literal-left-requires-clause-some : goal.text_literal-left-requires-clause-some
text_literal-left-requires-clause-some c = (gate_at c.args.layout.now c.gates-gates.ensures.is_writable c.gates-gates.result.now c.loop-place.place c.gates-gates.ensures.value c.loop-place-test.true).left_some

pub text_literal-left-requires-clause-small : goal.text_literal-left-requires-clause-small
text_literal-left-requires-clause-small c = (gate_at c.args.layout.now c.gates-gates.ensures.is_writable c.gates-gates.result.now c.loop-place.place c.gates-gates.ensures.value c.loop-place-test.true).left_small

pub text_literal-right-requires-clause-some : goal.text_literal-right-requires-clause-some
text_literal-right-requires-clause-some c = (gate_at c.args.layout.now c.gates-gates.ensures.is_writable c.gates-gates.result.now c.loop-place.place c.gates-gates.ensures.value c.loop-place-test.true).right_some

pub text_literal-right-requires-clause-small : goal.text_literal-right-requires-clause-small
text_literal-right-requires-clause-small c = (gate_at c.args.layout.now c.gates-gates.ensures.is_writable c.gates-gates.result.now c.loop-place.place c.gates-gates.ensures.value c.loop-place-test.true).right_small

pub loop-place-preserved : goal.loop-place-preserved
loop-place-preserved c =
    let gates = c.gates-gates.ensures.value in
    let inputs = c.inputs-inputs.ensures.value in
    let left : c.text_literal-left.result ≡ text_literal c.args.top c.args.layout.now.inputs (get_or c.args.layout.now.gates c.loop-place.place (0, 0)).0 =
    c.text_literal-left.ensures ∙ ap (λ xs. text_literal c.args.top xs (get_or c.gates-gates.result.now c.loop-place.place (0, 0)).0) inputs ∙ ap (λ gs. text_literal c.args.top c.args.layout.now.inputs (get_or {A = ℕ × ℕ} gs c.loop-place.place (0, 0)).0) gates in
    let right : c.text_literal-right.result ≡ text_literal c.args.top c.args.layout.now.inputs (get_or c.args.layout.now.gates c.loop-place.place (0, 0)).1 =
    c.text_literal-right.ensures ∙ ap (λ xs. text_literal c.args.top xs (get_or c.gates-gates.result.now c.loop-place.place (0, 0)).1) inputs ∙ ap (λ gs. text_literal c.args.top c.args.layout.now.inputs (get_or {A = ℕ × ℕ} gs c.loop-place.place (0, 0)).1) gates in
    gates_more c.args.top (c.from.result + 1 + c.loop-place.place) c.args.layout.now.inputs c.args.layout.now.gates c.loop-place.place (0, 0) c.text_literal-left.result c.text_literal-right.result c.args.out.now.items c.loop-place.out.items c.append_gate.new.out.items
    (subst (λ gs. c.loop-place.place < length gs) gates c.loop-place-test.true) (omega (arith, c.from.ensures)) left right c.loop-place.invariant c.in_ok-append_gate.ensures.text
