use Rattle.std.proofs.Common.{◌+◌, ◌≡◌, ◌∙◌, ap, arith, length, map, max, sym}
use Rattle.std.proofs.lemmas.List.{length-map}
use Rattle.craig_spec.specs.CircuitCnf.{greatest_of_roots}
use Rattle.craig_spec.specs.CircuitCnfText.{gates_clauses}
use Rattle.craig_spec.specs.DimacsText.{greatest_of_clauses}
use Rattle.craig_cnf.specs.LayoutClauses.{named_root, text_operands}
use Rattle.craig_cnf.proofs.LayoutReadingLemmas.{are_before}
use Rattle.craig_cnf.proofs.OccurrenceLemmas.{IsLastGate, greatest-gates_clauses}
use Rattle.craig_cnf.proofs.tseitin.greatest_variable.Goals as goal
use Rattle.craig_cnf.proofs.tseitin.greatest_variable.Goals.{then-gates-eq0, else-gates-eq0}

pub returns : goal.returns
returns c =
    let gates = map (text_operands c.args.top c.args.layout.now.inputs) c.args.layout.now.gates in
    let count : length gates ≡ length c.gates.result.now = length-map c.args.layout.now.gates (text_operands c.args.top c.args.layout.now.inputs) ∙ ap length (sym c.gates.ensures.value) in
    let h : IsLastGate (c.args.top + 1) (length gates) (greatest_of_clauses (gates_clauses (c.args.top + 1) gates)) = greatest-gates_clauses (c.args.top + 1) gates (are_before c.args.top c.args.layout.now c.gates.ensures.is_writable c.requires) in
    let last : c.if-gates-eq0.last ≡ greatest_of_clauses (gates_clauses (c.args.top + 1) gates) =
    elim c.if-gates-eq0.branch [
      | then-gates-eq0 w ↦ (let z : greatest_of_clauses (gates_clauses (c.args.top + 1) gates) ≡ 0 = h.none (omega (arith, count)) in omega (arith, z))
      | else-gates-eq0 w ↦ (let z : greatest_of_clauses (gates_clauses (c.args.top + 1) gates) + 1 ≡ (c.args.top + 1) + length gates = h.last (omega (arith, count)) in omega (arith, z, count))
    ] in
    c.max.ensures ∙ ap (λ n. max n c.if-gates-eq0.last) c.greatest_root.ensures ∙ ap (max (greatest_of_roots (map (named_root c.args.top c.args.layout.now.inputs) c.args.layout.now.outputs))) last
