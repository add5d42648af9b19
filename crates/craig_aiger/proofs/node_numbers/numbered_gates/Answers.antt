use Rattle.std.proofs.Common.{◌≡◌, ◌∙◌, ◌++◌, ◌∷◌, [], ap, arith, sym, map, take}
use Rattle.std.specs.List.{filter_map}
use Rattle.std.proofs.lemmas.Result.{IfOk-from_err}
use Rattle.craig_aiger.specs.Layouts.{node_operands, gate_literals}
use Rattle.craig_aiger.proofs.NeededLemmas.{operands_below}
use Rattle.craig_aiger.proofs.TableLemmas.{gates-some, gates-none}
use Rattle.craig_aiger.proofs.node_numbers.numbered_gates.Goals as goal
use Rattle.craig_aiger.proofs.node_numbers.numbered_gates.Goals.{in-Some+in_ok-push, in_default}

pub edge_literal-first-requires-clause-within : goal.edge_literal-first-requires-clause-within
edge_literal-first-requires-clause-within c =
    let both = operands_below c.args.table.now c.loop-node.node-index c.node-item.result c.in-Some.operands c.requires.below c.loop-node-test.true (sym (ap node_operands c.node-item.is) ∙ sym c.gate_operands.ensures ∙ c.in-Some.is) in
    omega (arith, both.0, c.requires.lengths, c.loop-node-test.true)

pub edge_literal-second-requires-clause-within : goal.edge_literal-second-requires-clause-within
edge_literal-second-requires-clause-within c =
    let both = operands_below c.args.table.now c.loop-node.node-index c.node-item.result c.in-Some.operands c.requires.below c.loop-node-test.true (sym (ap node_operands c.node-item.is) ∙ sym c.gate_operands.ensures ∙ c.in-Some.is) in
    omega (arith, both.1, c.requires.lengths, c.loop-node-test.true)

pub loop-node-preserved : goal.loop-node-preserved
loop-node-preserved c = elim c.match-gate_operands.branch [
  | in-Some+in_ok-push w ↦
      (let gate : w.ordered_gate.result ≡ gate_literals c.args.numbers.now w.in-Some.operands = cc (w.ordered_gate.ensures, w.edge_literal-first.ensures, w.edge_literal-second.ensures) in
      ap (λ v. v.items) w.gates-is ∙ w.in_ok-push.ensures.items ∙ ap (λ l. l ++ w.ordered_gate.result ∷ []) c.loop-node.invariant ∙ ap (λ g. map (gate_literals c.args.numbers.now) (filter_map node_operands (take c.loop-node.node-index c.args.table.now)) ++ g ∷ []) gate ∙
      sym (gates-some (gate_literals c.args.numbers.now) c.args.table.now c.loop-node.node-index c.node-item.result w.in-Some.operands c.loop-node-test.true (sym (ap node_operands c.node-item.is) ∙ sym c.gate_operands.ensures ∙ w.in-Some.is)))
  | in_default w ↦ ap (λ v. v.items) w.gates-is ∙ c.loop-node.invariant ∙ sym (gates-none (gate_literals c.args.numbers.now) c.args.table.now c.loop-node.node-index c.node-item.result c.loop-node-test.true (sym (ap node_operands c.node-item.is) ∙ sym c.gate_operands.ensures ∙ w.in_default.is))
]

pub returns-in_err-push : goal.returns-in_err-push
returns-in_err-push c = IfOk-from_err _ _ c.from_residual.ensures.0
