use Rattle.std.proofs.Common.{◌≡◌, ◌+◌, false, [], ◌∷◌, ◌++◌, length, take, sym, ap, subst, ◌∙◌}
use Rattle.craig_aig.specs.Arenas.{IsPlaced}
use Rattle.craig_aig.specs.Values.{node_value, true_variables, values}
use Rattle.craig_aig.specs.declared.node.Node.TheVariants.{Constant}
use Rattle.craig_aig.proofs.ValuesLemmas.{values-constant, values-more, length-values, IsPlaced-behind}
use Rattle.craig_aig.proofs.value.values_of.Goals as goal

pub loop-node-init : goal.loop-node-init
loop-node-init c = c.in_ok-push.ensures.items ∙ ap (λ l. l ++ false ∷ []) c.new-values.ensures.items ∙ sym (values-constant (true_variables c.args.assignment.now))

pub value_of-value-requires : goal.value_of-value-requires
value_of-value-requires c =
    let count : length c.as_slice.result.now ≡ c.loop-node.node-index + 1 =
    ap length (c.as_slice.ensures.value ∙ c.loop-node.invariant) ∙ length-values (true_variables c.args.assignment.now) c.args.nodes.now c.loop-node.node-index c.loop-node.auto.node-index-end in
    subst (λ k. IsPlaced k c.node-item.result) (sym count) (IsPlaced-behind c.args.nodes.now c.loop-node.node-index c.node-item.result c.requires c.loop-node-test.true c.node-item.is)

pub loop-node-preserved : goal.loop-node-preserved
loop-node-preserved c =
    let s = true_variables c.args.assignment.now in
    let before = c.as_slice.ensures.value ∙ c.loop-node.invariant in
    c.in_ok-push-2.ensures.items ∙ ap (λ l. l ++ c.value_of-value.result ∷ []) c.loop-node.invariant
    ∙ ap (λ b. values s (Constant ∷ take c.loop-node.node-index c.args.nodes.now) ++ b ∷ []) (c.value_of-value.ensures ∙ ap (λ l. node_value s l c.node-item.result) before)
    ∙ sym (values-more s c.args.nodes.now c.loop-node.node-index c.node-item.result c.loop-node-test.true c.node-item.is)
