use Rattle.std.proofs.Common.{◌≤◌, All, subst, List, ℕ, ◌∙◌, ap, arith, sym, [], ◌∷◌, ◌++◌, vec_len}
use Rattle.std.specs.Option.{option_map}
use Rattle.std.proofs.lemmas.Result.{IfOk-from_err}
use Rattle.craig_base.specs.declared.variable.Var.{Var}
use Rattle.craig_aiger.specs.Layouts.{node_variable}
use Rattle.craig_aiger.proofs.TableLemmas.{All-more, named_at, names-some, names-none}
use Rattle.craig_aiger.proofs.script_inputs.names_in.Goals as goal
use Rattle.craig_aiger.proofs.script_inputs.names_in.Goals.{in-Some+in_ok-push, in_default}

pub name-name-requires : goal.name-name-requires
name-name-requires c = named_at c.args.names.now c.args.table.now c.loop-node.node-index c.node-item.result c.in-Some.var.0 c.requires c.loop-node-test.true (sym (ap node_variable c.node-item.is) ∙ c.node_input.ensures ∙ ap (option_map (λ (v : Var). v.0)) c.in-Some.is)

pub returns-in_err-push-clause-names : goal.returns-in_err-push-clause-names
returns-in_err-push-clause-names c = IfOk-from_err _ _ c.from_residual.ensures.0

pub returns-in_err-push-clause-variables : goal.returns-in_err-push-clause-variables
returns-in_err-push-clause-variables c = IfOk-from_err _ _ c.from_residual.ensures.0

pub returns-in_err-push-clause-bound : goal.returns-in_err-push-clause-bound
returns-in_err-push-clause-bound c = IfOk-from_err _ _ c.from_residual.ensures.0

pub loop-node-preserved : goal.loop-node-preserved
loop-node-preserved c = elim c.match-node_input.branch [
  | in-Some+in_ok-push w ↦ record {
    names_are = ap (λ v. v.items) w.inputs-is ∙ w.in_ok-push.ensures.items ∙ ap (λ l. l ++ w.name-name.result ∷ []) c.loop-node.invariant.names_are ∙ sym (names-some c.args.names.now c.args.table.now c.loop-node.node-index c.node-item.result w.in-Some.var.0 w.name-name.result c.loop-node-test.true (sym (ap node_variable c.node-item.is) ∙ c.node_input.ensures ∙ ap (option_map (λ (v : Var). v.0)) w.in-Some.is) w.name-name.ensures.value);
    variables = All-more (λ x. (1 ≤ x) × (x ≤ 2147483647)) c.loop-node.inputs.items _ w.name-name.result c.loop-node.invariant.variables (w.name-name.ensures.low, w.name-name.ensures.high) (ap (λ v. v.items) w.inputs-is ∙ w.in_ok-push.ensures.items);
    bound = omega (arith, ap vec_len w.inputs-is, w.in_ok-push.ensures.len, c.loop-node.invariant.bound);
  }
  | in_default w ↦ record {
    names_are = ap (λ v. v.items) w.inputs-is ∙ c.loop-node.invariant.names_are ∙ sym (names-none c.args.names.now c.args.table.now c.loop-node.node-index c.node-item.result c.loop-node-test.true (sym (ap node_variable c.node-item.is) ∙ c.node_input.ensures ∙ ap (option_map (λ (v : Var). v.0)) w.in_default.is));
    variables = subst (λ (l : List ℕ). All (λ x. (1 ≤ x) × (x ≤ 2147483647)) l) (sym (ap (λ v. v.items) w.inputs-is)) c.loop-node.invariant.variables;
    bound = omega (arith, ap vec_len w.inputs-is, c.loop-node.invariant.bound);
  }
]
