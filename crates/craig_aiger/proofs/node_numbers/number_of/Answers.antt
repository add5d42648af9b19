use Rattle.std.proofs.Common.{Contains, subst, sym, ◌∙◌, ap}
use Rattle.std.specs.Option.{is_some}
use Rattle.std.proofs.lemmas.Option.{get_or_from_slice_get}
use Rattle.craig_aiger.proofs.TableLemmas.{larger-small, none-small, numbered_input, numbered_none, numbered_some}
use Rattle.craig_aiger.proofs.node_numbers.number_of.Goals as goal

pub name-name-requires : goal.name-name-requires
name-name-requires c = (c.requires.named _ c.in-Some.ensures).0

pub input_number-requires-clause-rising : goal.input_number-requires-clause-rising
input_number-requires-clause-rising c = c.requires.rising

pub input_number-requires-clause-there : goal.input_number-requires-clause-there
input_number-requires-clause-there c =
    subst (Contains c.args.inputs.now) (get_or_from_slice_get c.args.names.now c.in-Some.var.0 c.name-name.result 0 c.name-name.ensures.value) (c.requires.named _ c.in-Some.ensures).1

pub input_number-requires-clause-bound : goal.input_number-requires-clause-bound
input_number-requires-clause-bound c = c.requires.few

pub returns-in-Some-clause-number : goal.returns-in-Some-clause-number
returns-in-Some-clause-number c = λ before _. numbered_input c.args.names.now c.args.inputs.now before c.args.node.now _ _ _ c.in-Some.ensures c.name-name.ensures.value (c.requires.named _ c.in-Some.ensures).0
    c.input_number.ensures.number

pub returns-in-Some-clause-small : goal.returns-in-Some-clause-small
returns-in-Some-clause-small c = larger-small _ c.input_number.ensures.bound

pub returns-then-is_some-clause-number : goal.returns-then-is_some-clause-number
returns-then-is_some-clause-number c = λ before taken.
    numbered_some c.args.names.now c.args.inputs.now before c.args.node.now _ (ap is_some (sym c.gate_operands.ensures) ∙ sym c.if-is_some.ensures) taken

pub returns-then-is_some-clause-small : goal.returns-then-is_some-clause-small
returns-then-is_some-clause-small c = larger-small _ c.requires.taken

pub returns-else-is_some-clause-number : goal.returns-else-is_some-clause-number
returns-else-is_some-clause-number c = λ before _.
    numbered_none c.args.names.now c.args.inputs.now before c.args.node.now c.in_default.ensures (ap is_some (sym c.gate_operands.ensures) ∙ sym c.if-is_some.ensures)

pub returns-else-is_some-clause-small : goal.returns-else-is_some-clause-small
returns-else-is_some-clause-small c = larger-small 0 none-small
