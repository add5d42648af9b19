use Rattle.std.proofs.Common.{◌<◌, ◌^◌, arith, take}
use Rattle.std.proofs.lemmas.Result.{IfOk-from_err}
use Rattle.craig_aiger.proofs.TableLemmas.{Numbered-more, All-more, gates_more, one_node, named_input}
use Rattle.craig_aiger.proofs.node_numbers.number_nodes.Goals as goal

pub number_of-number-requires-clause-named : goal.number_of-number-requires-clause-named
number_of-number-requires-clause-named c = λ v e. named_input c.args.names.now c.args.inputs.now c.args.table.now c.loop-node.node-index v c.node-item.result c.requires.named c.requires.names c.node-item.is c.loop-node-test.true e

pub loop-node-preserved : goal.loop-node-preserved
loop-node-preserved c = record {
  numbered = Numbered-more c.args.names.now c.args.inputs.now c.args.table.now c.loop-node.numbers.items c.push.new.self.items c.loop-node.node-index c.number_of-number.result c.node-item.result c.node-item.is c.loop-node-test.true c.loop-node.invariant.numbered (c.number_of-number.ensures.number (take c.loop-node.node-index c.args.table.now) c.loop-node.invariant.taken) c.in_ok-push.ensures.items;
  small = All-more (λ n. n < 2 ^ 43) c.loop-node.numbers.items c.push.new.self.items c.number_of-number.result c.loop-node.invariant.small c.number_of-number.ensures.small c.in_ok-push.ensures.items;
  taken = omega (arith, c.taken_after-taken.ensures, c.loop-node.invariant.taken, gates_more c.args.table.now c.loop-node.node-index c.node-item.result c.node-item.is c.loop-node-test.true);
  few = omega (arith, c.taken_after-taken.ensures, c.loop-node.invariant.few, one_node c.node-item.result);
}

pub returns-in_err-push-clause-numbering : goal.returns-in_err-push-clause-numbering
returns-in_err-push-clause-numbering c = IfOk-from_err _ _ c.from_residual.ensures.0

pub returns-in_err-push-clause-small : goal.returns-in_err-push-clause-small
returns-in_err-push-clause-small c = IfOk-from_err _ _ c.from_residual.ensures.0
