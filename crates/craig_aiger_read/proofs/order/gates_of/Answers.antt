use Rattle.std.proofs.Common.{map, ◌∙◌, ap, rules}
use Rattle.std.proofs.lemmas.List.{take_all}
use Rattle.std.proofs.lemmas.Result.{IfOk-from_err}
use Rattle.craig_aiger_read.specs.declared.order.Ranked.{Ranked}
use Rattle.craig_aiger_read.proofs.OrderLemmas.{map_take-next}
use Rattle.craig_aiger_read.proofs.order.gates_of.Goals as goal

pub loop-ranked-init : goal.loop-ranked-init
loop-ranked-init c = c.new-gates.ensures.items

pub offset_bounds-ranked-ranked-index : goal.offset_bounds-ranked-ranked-index
offset_bounds-ranked-ranked-index c = search rules

pub returns-in_err-push : goal.returns-in_err-push
returns-in_err-push c = IfOk-from_err _ _ c.from_residual.ensures.0

pub loop-ranked-preserved : goal.loop-ranked-preserved
loop-ranked-preserved c = c.in_ok-push.ensures.items ∙ map_take-next (λ (r : Ranked). r.gate) _ _ _ _ c.loop-ranked.invariant c.loop-ranked-test.true

pub returns : goal.returns
returns c = c.loop-ranked.invariant ∙ ap (map (λ (r : Ranked). r.gate)) (take_all _ c.args.ranked.now c.loop-ranked-test.false)
