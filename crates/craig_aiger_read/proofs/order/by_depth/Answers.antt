use Rattle.std.proofs.Common.{List, length, map, filter, ◌∙◌, ap, subst}
use Rattle.std.specs.Prelude.{IsPermutation}
use Rattle.craig_aiger_read.specs.declared.order.Ranked.{Ranked}
use Rattle.craig_aiger_read.specs.Ranks.{has_depth}
use Rattle.craig_aiger_read.proofs.OrderLemmas.{IfOk-then, order-sorted, ranked-inside, ranked-long}
use Rattle.craig_aiger_read.proofs.order.by_depth.Goals as goal

pub returns-clause-order : goal.returns-clause-order
returns-clause-order c =
    let made = c.in_ok-ranked.ensures in
    let P : List Ranked → Type 0 = λ z. IsPermutation z c.sort_by_depth.new.ranked.items in
    IfOk-then _ _ c.gates_of.result c.gates_of.ensures
    (λ v is. is ∙ ap (map (λ (r : Ranked). r.gate)) c.as_slice.ensures.value
    ∙ order-sorted c.args.depths.now c.sort_by_depth.new.ranked.items c.requires c.in_ok-sort_by_depth.ensures.sorted
    (λ n. c.in_ok-sort_by_depth.ensures.stable n ∙ ap (filter (has_depth n)) made) (subst P made c.in_ok-sort_by_depth.ensures.permutation))

pub returns-clause-long : goal.returns-clause-long
returns-clause-long c =
    let made = c.in_ok-ranked.ensures in
    let P : List Ranked → Type 0 = λ z. IsPermutation z c.sort_by_depth.new.ranked.items in
    IfOk-then _ _ c.gates_of.result c.gates_of.ensures
    (λ v is. ap length (is ∙ ap (map (λ (r : Ranked). r.gate)) c.as_slice.ensures.value) ∙ ranked-long c.args.depths.now c.sort_by_depth.new.ranked.items (subst P made c.in_ok-sort_by_depth.ensures.permutation))

pub returns-clause-inside : goal.returns-clause-inside
returns-clause-inside c =
    let made = c.in_ok-ranked.ensures in
    let P : List Ranked → Type 0 = λ z. IsPermutation z c.sort_by_depth.new.ranked.items in
    IfOk-then _ _ c.gates_of.result c.gates_of.ensures
    (λ v is. ranked-inside c.args.depths.now c.sort_by_depth.new.ranked.items v.items (subst P made c.in_ok-sort_by_depth.ensures.permutation) (is ∙ ap (map (λ (r : Ranked). r.gate)) c.as_slice.ensures.value))
