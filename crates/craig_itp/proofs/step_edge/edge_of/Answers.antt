use Rattle.std.proofs.Common.{ltb, sym, ◌∙◌, arith, rules}
use Rattle.std.proofs.lemmas.Bool.Decides.{nat_tests}
use Rattle.std.proofs.lemmas.List.Sorted.{IsPartitionPoint-from_clause}
use Rattle.craig_itp.proofs.StepEdgeLemmas.{IsPartitionedBy-ids, none_past, none_there, not_equal}
use Rattle.craig_itp.proofs.step_edge.edge_of.Goals as goal

pub returns-in_err-step-clause-none : goal.returns-in_err-step-clause-none
returns-in_err-step-clause-none c = λ _.
    let parted = IsPartitionedBy-ids c.args.edges.now c.args.id.0 c.requires in
    let point = IsPartitionPoint-from_clause (λ s. ltb s.id.0 c.args.id.0) _ _ c.partition_point-place.ensures.partitioned parted (λ a r q k. search rules) in
    none_past c.args.edges.now c.args.id.0 _ c.requires point (grind (arith, nat_tests, c.in_err-step.ensures.lookup))

pub returns-clause-none : goal.returns-clause-none
returns-clause-none c = λ none.
    let parted = IsPartitionedBy-ids c.args.edges.now c.args.id.0 c.requires in
    let point = IsPartitionPoint-from_clause (λ s. ltb s.id.0 c.args.id.0) _ _ c.partition_point-place.ensures.partitioned parted (λ a r q k. search rules) in
    none_there c.args.edges.now c.args.id.0 _ c.in_ok-step.step.now c.requires point (grind (arith, nat_tests, c.in_ok-step.ensures.lookup)) (not_equal c.eq.result _ _ c.in_ok-step.step.now.edge (sym c.then_some.ensures ∙ none) c.eq.ensures)
