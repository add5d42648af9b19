use Rattle.std.proofs.Common.{ltb, rules, sym, ◌∙◌, arith}
use Rattle.std.proofs.lemmas.List.Sorted.{IsPartitionPoint-from_clause}
use Rattle.craig_proof.specs.declared.stored_step.StoredStep.{StoredStep}
use Rattle.craig_proof.proofs.StoredLemmas.{IsPartitionedBy-ids, one_place, place_found}
use Rattle.craig_proof.proofs.place.place_of.Goals as goal

pub returns-in-Some-clause-bound : goal.returns-in-Some-clause-bound
returns-in-Some-clause-bound c = omega (arith, c.in-Some.ensures.0)

pub returns-in-Some-clause-found : goal.returns-in-Some-clause-found
returns-in-Some-clause-found c = λ k d within at.
    one_place (λ (s : StoredStep). s.id.0) c.args.rows.now _ k d c.requires c.in-Some.ensures.0 within (c.in-Some.ensures.1 d ∙ sym at)

pub returns-in-None-clause-found : goal.returns-in-None-clause-found
returns-in-None-clause-found c =
    let parted = IsPartitionedBy-ids (λ (s : StoredStep). s.id.0) c.args.rows.now c.args.id.0 c.requires in
    let point = IsPartitionPoint-from_clause (λ (s : StoredStep). ltb s.id.0 c.args.id.0) _ _ c.partition_point.ensures.partitioned parted (λ a r q k. search rules) in
    place_found (λ (s : StoredStep). s.id.0) c.args.rows.now c.args.id.0 _ c.requires point
