use Rattle.std.proofs.Common.{◌≡◌, ap, ltb, rules, slice_get, Some, ◌∙◌, ℕ}
use Rattle.std.proofs.lemmas.List.Sorted.{IsPartitionPoint-from_clause}
use Rattle.std.proofs.lemmas.Option.{slice_get-get_or}
use Rattle.craig_proof.proofs.StoredLemmas.{IsPartitionedBy-ids, place_found}
use Rattle.craig_proof.proofs.needed.place_among.Goals as goal

pub returns : goal.returns
returns c =
    let parted = IsPartitionedBy-ids (λ (n : ℕ). n) c.args.needed.now c.args.stands c.requires.rising in
    let point = IsPartitionPoint-from_clause (λ (n : ℕ). ltb n c.args.stands) _ _ c.partition_point.ensures.partitioned parted (λ a r q k. search rules) in
    let h = c.requires.found in
    let same : c.partition_point.result ≡ h.0 = place_found (λ (n : ℕ). n) c.args.needed.now c.args.stands _ c.requires.rising point h.0 c.args.stands h.1 h.2 in
    ap (slice_get c.args.needed.now) same ∙ slice_get-get_or c.args.needed.now h.0 c.args.stands h.1 ∙ ap Some h.2
