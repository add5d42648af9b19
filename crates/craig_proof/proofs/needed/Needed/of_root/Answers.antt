use Rattle.std.proofs.Common.{Global, Vec, ℕ}
use Rattle.craig_proof.specs.Lent.{ArePlaces}
use Rattle.craig_proof.proofs.LentLemmas.{part_low, table_items}
use Rattle.craig_proof.proofs.PartLemmas.{NeededPart-rising}
use Rattle.craig_proof.proofs.needed.Needed.of_root.Goals as goal

pub table_of_places-requires-clause-rising : goal.table_of_places-requires-clause-rising
table_of_places-requires-clause-rising c = rw c.as_slice.ensures.value (NeededPart-rising c.args.steps.now _ c.args.root.0 c.requires.rising c.in_ok-needed.ensures.needed)

pub table_of_places-requires-clause-low : goal.table_of_places-requires-clause-low
table_of_places-requires-clause-low c = rw c.as_slice.ensures.value (part_low c.args.steps.now _ c.args.root.0 c.requires.rising c.requires.stand c.in_ok-needed.ensures.needed)

pub invariant_of-result : goal.invariant_of-result
invariant_of-result c = record {
  all_rising = c.requires.rising;
  within = c.in_ok-needed.ensures.within;
  rising = NeededPart-rising c.args.steps.now _ c.args.root.0 c.requires.rising c.in_ok-needed.ensures.needed;
  places = table_items (λ (v : Vec ℕ Global). v.items) (ArePlaces _) c.in_ok-places.places (rw c.as_slice.ensures.value at c.in_ok-places.ensures);
}
