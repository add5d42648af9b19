use Rattle.std.proofs.Common.{◌≡◌, ◌<◌, ℕ, length, slice_get, Some}
use Rattle.craig_spec.specs.Chain.{ToldStep}
use Rattle.craig_proof.specs.Lent.{steps_at}
use Rattle.craig_proof.proofs.needed.places_by_id.Given as goal

abbrev pub invariant-loop-place : goal.invariant-loop-place
invariant-loop-place l = record {
  count : length l.places.items ≡ l.bound;
  places_are : (k : ℕ) (s : ToldStep) → k < l.place → slice_get (steps_at l.steps l.needed) k ≡ Some s → slice_get l.places.items s.id ≡ Some k;
}
