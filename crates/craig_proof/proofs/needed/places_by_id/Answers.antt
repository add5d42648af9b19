use Rattle.std.proofs.Common.{◌≡◌, ◌∙◌, ap, subst, arith, set, slice_get, Some, ℕ, ◌<◌, ◌+◌}
use Rattle.std.proofs.lemmas.List.{length-map, length-set}
use Rattle.craig_spec.specs.Chain.{ToldStep}
use Rattle.craig_spec.specs.Needed.{unforgotten}
use Rattle.craig_spec.proofs.MemberLemmas.{slice_get-below}
use Rattle.craig_proof.specs.Lent.{step_at, steps_at}
use Rattle.craig_proof.proofs.LentLemmas.{id_below, places_more, row_at, step_read}
use Rattle.craig_proof.proofs.needed.places_by_id.Goals as goal

pub index_mut-requires : goal.index_mut-requires
index_mut-requires c =
    let here = row_at (λ place. unforgotten (step_at c.args.steps.now place)) c.args.needed.now c.loop-place.place 0 c.loop-place-test.true in
    let below = id_below _ c.args.bound c.loop-place.place _ c.requires.below here in
    let e = c.id-id.ensures in
    let same = ap (λ (s : ToldStep). s.id) (step_read c.args.steps.now _ e.0 e.1) ∙ e.2 in
    omega (arith, below, same, c.loop-place.invariant.count, c.loop-place.places.ok)

pub loop-place-preserved : goal.loop-place-preserved
loop-place-preserved c =
    let here = row_at (λ place. unforgotten (step_at c.args.steps.now place)) c.args.needed.now c.loop-place.place 0 c.loop-place-test.true in
    let below = id_below _ c.args.bound c.loop-place.place _ c.requires.below here in
    let e = c.id-id.ensures in
    let same = ap (λ (s : ToldStep). s.id) (step_read c.args.steps.now _ e.0 e.1) ∙ e.2 in
    record {
      count = length-set _ _ _ ∙ c.loop-place.invariant.count;
      places_are = subst (λ (n : ℕ). (k : ℕ) (s : ToldStep) → k < c.loop-place.place + 1 → slice_get (steps_at c.args.steps.now c.args.needed.now) k ≡ Some s → slice_get (set c.loop-place.places.items n c.loop-place.place) s.id ≡ Some k) same
          (places_more _ c.loop-place.places.items c.loop-place.place _ c.requires.rising here (omega (arith, below, c.loop-place.invariant.count)) c.loop-place.invariant.places_are);
    }

pub returns : goal.returns
returns c = λ k s at.
    let within = slice_get-below _ k s at in
    c.loop-place.invariant.places_are k s (omega (arith, within, c.loop-place-test.false, length-map c.args.needed.now (λ place. unforgotten (step_at c.args.steps.now place)))) at
