use Rattle.std.proofs.Common.{map, ◌∙◌, sym, length, get_or, ◌≡◌, arith, ℕ}
use Rattle.std.proofs.lemmas.List.{length-map}
use Rattle.std.proofs.lemmas.List.{get_or-map}
use Rattle.craig_spec.specs.Needed.{unforgotten}
use Rattle.craig_proof.specs.Lent.{step_at}
use Rattle.craig_proof.proofs.ReplayLemmas.{IsAbove-next, IsUnforgotten-next, StandsOn-next, IsTelling-told, IsTelling-done, all_unforgotten, unforgotten_first}
use Rattle.craig_proof.proofs.replay.tell_all.Goals as goal

pub tell-requires-clause-above : goal.tell-requires-clause-above
tell-requires-clause-above g c = λ u is.
    let s = unforgotten (step_at c.args.steps.now (get_or c.args.places.now c.loop-place.place-index 0)) in
    IsAbove-next (map (λ (place : ℕ). unforgotten (step_at c.args.steps.now place)) c.args.places.now) c.loop-place.place-index u s (rw length-map c.loop-place-test.true) (get_or-map (λ (place : ℕ). unforgotten (step_at c.args.steps.now place)) c.args.places.now c.loop-place.place-index 0 s c.loop-place-test.true) (c.loop-place.invariant.telling.first_told u is) c.requires.rising

pub tell-requires-clause-normal : goal.tell-requires-clause-normal
tell-requires-clause-normal g c =
    let s = unforgotten (step_at c.args.steps.now (get_or c.args.places.now c.loop-place.place-index 0)) in
    let at = get_or-map (λ (place : ℕ). unforgotten (step_at c.args.steps.now place)) c.args.places.now c.loop-place.place-index 0 s c.loop-place-test.true in
    rw at at (c.requires.normal c.loop-place.place-index s (rw length-map c.loop-place-test.true))

pub tell-requires-clause-unforgotten : goal.tell-requires-clause-unforgotten
tell-requires-clause-unforgotten g c = λ u is.
    let s = unforgotten (step_at c.args.steps.now (get_or c.args.places.now c.loop-place.place-index 0)) in
    let told = c.loop-place.invariant.telling.first_told u is in
    IsUnforgotten-next (map (λ (place : ℕ). unforgotten (step_at c.args.steps.now place)) c.args.places.now) c.loop-place.place-index u s (rw length-map c.loop-place-test.true) (get_or-map (λ (place : ℕ). unforgotten (step_at c.args.steps.now place)) c.args.places.now c.loop-place.place-index 0 s c.loop-place-test.true) told c.requires.stand (unforgotten_first _ c.loop-place.place-index u (all_unforgotten (λ (place : ℕ). step_at c.args.steps.now place) c.args.places.now) told)

pub tell-requires-clause-stands : goal.tell-requires-clause-stands
tell-requires-clause-stands g c = λ u is.
    let s = unforgotten (step_at c.args.steps.now (get_or c.args.places.now c.loop-place.place-index 0)) in
    StandsOn-next (map (λ (place : ℕ). unforgotten (step_at c.args.steps.now place)) c.args.places.now) c.loop-place.place-index u s (rw length-map c.loop-place-test.true) (get_or-map (λ (place : ℕ). unforgotten (step_at c.args.steps.now place)) c.args.places.now c.loop-place.place-index 0 s c.loop-place-test.true) (c.loop-place.invariant.telling.first_told u is) c.requires.stand

pub loop-place-preserved : goal.loop-place-preserved
loop-place-preserved g c =
    let s = unforgotten (step_at c.args.steps.now (get_or c.args.places.now c.loop-place.place-index 0)) in
    record {
      telling = IsTelling-told (map (λ (place : ℕ). unforgotten (step_at c.args.steps.now place)) c.args.places.now) c.loop-place.place-index _ _ _ s (rw length-map c.loop-place-test.true) (get_or-map (λ (place : ℕ). unforgotten (step_at c.args.steps.now place)) c.args.places.now c.loop-place.place-index 0 s c.loop-place-test.true) c.loop-place.invariant.telling c.in_ok-tell.ensures.told c.in_ok-tell.ensures.tells;
      kept = c.in_ok-tell.ensures.kept ∙ c.loop-place.invariant.kept;
    }

pub returns-clause-told : goal.returns-clause-told
returns-clause-told g c =
    let at_end : c.loop-place.place-index ≡ length c.args.places.now = omega (arith, c.loop-place-test.false, c.loop-place.auto.place-index-end) in
    IsTelling-done (map (λ (place : ℕ). unforgotten (step_at c.args.steps.now place)) c.args.places.now) c.loop-place.place-index _ _ (at_end ∙ sym (length-map c.args.places.now (λ (place : ℕ). unforgotten (step_at c.args.steps.now place)))) c.loop-place.invariant.telling
