use Rattle.std.proofs.Common.{get_or, sym, subst, take, ◌≡◌, ◌+◌, ◌<◌, length, List, ℕ}
use Rattle.craig_search.specs.Verdict.{at_places}
use Rattle.craig_top.proofs.AssumptionLemmas.{at_places-more}
use Rattle.craig_top.proofs.assumptions.assumptions_at.Goals as goal

pub loop-place-preserved : goal.loop-place-preserved
loop-place-preserved c =
    let same : c.as_slice-place-items.result.now ≡ c.args.places.now = c.as_slice-place-items.ensures in
    let i = c.loop-place.place-index in
    let inside : i < length c.args.places.now = subst (λ (ps : List ℕ). i < length ps) same c.loop-place-test.true in
    subst (λ (places : List ℕ). c.push.new.self.items ≡ at_places c.args.assumptions.now (take (c.loop-place.place-index + 1) places)) same
    (at_places-more c.args.assumptions.now c.as_slice-place-items.result.now c.loop-place.place-index 0 c.loop-place.chosen.items c.push.new.self.items c.index-assumptions-place.result c.loop-place-test.true
    (subst (λ (ps : List ℕ). get_or ps i 0 < length c.args.assumptions.now) (sym same) (c.requires i 0 inside))
    (subst (λ (ps : List ℕ). c.loop-place.chosen.items ≡ at_places c.args.assumptions.now (take i ps)) (sym same) c.loop-place.invariant) c.index-assumptions-place.is c.in_ok-push.ensures.items)
