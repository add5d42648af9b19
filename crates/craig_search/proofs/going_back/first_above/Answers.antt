use Rattle.std.proofs.Common.{◌≡◌, ℕ, ◌-◌, ◌<◌, ◌≤◌, length, get_or, arith, inl, inr, subst}
use Rattle.std.proofs.lemmas.Bool.{cases_lt}
use Rattle.craig_search.proofs.PlaceLemmas.{HasEntry, assigned-at, level-at}
use Rattle.craig_search.proofs.going_back.first_above.Goals as goal

pub level_of-requires : goal.level_of-requires
level_of-requires c =
    let t = c.args.held.now.trail in
    let k : ℕ = c.loop-place.place - 1 in
    let within : k < length t = omega (arith, c.loop-place.invariant.within, c.loop-place-test.true) in
    let has : HasEntry t k = λ d. c.entries_have_places.ensures.entry t k d c.trail-trail.ensures.consistent.distinct within in
    assigned-at t c.trail-trail.result.now k c.var.result.0 c.index-trail-place.result has c.trail-trail.ensures.value within c.index-trail-place.is c.var.ensures.value

pub returns-then-level_of-level-clause-upto : goal.returns-then-level_of-level-clause-upto
returns-then-level_of-level-clause-upto c = λ j d before.
    let t = c.args.held.now.trail in
    let k : ℕ = c.loop-place.place - 1 in
    let within : k < length t = omega (arith, c.loop-place.invariant.within, c.loop-place-test.true) in
    let has : HasEntry t k = λ d. c.entries_have_places.ensures.entry t k d c.trail-trail.ensures.consistent.distinct within in
    let level : (get_or t k d).level ≡ c.level_of.result = level-at t c.trail-trail.result.now k c.var.result.0 c.level_of.result c.index-trail-place.result has c.trail-trail.ensures.value within c.index-trail-place.is c.var.ensures.value c.level_of.ensures d in
    let up : (get_or t j d).level ≤ (get_or t k d).level = c.levels_rise.ensures.rise t c.trail-trail.ensures.consistent.levels j k d (omega arith) within in
    let low : c.level_of.result ≤ c.args.level = c.if-level_of-level.true in
    omega (arith, level, up, low)

pub loop-place-preserved : goal.loop-place-preserved
loop-place-preserved c =
    let t = c.args.held.now.trail in
    let k : ℕ = c.loop-place.place - 1 in
    let within : k < length t = omega (arith, c.loop-place.invariant.within, c.loop-place-test.true) in
    let has : HasEntry t k = λ d. c.entries_have_places.ensures.entry t k d c.trail-trail.ensures.consistent.distinct within in
    record {
      within = omega (arith, within);
      above = λ j d after inside. elim (cases_lt k j) [
        | inl more ↦ c.loop-place.invariant.above j d (omega (arith, more)) inside
        | inr less ↦
            let level : (get_or t k d).level ≡ c.level_of.result = level-at t c.trail-trail.result.now k c.var.result.0 c.level_of.result c.index-trail-place.result has c.trail-trail.ensures.value within c.index-trail-place.is c.var.ensures.value c.level_of.ensures d in
            let same : k ≡ j = omega (arith, less, after) in
            let high : c.args.level < c.level_of.result = c.if-level_of-level.false in
            subst (λ (i : ℕ). c.args.level < (get_or t i d).level) same (omega (arith, level, high))
      ];
    }
