use Rattle.std.proofs.Common.{◌<◌, ◌≤◌, None, length, ap, sym, subst, ◌∙◌, arith}
use Rattle.std.proofs.lemmas.Bool.{eqb-false}
use Rattle.craig_watch.specs.declared.watched.Watched.{Watched}
use Rattle.craig_watch.specs.WatchedState.{HasLookedAt}
use Rattle.craig_watch.proofs.VisitLemmas.{known-at}
use Rattle.craig_watch.proofs.LookLemmas.{looked-at_true, looked-at_false, looked-at_open, looked-at_forced, looked-forced, others-short, others-false, second-false}
use Rattle.craig_watch.proofs.watched.Watched.settle.Goals as goal

pub value-requires : goal.value-requires
value-requires c =
    let ne = eqb-false (length c.lits-lits.result.now) 0 (sym c.is_empty.ensures ∙ c.if-is_empty.false) in
    known-at c.args.self.now c.args.id.0 c.lits-lits.result.now 0 c.index-lits-0.result c.requires.sound c.requires.live c.lits-lits.ensures.literals c.index-lits-0.is (omega (arith, ne))

pub returns-in-True-clause-looked : goal.returns-in-True-clause-looked
returns-in-True-clause-looked c =
    let ne = eqb-false (length c.lits-lits.result.now) 0 (sym c.is_empty.ensures ∙ c.if-is_empty.false) in
    looked-at_true c.args.self.now c.args.id.0 c.lits-lits.result.now c.index-lits-0.result c.requires.sound c.requires.live c.requires.ranked c.lits-lits.ensures.literals (omega (arith, ne)) c.index-lits-0.is (sym c.value.ensures ∙ c.in-True.is)

pub returns-in-False-clause-looked : goal.returns-in-False-clause-looked
returns-in-False-clause-looked c =
    looked-at_false c.args.self.now c.args.id.0 c.lits-lits.result.now c.index-lits-0.result c.requires.sound c.requires.live c.requires.ranked c.lits-lits.ensures.literals c.index-lits-0.is (sym c.value.ensures ∙ c.in-False.is)

pub force-requires-clause-forced : goal.force-requires-clause-forced
force-requires-clause-forced c =
    let ne = eqb-false (length c.lits-lits.result.now) 0 (sym c.is_empty.ensures ∙ c.if-is_empty.false) in
    looked-forced c.args.self.now c.args.id.0 c.lits-lits.result.now c.index-lits-0.result c.requires.live c.lits-lits.ensures.literals (omega (arith, ne)) c.index-lits-0.is (sym c.value.ensures ∙ c.in-Free.is)
    (others-short c.args.self.now c.args.id.0 c.lits-lits.result.now c.index-lits-0.result c.lits-lits.ensures.literals (omega arith) c.index-lits-0.is)

pub value-requires-in-Free : goal.value-requires-in-Free
value-requires-in-Free c =
    known-at c.args.self.now c.args.id.0 c.lits-lits.result.now 1 c.index-lits-1.result c.requires.sound c.requires.live c.lits-lits.ensures.literals c.index-lits-1.is (omega arith)

pub returns-then-lits-lt2-clause-looked : goal.returns-then-lits-lt2-clause-looked
returns-then-lits-lt2-clause-looked c =
    let ne = eqb-false (length c.lits-lits.result.now) 0 (sym c.is_empty.ensures ∙ c.if-is_empty.false) in
    let short : length c.lits-lits.result.now < 2 = c.if-lits-lt2.true in
    let f = looked-forced c.args.self.now c.args.id.0 c.lits-lits.result.now c.index-lits-0.result c.requires.live c.lits-lits.ensures.literals (omega (arith, ne)) c.index-lits-0.is (sym c.value.ensures ∙ c.in-Free.is)
    (others-short c.args.self.now c.args.id.0 c.lits-lits.result.now c.index-lits-0.result c.lits-lits.ensures.literals short c.index-lits-0.is) in
    subst (λ (s : Watched). HasLookedAt s c.args.id.0 None) (sym c.force.ensures.forced)
    (looked-at_forced c.args.self.now c.args.id c.lits-lits.result.now c.index-lits-0.result c.requires.sound c.requires.live f c.requires.ranked c.lits-lits.ensures.literals (omega (arith, ne)) c.index-lits-0.is (λ l long second. absurd (omega (arith, short, long))))

pub force-requires-in-False-value-clause-forced : goal.force-requires-in-False-value-clause-forced
force-requires-in-False-value-clause-forced c =
    let long : 2 ≤ length c.lits-lits.result.now = c.if-lits-lt2.false in
    looked-forced c.args.self.now c.args.id.0 c.lits-lits.result.now c.index-lits-0.result c.requires.live c.lits-lits.ensures.literals (omega arith) c.index-lits-0.is (sym c.value.ensures ∙ c.in-Free.is)
    (others-false c.args.self.now c.args.id.0 c.lits-lits.result.now c.index-lits-0.result c.index-lits-1.result c.requires.sound c.requires.ranked c.lits-lits.ensures.literals (omega arith) c.index-lits-0.is c.index-lits-1.is (sym c.value-in-Free.ensures ∙ c.in-False-value.is))

pub returns-in-False-value-clause-looked : goal.returns-in-False-value-clause-looked
returns-in-False-value-clause-looked c =
    let long : 2 ≤ length c.lits-lits.result.now = c.if-lits-lt2.false in
    let falsified = sym c.value-in-Free.ensures ∙ c.in-False-value.is in
    let same = ap length c.lits-lits.ensures.literals in
    let f = looked-forced c.args.self.now c.args.id.0 c.lits-lits.result.now c.index-lits-0.result c.requires.live c.lits-lits.ensures.literals (omega arith) c.index-lits-0.is (sym c.value.ensures ∙ c.in-Free.is)
    (others-false c.args.self.now c.args.id.0 c.lits-lits.result.now c.index-lits-0.result c.index-lits-1.result c.requires.sound c.requires.ranked c.lits-lits.ensures.literals (omega arith) c.index-lits-0.is c.index-lits-1.is falsified) in
    subst (λ (s : Watched). HasLookedAt s c.args.id.0 None) (sym c.force-in-False-value.ensures.forced)
    (looked-at_forced c.args.self.now c.args.id c.lits-lits.result.now c.index-lits-0.result c.requires.sound c.requires.live f c.requires.ranked c.lits-lits.ensures.literals (omega arith) c.index-lits-0.is
    (λ l long_too second. second-false c.args.self.now.assigned.trail c.lits-lits.result.now _ c.index-lits-1.result l c.lits-lits.ensures.literals long_too c.index-lits-1.is second falsified))

pub returns-in_default-clause-looked : goal.returns-in_default-clause-looked
returns-in_default-clause-looked c =
    let long : 2 ≤ length c.lits-lits.result.now = c.if-lits-lt2.false in
    looked-at_open c.args.self.now c.args.id.0 c.lits-lits.result.now c.index-lits-0.result c.index-lits-1.result c.requires.live c.lits-lits.ensures.literals (omega arith) c.index-lits-0.is c.index-lits-1.is (sym c.value.ensures ∙ c.in-Free.is) (λ is. c.in_default.not-False (c.value-in-Free.ensures ∙ is))
