use Rattle.std.proofs.Common.{◌<◌, Option, arith, subst}
use Rattle.craig_base.specs.declared.clause_id.ClauseId.{ClauseId}
use Rattle.craig_watch.specs.WatchedState.{HasLookedAt, shown}
use Rattle.craig_watch.proofs.StateLemmas.{IsLengthened-twice}
use Rattle.craig_watch.proofs.PropagateLemmas.{looked-on}
use Rattle.craig_watch.proofs.watched.Watched.look_at_waiting.Goals as goal

pub loop-self-preserved : goal.loop-self-preserved
loop-self-preserved c =
    let low : c.loop-self.self.looked < c.loop-self.self.arena.given = omega (arith, c.loop-self-test.true, c.given.ensures.value) in
    let on = looked-on c.args.self.now c.loop-self.self c.look.new.self c.loop-self.invariant.lengthened c.look.ensures.continues low (subst (λ (r : Option ClauseId). HasLookedAt c.look.new.self c.loop-self.self.looked r) c.in_default.is c.in_ok-conflict.ensures.looked) in
    record { lengthened = on.0; sound = on.1 }

pub loop-self-smaller : goal.loop-self-smaller
loop-self-smaller c =
    let low : c.loop-self.self.looked < c.loop-self.self.arena.given = omega (arith, c.loop-self-test.true, c.given.ensures.value) in
    let on = looked-on c.args.self.now c.loop-self.self c.look.new.self c.loop-self.invariant.lengthened c.look.ensures.continues low (subst (λ (r : Option ClauseId). HasLookedAt c.look.new.self c.loop-self.self.looked r) c.in_default.is c.in_ok-conflict.ensures.looked) in
    omega (arith, on.2, on.3, low)

pub returns-in_err-conflict-clause-lengthened : goal.returns-in_err-conflict-clause-lengthened
returns-in_err-conflict-clause-lengthened c = IsLengthened-twice (shown c.args.self.now) (shown c.loop-self.self) (shown c.look.new.self) c.loop-self.invariant.lengthened c.look.ensures.continues.lengthened

pub returns-in-Some-clause-lengthened : goal.returns-in-Some-clause-lengthened
returns-in-Some-clause-lengthened c = IsLengthened-twice (shown c.args.self.now) (shown c.loop-self.self) (shown c.look.new.self) c.loop-self.invariant.lengthened c.look.ensures.continues.lengthened
