use Rattle.std.proofs.Common.{◌≡◌, ◌<◌, ◌∙◌, Option, length, ap, arith, subst}
use Rattle.std.proofs.lemmas.List.{length-map}
use Rattle.craig_base.specs.declared.clause_id.ClauseId.{ClauseId}
use Rattle.craig_watch.specs.declared.trail_entry.TrailEntry.{TrailEntry}
use Rattle.craig_watch.specs.WatchedState.{HasWalkedList, shown}
use Rattle.craig_watch.proofs.StateLemmas.{IsLengthened-twice}
use Rattle.craig_watch.proofs.PropagateLemmas.{walk-ready, walked-on, walked-few, all-complete}
use Rattle.craig_watch.proofs.watched.Watched.propagate.Goals as goal

pub walk-requires-clause-known : goal.walk-requires-clause-known
walk-requires-clause-known c =
    let low : c.loop-self.self.walked < length c.loop-self.self.assigned.trail = omega (arith, c.loop-self-test.true, c.len.ensures) in
    let long : length c.literals.result.now ≡ length c.loop-self.self.assigned.trail = ap length c.literals.ensures ∙ length-map c.loop-self.self.assigned.trail (λ (e : TrailEntry). e.literal) in
    let r = walk-ready c.loop-self.self c.literals.result.now c.index-literals-self.result c.not-lit.result c.loop-self.invariant.sound c.literals.ensures (omega arith) c.index-literals-self.is c.not-lit.ensures in
    r.0

pub walk-requires-clause-falsified : goal.walk-requires-clause-falsified
walk-requires-clause-falsified c =
    let low : c.loop-self.self.walked < length c.loop-self.self.assigned.trail = omega (arith, c.loop-self-test.true, c.len.ensures) in
    let long : length c.literals.result.now ≡ length c.loop-self.self.assigned.trail = ap length c.literals.ensures ∙ length-map c.loop-self.self.assigned.trail (λ (e : TrailEntry). e.literal) in
    let r = walk-ready c.loop-self.self c.literals.result.now c.index-literals-self.result c.not-lit.result c.loop-self.invariant.sound c.literals.ensures (omega arith) c.index-literals-self.is c.not-lit.ensures in
    r.1

pub walk-requires-clause-present : goal.walk-requires-clause-present
walk-requires-clause-present c =
    let low : c.loop-self.self.walked < length c.loop-self.self.assigned.trail = omega (arith, c.loop-self-test.true, c.len.ensures) in
    let long : length c.literals.result.now ≡ length c.loop-self.self.assigned.trail = ap length c.literals.ensures ∙ length-map c.loop-self.self.assigned.trail (λ (e : TrailEntry). e.literal) in
    let r = walk-ready c.loop-self.self c.literals.result.now c.index-literals-self.result c.not-lit.result c.loop-self.invariant.sound c.literals.ensures (omega arith) c.index-literals-self.is c.not-lit.ensures in
    r.2

pub returns-in_err-conflict-2-clause-lengthened : goal.returns-in_err-conflict-2-clause-lengthened
returns-in_err-conflict-2-clause-lengthened c = IsLengthened-twice (shown c.args.self.now) (shown c.loop-self.self) (shown c.walk.new.self) c.loop-self.invariant.lengthened c.walk.ensures.continues.lengthened

pub returns-in-Some-2-clause-lengthened : goal.returns-in-Some-2-clause-lengthened
returns-in-Some-2-clause-lengthened c = IsLengthened-twice (shown c.args.self.now) (shown c.loop-self.self) (shown c.walk.new.self) c.loop-self.invariant.lengthened c.walk.ensures.continues.lengthened

pub loop-self-preserved : goal.loop-self-preserved
loop-self-preserved c =
    let low : c.loop-self.self.walked < length c.loop-self.self.assigned.trail = omega (arith, c.loop-self-test.true, c.len.ensures) in
    let long : length c.literals.result.now ≡ length c.loop-self.self.assigned.trail = ap length c.literals.ensures ∙ length-map c.loop-self.self.assigned.trail (λ (e : TrailEntry). e.literal) in
    let r = walk-ready c.loop-self.self c.literals.result.now c.index-literals-self.result c.not-lit.result c.loop-self.invariant.sound c.literals.ensures (omega arith) c.index-literals-self.is c.not-lit.ensures in
    let on = walked-on c.args.self.now c.loop-self.self c.walk.new.self c.not-lit.result c.loop-self.invariant.lengthened c.loop-self.invariant.looked c.walk.ensures.continues low r.3 (subst (λ (o : Option ClauseId). HasWalkedList c.walk.new.self c.not-lit.result o) c.in_default-2.is c.in_ok-conflict-2.ensures.walked) in
    record { lengthened = on.0; sound = on.1; looked = on.2 }

pub loop-self-smaller : goal.loop-self-smaller
loop-self-smaller c =
    let low : c.loop-self.self.walked < length c.loop-self.self.assigned.trail = omega (arith, c.loop-self-test.true, c.len.ensures) in
    let long : length c.literals.result.now ≡ length c.loop-self.self.assigned.trail = ap length c.literals.ensures ∙ length-map c.loop-self.self.assigned.trail (λ (e : TrailEntry). e.literal) in
    let r = walk-ready c.loop-self.self c.literals.result.now c.index-literals-self.result c.not-lit.result c.loop-self.invariant.sound c.literals.ensures (omega arith) c.index-literals-self.is c.not-lit.ensures in
    let on = walked-on c.args.self.now c.loop-self.self c.walk.new.self c.not-lit.result c.loop-self.invariant.lengthened c.loop-self.invariant.looked c.walk.ensures.continues low r.3 (subst (λ (o : Option ClauseId). HasWalkedList c.walk.new.self c.not-lit.result o) c.in_default-2.is c.in_ok-conflict-2.ensures.walked) in
    let few = walked-few c.loop-self.self c.loop-self.invariant.sound low in
    omega (arith, on.3, on.4, few)

pub returns-clause-propagated : goal.returns-clause-propagated
returns-clause-propagated c = all-complete c.loop-self.self c.loop-self.invariant.sound c.loop-self.invariant.looked (omega (arith, c.loop-self-test.false, c.len.ensures))
