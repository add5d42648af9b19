use Rattle.std.proofs.Common.{◌≡◌, ◌<◌, ◌≤◌, arith, ◌∙◌}
use Rattle.craig_watch.specs.Trail.{decisions}
use Rattle.craig_watch.proofs.AssignedLemmas.{taken-part, taken-level, trail-open, went-back}
use Rattle.craig_watch.proofs.assigned.Assigned.back_to.Goals as goal

pub take_last-requires : goal.take_last-requires
take_last-requires c =
    let is : c.level.result ≡ decisions c.loop-self.self.trail = c.level.ensures.value in
    let above : c.args.level < c.level.result = c.loop-self-test.true in
    trail-open c.loop-self.self.trail c.args.level (omega arith)

pub loop-self-preserved : goal.loop-self-preserved
loop-self-preserved c =
    let is : c.level.result ≡ decisions c.loop-self.self.trail = c.level.ensures.value in
    let above : c.args.level < c.level.result = c.loop-self-test.true in
    record {
      part = taken-part c.args.level c.loop-self.self c.take_last.new.self c.level.ensures.is_trail (omega arith) c.take_last.ensures.taken ∙ c.loop-self.invariant.part;
      vars = c.take_last.ensures.taken.vars ∙ c.loop-self.invariant.vars;
      open_still = taken-level c.args.level c.loop-self.self c.take_last.new.self (omega arith) c.take_last.ensures.taken;
    }

pub returns-clause-back : goal.returns-clause-back
returns-clause-back c =
    let is : c.level.result ≡ decisions c.loop-self.self.trail = c.level.ensures.value in
    let low : c.level.result ≤ c.args.level = c.loop-self-test.false in
    went-back c.args.level c.args.self.now c.loop-self.self c.level.ensures.is_trail (omega arith) c.loop-self.invariant.part c.loop-self.invariant.vars
