use Rattle.craig_top.proofs.GatheredLemmas.{Gathers-none, Gathers-push, Gathers-begins, Gathers-taken}
use Rattle.craig_top.proofs.run.Run.gather.Goals as goal

pub loop-self-init : goal.loop-self-init
loop-self-init c = Gathers-none _ _ _ c.clear.ensures.items

pub loop-self-preserved : goal.loop-self-preserved
loop-self-preserved c =
    Gathers-push _ _ _ _ _ _ _ c.in-Some.line _ _ c.loop-self.invariant c.in-Some.ensures.some.0 c.in-Some.ensures.some.1 c.answer.ensures.lines c.in_ok-answer.ensures.state
    c.in_ok-answer.ensures.reply

pub loop-self-preserved-in_ok-answer : goal.loop-self-preserved-in_ok-answer
loop-self-preserved-in_ok-answer c =
    Gathers-push _ _ _ _ _ _ _ c.in-Some.line _ _ c.loop-self.invariant c.in-Some.ensures.some.0 c.in-Some.ensures.some.1 c.answer.ensures.lines c.in_ok-answer.ensures.state
    c.in_ok-answer.ensures.reply

pub returns-in_default-clause-whole : goal.returns-in_default-clause-whole
returns-in_default-clause-whole c = Gathers-begins _ _ _ _ _ c.loop-self.invariant

pub returns-in_err-answer-clause-whole : goal.returns-in_err-answer-clause-whole
returns-in_err-answer-clause-whole c = Gathers-taken _ _ _ _ c.in-Some.line _ _ _ c.loop-self.invariant c.in-Some.ensures.some.0 c.in_err-answer.ensures.unchanged

pub returns-clause-whole : goal.returns-clause-whole
returns-clause-whole c = Gathers-begins _ _ _ _ _ c.loop-self.invariant
