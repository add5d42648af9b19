use Rattle.craig_watch.proofs.StateLemmas.{Continues-twice}
use Rattle.craig_watch.proofs.watched.Watched.look.Goals as goal

pub returns-in_err-arrange-2-clause-continues : goal.returns-in_err-arrange-2-clause-continues
returns-in_err-arrange-2-clause-continues c = Continues-twice c.args.self.now c.arrange.new.self c.arrange-2.new.self c.arrange.ensures.continues c.arrange-2.ensures.continues

pub returns-clause-continues : goal.returns-clause-continues
returns-clause-continues c = Continues-twice c.args.self.now c.arrange.new.self c.settle.new.self c.arrange.ensures.continues (Continues-twice c.arrange.new.self c.arrange-2.new.self c.settle.new.self c.arrange-2.ensures.continues c.settle.ensures.continues)
