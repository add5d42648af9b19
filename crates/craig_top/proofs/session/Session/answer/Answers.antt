use Rattle.craig_top.proofs.session.Session.answer.Goals as goal

pub returns-clause-refutation : goal.returns-clause-refutation
returns-clause-refutation c = rw (← c.self.view_is) c.in_ok-answer.ensures.refutation
