use Rattle.craig_top.proofs.session.Session.new.Goals as goal

pub returns : goal.returns
returns c = c.new.ensures.seen
