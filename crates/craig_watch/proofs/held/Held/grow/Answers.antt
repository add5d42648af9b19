use Rattle.craig_watch.proofs.ShownLemmas.{consistent-shown}
use Rattle.craig_watch.proofs.held.Held.grow.Goals as goal

pub returns-then-self-clause-consistent : goal.returns-then-self-clause-consistent
returns-then-self-clause-consistent c = rw (← c.self.view_is) (consistent-shown c.self.inside.watched c.self.inside.dead c.self.invariant)
