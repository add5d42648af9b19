use Rattle.craig_watch.proofs.ShownLemmas.{consistent-shown}
use Rattle.craig_watch.proofs.held.Held.arena.Goals as goal

pub returns-clause-consistent : goal.returns-clause-consistent
returns-clause-consistent c = rw (← c.self.view_is) (consistent-shown c.self.inside.watched c.self.inside.dead c.self.invariant)
