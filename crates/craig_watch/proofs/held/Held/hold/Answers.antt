use Rattle.craig_watch.proofs.ShownLemmas.{consistent-shown}
use Rattle.craig_watch.proofs.held.Held.hold.Goals as goal

pub returns-then-self-clause-consistent : goal.returns-then-self-clause-consistent
returns-then-self-clause-consistent c = rw (← c.self.view_is) (consistent-shown c.self.inside.watched c.self.inside.dead c.self.invariant)

pub hold-requires-clause-fits : goal.hold-requires-clause-fits
hold-requires-clause-fits c = rw (← c.self.view_is) at c.requires.fits
