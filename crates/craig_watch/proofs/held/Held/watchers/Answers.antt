use Rattle.craig_watch.proofs.held.Held.watchers.Goals as goal

pub returns : goal.returns
returns c = rw (c.ids.ensures, ← c.self.view_is) (c.self.invariant.watched.listed.watchers c.args.lit)
