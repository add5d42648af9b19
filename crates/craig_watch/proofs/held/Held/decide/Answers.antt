use Rattle.craig_watch.proofs.held.Held.decide.Goals as goal

pub decide-requires-clause-complete : goal.decide-requires-clause-complete
decide-requires-clause-complete c = rw (← c.self.view_is) at c.requires.complete
