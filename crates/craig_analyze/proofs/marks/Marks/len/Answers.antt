use Rattle.craig_analyze.proofs.CountLemmas.{AreMarks-once}
use Rattle.craig_analyze.proofs.marks.Marks.len.Goals as goal

pub returns-clause-once : goal.returns-clause-once
returns-clause-once c = rw (← c.self.view_is) (AreMarks-once c.self.inside.flags.items c.self.inside.marked.items c.self.invariant)
