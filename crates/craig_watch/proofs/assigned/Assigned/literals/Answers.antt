use Rattle.std.proofs.Common.{sym, ◌∙◌}
use Rattle.craig_watch.proofs.HeldFieldsLemmas.{literals-of}
use Rattle.craig_watch.proofs.assigned.Assigned.literals.Goals as goal

pub returns : goal.returns
returns c = rw (← c.self.view_is) (c.as_slice.ensures.value ∙ sym (literals-of c.self.inside.literals.items c.self.inside.assignments.items))
