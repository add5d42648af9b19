use Rattle.std.proofs.Common.{◌≡◌, List, subst}
use Rattle.craig_base.specs.declared.variable.Var.{Var}
use Rattle.craig_label.specs.Marks.{label_of}
use Rattle.craig_label.specs.declared.mark.Mark.{Mark}
use Rattle.craig_system.specs.Marking.{labels_in, with_label}
use Rattle.craig_system.proofs.MarkingLemmas.{labels_in-put}
use Rattle.craig_system.proofs.marked.Marked.set.Goals as goal

pub returns-clause-set : goal.returns-clause-set
returns-clause-set c =
    let new = c.insert.new.self.entries in
    subst (λ (old : List (Var × Mark)). labels_in new ≡ with_label (labels_in old) c.args.var.0 (label_of c.args.mark)) c.self.view_is
    (labels_in-put c.self.inside.marks.entries new c.args.var c.args.mark (λ y. c.in_ok-insert.ensures.updates.0 y))
