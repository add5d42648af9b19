use Rattle.std.proofs.Common.{List, ap, ◌∙◌}
use Rattle.std.specs.Option.{unwrap_or}
use Rattle.craig_base.specs.declared.variable.Var.{Var}
use Rattle.craig_label.specs.Marks.{label_of}
use Rattle.craig_label.specs.declared.mark.Mark.{Mark}
use Rattle.craig_label.specs.declared.mark.Mark.TheVariants.{Ab}
use Rattle.craig_system.specs.Marking.{labels_in}
use Rattle.craig_system.proofs.MarkingLemmas.{labels_in-lookup}
use Rattle.craig_system.proofs.marked.MarkedSystem.mark.Goals as goal

pub returns : goal.returns
returns c =
    ap label_of c.unwrap_or.ensures ∙ ap (λ m. label_of (unwrap_or m Ab)) (c.copied.ensures ∙ c.get.ensures.value)
    ∙ labels_in-lookup c.self.inside.marks.entries c.args.var ∙ ap (λ (entries : List (Var × Mark)). labels_in entries c.args.var.0) c.self.view_is
