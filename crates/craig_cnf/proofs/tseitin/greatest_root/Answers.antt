use Rattle.std.proofs.Common.{◌∙◌, ap}
use Rattle.craig_spec.specs.CircuitCnf.{variable_of_root}
use Rattle.craig_cnf.specs.LayoutClauses.{text_root}
use Rattle.craig_cnf.proofs.AppendingLemmas.{greatest_root_more}
use Rattle.craig_cnf.proofs.tseitin.greatest_root.Goals as goal

pub loop-place-preserved : goal.loop-place-preserved
loop-place-preserved c =
    greatest_root_more c.args.top c.args.layout.now.inputs c.args.layout.now.outputs c.loop-place.place c.output.result c.root_variable.result c.loop-place.greatest c.max-greatest.result c.output.ensures
    (c.root_variable.ensures ∙ ap (λ xs. variable_of_root (text_root c.args.top xs c.output.result.1)) c.inputs-inputs.ensures.value) c.loop-place.invariant c.max-greatest.ensures
