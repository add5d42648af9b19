use Rattle.std.proofs.Common.{◌∙◌, ◌++◌, ap}
use Rattle.craig_spec.specs.CircuitCnfText.{root_line}
use Rattle.craig_cnf.specs.LayoutClauses.{named_root}
use Rattle.craig_cnf.proofs.AppendingLemmas.{roots_more}
use Rattle.craig_cnf.proofs.tseitin.append_outputs.Goals as goal

pub loop-place-preserved : goal.loop-place-preserved
loop-place-preserved c =
    roots_more c.args.top c.args.layout.now.inputs c.args.layout.now.outputs c.loop-place.place c.output.result c.args.out.now.items c.loop-place.out.items c.append_output.new.out.items c.output.ensures c.loop-place.invariant
    (c.in_ok-append_output.ensures.text ∙ ap (λ xs. c.loop-place.out.items ++ root_line (named_root c.args.top xs c.output.result)) c.inputs-inputs.ensures.value)
