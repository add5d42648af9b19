use Rattle.std.proofs.Common.{◌∙◌, ◌∷◌, ◌++◌, [], ap}
use Rattle.craig_script.specs.declared.command.Command.TheVariants.{Add}
use Rattle.craig_script.specs.Generator.{fails}
use Rattle.craig_script.proofs.GeneratorLemmas.{start_more}
use Rattle.craig_script.proofs.generator.append_start.Goals as goal

pub loop-bit-preserved : goal.loop-bit-preserved
loop-bit-preserved c =
    start_more c.args.script.now c.loop-bit.script c.append_clause.new.script c.loop-bit.bit c.loop-bit.invariant
    (c.in_ok-append_clause.ensures ∙ ap (λ v. c.loop-bit.script ++ Add 1 (fails v ∷ []) ∷ []) c.state_bit.ensures)
