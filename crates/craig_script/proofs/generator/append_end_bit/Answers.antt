use Rattle.std.proofs.Common.{◌∙◌, ap, sym}
use Rattle.craig_script.specs.Generator.{has_bit}
use Rattle.craig_script.proofs.GeneratorLemmas.{some_end_bit}
use Rattle.craig_script.proofs.generator.append_end_bit.Goals as goal

pub returns : goal.returns
returns c =
    some_end_bit c.append_lits.result c.args.steps c.args.bit c.args.script.now c.append_lits.new.script c.in_ok-lits.lits
    (ap (λ n. has_bit n c.args.bit) (sym c.end_bound.ensures) ∙ sym c.has_bit.ensures ∙ c.if-not-has_bit.false) c.in_ok-lits.ensures c.append_lits.ensures
