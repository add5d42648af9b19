use Rattle.std.proofs.Common.{◌≡◌, false, get_or, sym, ◌∙◌, arith}
use Rattle.std.proofs.lemmas.Option.{gets}
use Rattle.std.proofs.lemmas.Grind.{common_steps}
use Rattle.craig_aig.proofs.TrueVariablesLemmas.{variable_value-true_variables}
use Rattle.craig_aig.proofs.value.value_of.Goals as goal

pub returns-in-Input : goal.returns-in-Input
returns-in-Input c =
    let bit : c.unwrap_or.result ≡ get_or c.args.assignment.now c.in-Input.var.0 false = grind (arith, gets, common_steps) in
    rw c.in-Input.is (bit ∙ sym (variable_value-true_variables c.args.assignment.now c.in-Input.var.0))
