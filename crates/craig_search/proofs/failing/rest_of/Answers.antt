use Rattle.std.proofs.Common.{List, ap, drop, ◌∙◌}
use Rattle.std.proofs.lemmas.List.{take_rest}
use Rattle.craig_proof.specs.declared.step.Step.{Step}
use Rattle.craig_search.proofs.failing.rest_of.Goals as goal

pub returns : goal.returns
returns c s rest is = take_rest c.args.steps.now 1 ∙ ap (λ (xs : List Step). drop 1 xs) is
