use Rattle.std.proofs.Common.{List, ap, get_or}
use Rattle.craig_proof.specs.declared.step.Step.{Step}
use Rattle.craig_search.proofs.failing.first_of.Goals as goal

pub returns : goal.returns
returns c s rest is = ap (λ (xs : List Step). (get_or xs 0 c.index-steps-0.result).antecedent) is
