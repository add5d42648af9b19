use Rattle.craig_search.proofs.LawLemmas.{held-rests, root-forgotten, root-rests}
use Rattle.craig_search.proofs.laws.refutations_rest_on_assumptions.Goals as goal

pub returns-clause-root : goal.returns-clause-root
returns-clause-root c = root-rests

pub returns-clause-held : goal.returns-clause-held
returns-clause-held c = held-rests

pub returns-clause-forgotten : goal.returns-clause-forgotten
returns-clause-forgotten c = root-forgotten
