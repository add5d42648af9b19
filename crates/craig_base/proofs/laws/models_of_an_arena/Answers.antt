use Rattle.craig_base.proofs.FoundLemmas.{IsModel-found, IsModel-from_found}
use Rattle.craig_base.proofs.laws.models_of_an_arena.Goals as goal

pub returns-clause-looked_up : goal.returns-clause-looked_up
returns-clause-looked_up c = IsModel-found

pub returns-clause-model : goal.returns-clause-model
returns-clause-model c = IsModel-from_found
