use Rattle.craig_watch.proofs.AssignmentLemmas.{literal_value-true, IsModel-complete}
use Rattle.craig_watch.proofs.laws.complete_trails_are_models.Goals as goal

pub returns-clause-literal : goal.returns-clause-literal
returns-clause-literal c = literal_value-true

pub returns-clause-model : goal.returns-clause-model
returns-clause-model c = IsModel-complete c.models_of_an_arena.ensures.model
