use Rattle.craig_watch.proofs.PlacesLemmas.{entry_of-longer, value_under-longer, IsFalse-take, place-false}
use Rattle.craig_watch.proofs.laws.longer_trails_keep_values.Goals as goal

pub returns-clause-entry : goal.returns-clause-entry
returns-clause-entry c = entry_of-longer

pub returns-clause-value : goal.returns-clause-value
returns-clause-value c = value_under-longer

pub returns-clause-falsified : goal.returns-clause-falsified
returns-clause-falsified c = IsFalse-take

pub returns-clause-before : goal.returns-clause-before
returns-clause-before c = place-false
