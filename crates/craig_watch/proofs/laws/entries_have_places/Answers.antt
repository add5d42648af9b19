use Rattle.craig_watch.proofs.PlacesLemmas.{place-found, entry-true, entry-false, true-entry, false-entry}
use Rattle.craig_watch.proofs.TrailLemmas.{entry_of-at}
use Rattle.craig_watch.proofs.LevelsLemmas.{level_at-entry}
use Rattle.craig_watch.proofs.laws.entries_have_places.Goals as goal

pub returns-clause-place : goal.returns-clause-place
returns-clause-place c = place-found

pub returns-clause-entry : goal.returns-clause-entry
returns-clause-entry c = entry_of-at

pub returns-clause-true_literal : goal.returns-clause-true_literal
returns-clause-true_literal c = entry-true

pub returns-clause-false_literal : goal.returns-clause-false_literal
returns-clause-false_literal c = entry-false

pub returns-clause-literal_true : goal.returns-clause-literal_true
returns-clause-literal_true c = true-entry

pub returns-clause-literal_false : goal.returns-clause-literal_false
returns-clause-literal_false c = false-entry

pub returns-clause-level : goal.returns-clause-level
returns-clause-level c = level_at-entry
