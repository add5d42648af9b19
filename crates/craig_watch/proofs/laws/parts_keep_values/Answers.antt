use Rattle.craig_watch.proofs.LevelsLemmas.{entry_of-part_kept, value_under-part_kept, value_under-part_above, part_up_to-take}
use Rattle.craig_watch.proofs.TrailLemmas.{value_under-part_free, part_up_to-twice}
use Rattle.craig_watch.proofs.HeldLemmas.{part_up_to-present}
use Rattle.craig_watch.proofs.laws.parts_keep_values.Goals as goal

pub returns-clause-entry : goal.returns-clause-entry
returns-clause-entry c = entry_of-part_kept

pub returns-clause-value : goal.returns-clause-value
returns-clause-value c = value_under-part_kept

pub returns-clause-above : goal.returns-clause-above
returns-clause-above c = value_under-part_above

pub returns-clause-free : goal.returns-clause-free
returns-clause-free c = value_under-part_free

pub returns-clause-first_places : goal.returns-clause-first_places
returns-clause-first_places c = part_up_to-take

pub returns-clause-twice : goal.returns-clause-twice
returns-clause-twice c = part_up_to-twice

pub returns-clause-present : goal.returns-clause-present
returns-clause-present c = part_up_to-present
