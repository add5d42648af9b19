use Rattle.craig_top.proofs.TruePartsLemmas.{are_implied, are_refuted, imply_later, of_cuts, reach_shared, rising_up_to}
use Rattle.craig_top.proofs.laws.cuts.interpolants_at_cuts.Goals as goal

pub returns-clause-chosen : goal.returns-clause-chosen
returns-clause-chosen c = rising_up_to

pub returns-clause-cuts : goal.returns-clause-cuts
returns-clause-cuts c = of_cuts

pub returns-clause-implied : goal.returns-clause-implied
returns-clause-implied c = are_implied

pub returns-clause-refuted : goal.returns-clause-refuted
returns-clause-refuted c = are_refuted

pub returns-clause-shared : goal.returns-clause-shared
returns-clause-shared c = reach_shared

pub returns-clause-onward : goal.returns-clause-onward
returns-clause-onward c = imply_later
