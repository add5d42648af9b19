use Rattle.craig_spec.proofs.SevenBitsLemmas.{groups-fewest}
use Rattle.craig_aiger_read.proofs.laws.groups_are_fewest.Goals as goal

pub returns : goal.returns
returns c = groups-fewest
