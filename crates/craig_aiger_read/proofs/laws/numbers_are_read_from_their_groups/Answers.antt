use Rattle.craig_spec.proofs.SevenBitsLemmas.{first_number-groups}
use Rattle.craig_aiger_read.proofs.laws.numbers_are_read_from_their_groups.Goals as goal

pub returns : goal.returns
returns c = first_number-groups
