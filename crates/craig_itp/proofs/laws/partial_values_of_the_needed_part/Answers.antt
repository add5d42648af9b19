use Rattle.craig_itp.proofs.NeededPartLemmas.{partial_values-needed}
use Rattle.craig_itp.proofs.laws.partial_values_of_the_needed_part.Goals as goal

pub returns : goal.returns
returns c = partial_values-needed
