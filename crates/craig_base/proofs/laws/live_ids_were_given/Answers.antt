use Rattle.craig_base.proofs.FoundLemmas.{below-given}
use Rattle.craig_base.proofs.laws.live_ids_were_given.Goals as goal

pub returns : goal.returns
returns c = below-given
