use Rattle.craig_watch.proofs.AssertingLemmas.{reason-places}
use Rattle.craig_watch.proofs.laws.reasons_stand_before.Goals as goal

pub returns : goal.returns
returns c = reason-places
