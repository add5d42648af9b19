use Rattle.craig_base.proofs.FoundLemmas.{literals_of-changed}
use Rattle.craig_base.proofs.laws.one_clause_changes.Goals as goal

pub returns : goal.returns
returns c = literals_of-changed
