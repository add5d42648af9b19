use Rattle.craig_script.proofs.LinesLemmas.{fed-with_given, ended-with_given}
use Rattle.craig_script.proofs.laws.given_before.Goals as goal

pub returns-clause-fed : goal.returns-clause-fed
returns-clause-fed c = fed-with_given

pub returns-clause-ended : goal.returns-clause-ended
returns-clause-ended c = ended-with_given
