use Rattle.craig_proof.proofs.FollowsLemmas.{AllFollow-told}
use Rattle.craig_proof.proofs.FindingLemmas.{IsNeededPart-exists}
use Rattle.craig_proof.proofs.laws.told_clauses_follow.Goals as goal

pub returns-clause-follows : goal.returns-clause-follows
returns-clause-follows c = AllFollow-told

pub returns-clause-needed : goal.returns-clause-needed
returns-clause-needed c = IsNeededPart-exists
