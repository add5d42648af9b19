use Rattle.craig_proof.proofs.FollowsLemmas.{ChainOk-true}
use Rattle.craig_proof.proofs.ChainGrowthLemmas.{ChainOk-not_tautology}
use Rattle.craig_proof.proofs.laws.chain_follows.Goals as goal

pub returns-clause-follows : goal.returns-clause-follows
returns-clause-follows c = ChainOk-true

pub returns-clause-not_tautology : goal.returns-clause-not_tautology
returns-clause-not_tautology c = ChainOk-not_tautology
