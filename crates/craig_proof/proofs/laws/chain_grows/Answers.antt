use Rattle.craig_proof.proofs.ChainGrowthLemmas.{ChainOk-start, ChainOk-push, ChainOk-order}
use Rattle.craig_proof.proofs.laws.chain_grows.Goals as goal

pub returns-clause-start : goal.returns-clause-start
returns-clause-start c = ChainOk-start

pub returns-clause-step : goal.returns-clause-step
returns-clause-step c = ChainOk-push

pub returns-clause-order : goal.returns-clause-order
returns-clause-order c = ChainOk-order
