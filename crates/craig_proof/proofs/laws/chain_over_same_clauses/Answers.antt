use Rattle.craig_proof.proofs.ChainLemmas.{ChainOk-same}
use Rattle.craig_proof.proofs.laws.chain_over_same_clauses.Goals as goal

pub returns : goal.returns
returns c = ChainOk-same
