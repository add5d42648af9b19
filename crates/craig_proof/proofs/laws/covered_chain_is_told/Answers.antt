use Rattle.craig_proof.proofs.CoversLemmas.{IsCovering-above, IsCovering-held, IsCovering-antecedents, IsCovering-chain}
use Rattle.craig_proof.proofs.laws.covered_chain_is_told.Goals as goal

pub returns-clause-above : goal.returns-clause-above
returns-clause-above c = IsCovering-above

pub returns-clause-unforgotten : goal.returns-clause-unforgotten
returns-clause-unforgotten c = IsCovering-held

pub returns-clause-antecedents : goal.returns-clause-antecedents
returns-clause-antecedents c = IsCovering-antecedents

pub returns-clause-chain : goal.returns-clause-chain
returns-clause-chain c = IsCovering-chain
