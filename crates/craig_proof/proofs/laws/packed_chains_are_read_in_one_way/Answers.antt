use Rattle.craig_spec.proofs.PackedChainLemmas.{packed_chain-injective}
use Rattle.craig_proof.proofs.laws.packed_chains_are_read_in_one_way.Goals as goal

pub returns : goal.returns
returns c = packed_chain-injective
