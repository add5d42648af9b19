use Rattle.craig_proof.proofs.ToldLemmas.{HasId-unforgotten}
use Rattle.craig_proof.proofs.chain_store.ChainStore.needed.Goals as goal

pub of_root-requires-clause-root : goal.of_root-requires-clause-root
of_root-requires-clause-root c = HasId-unforgotten c.self.inside.steps c.args.root.0 (rw (← c.self.view_is) at c.requires)
