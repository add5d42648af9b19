use Rattle.std.specs.Option.{option_map}
use Rattle.craig_proof.proofs.ReclaimLemmas.{IsStore-reclaims}
use Rattle.craig_proof.proofs.chain_store.ChainStoreTracer.reclaim.Goals as goal

pub invariant_of-self : goal.invariant_of-self
invariant_of-self c = IsStore-reclaims _ _ c.self.invariant (c.reclaim.ensures.reclaims (option_map (λ id. id.0) c.self.inside.greatest))

pub returns-clause-in_use : goal.returns-clause-in_use
returns-clause-in_use c = rw (← c.self.view_is) c.reclaim.ensures.in_use
