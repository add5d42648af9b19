use Rattle.std.proofs.Common.{refl}
use Rattle.craig_proof.proofs.ToldLemmas.{HasId-unforgotten, IsStore-without_id}
use Rattle.craig_proof.proofs.chain_store.ChainStoreTracer.forget.Goals as goal

pub forget-requires-clause-has : goal.forget-requires-clause-has
forget-requires-clause-has c = HasId-unforgotten c.self.inside.steps c.args.id.0 (rw (← c.self.view_is) at (c.requires c.args.self.now.told refl))

pub invariant_of-self : goal.invariant_of-self
invariant_of-self c = rw c.forget.ensures (IsStore-without_id c.args.id.0 _ c.self.invariant)
