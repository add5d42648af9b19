use Rattle.std.proofs.Common.{refl}
use Rattle.craig_spec.specs.Chain.{IsAbove}
use Rattle.craig_proof.specs.StoredSteps.{told_of}
use Rattle.craig_proof.proofs.ToldLemmas.{IsStore-with_step}
use Rattle.craig_proof.proofs.chain_store.ChainStoreTracer.original.Goals as goal

pub invariant_of-self-2 : goal.invariant_of-self-2
invariant_of-self-2 c =
    let above : IsAbove (told_of c.self.inside.greatest c.self.inside.steps) c.args.id.0 = rw (← c.self.view_is) at (c.requires.above c.args.self.now.told refl) in
    rw c.in_ok-push_original.ensures.pushed (IsStore-with_step (told_of c.self.inside.greatest c.self.inside.steps) _ c.self.invariant above tt (λ _. c.requires.normal))
