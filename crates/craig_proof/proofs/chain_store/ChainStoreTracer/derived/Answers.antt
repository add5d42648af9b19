use Rattle.std.proofs.Common.{refl}
use Rattle.craig_spec.specs.Chain.{IsAbove}
use Rattle.craig_proof.specs.StoredSteps.{told_of}
use Rattle.craig_proof.proofs.ToldLemmas.{IsStore-with_step, antecedents_below, first_below}
use Rattle.craig_proof.proofs.chain_store.ChainStoreTracer.derived.Goals as goal

pub push_derived-requires-clause-first : goal.push_derived-requires-clause-first
push_derived-requires-clause-first c =
    let above : IsAbove (told_of c.self.inside.greatest c.self.inside.steps) c.args.id.0 = rw (← c.self.view_is) at (c.requires.above c.args.self.now.told refl) in
    first_below _ c.args.id.0 c.args.first.0 c.args.rest.now c.self.invariant.told above (rw (← c.self.view_is) at (c.requires.unforgotten c.args.self.now.told refl))

pub push_derived-requires-clause-rest : goal.push_derived-requires-clause-rest
push_derived-requires-clause-rest c =
    let above : IsAbove (told_of c.self.inside.greatest c.self.inside.steps) c.args.id.0 = rw (← c.self.view_is) at (c.requires.above c.args.self.now.told refl) in
    antecedents_below _ c.args.id.0 c.args.first.0 c.args.rest.now c.self.invariant.told above (rw (← c.self.view_is) at (c.requires.unforgotten c.args.self.now.told refl))

pub invariant_of-self-2 : goal.invariant_of-self-2
invariant_of-self-2 c =
    let above : IsAbove (told_of c.self.inside.greatest c.self.inside.steps) c.args.id.0 = rw (← c.self.view_is) at (c.requires.above c.args.self.now.told refl) in
    let chain = rw (← c.self.view_is) at (c.requires.chain c.args.self.now.told refl) in
    rw c.in_ok-push_derived.ensures.pushed (IsStore-with_step (told_of c.self.inside.greatest c.self.inside.steps) _ c.self.invariant above chain (λ no. absurd no))
