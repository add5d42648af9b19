use Rattle.craig_spec.specs.Chain.{IsUnforgotten, without_id}
use Rattle.craig_proof.proofs.PairLemmas.{second_meets, Agree-forgotten}
use Rattle.craig_proof.proofs.pair.PairTracer.forget.Goals as goal

pub forget-requires-then-not-self : goal.forget-requires-then-not-self
forget-requires-then-not-self g c =
    let e = c.if-not-self.true in
    second_meets (λ t. IsUnforgotten t.steps c.args.id.0) _ _ c.self.inside.dead e (c.self.invariant e) (rw (← c.self.view_is) at c.requires)

pub invariant_of-self : goal.invariant_of-self
invariant_of-self g c = λ e.
    Agree-forgotten _ _ _ _ (without_id c.args.id.0) (c.self.invariant e) c.forget.ensures.told c.forget-then-not-self.ensures.told
