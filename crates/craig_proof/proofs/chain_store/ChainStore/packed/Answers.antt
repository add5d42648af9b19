use Rattle.craig_spec.proofs.MemberLemmas.{slice_get-below}
use Rattle.craig_proof.proofs.LentLemmas.{derived_bytes, has_derived}
use Rattle.craig_proof.proofs.chain_store.ChainStore.packed.Goals as goal

pub place-requires-clause-has : goal.place-requires-clause-has
place-requires-clause-has c =
    let h = rw (← c.self.view_is) at c.requires in
    has_derived c.self.inside.steps c.args.id.0 h.0 h.1 h.2

pub packed-requires : goal.packed-requires
packed-requires c = slice_get-below c.self.inside.steps c.place.result c.place.ensures.0 c.place.ensures.1

pub returns : goal.returns
returns c = λ first rest kept.
    derived_bytes c.self.inside.steps c.args.id.0 first rest c.place.result c.packed.result.now c.self.invariant.told.rising (rw (← c.self.view_is) at kept) c.place.ensures c.packed.ensures
