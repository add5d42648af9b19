use Rattle.std.proofs.Common.{arith}
use Rattle.craig_proof.proofs.RowLemmas.{place_stored, read_stored, rising_stored, stored_marked, stored_same}
use Rattle.craig_proof.proofs.stored_steps.StoredSteps.forget.Goals as goal

pub place_of-place-requires : goal.place_of-place-requires
place_of-place-requires c = rw c.as_slice.ensures.value (rising_stored c.self.inside.literals.items c.self.inside.bytes.items c.self.inside.rows.items (rw (← c.self.view_is) at c.requires.rising))

pub index_mut-requires : goal.index_mut-requires
index_mut-requires c =
    let found = rw c.as_slice.ensures.value at c.place_of-place.ensures.found in
    let place = place_stored c.self.inside.literals.items c.self.inside.bytes.items c.self.inside.rows.items c.args.id.0 c.place_of-place.result found (rw (← c.self.view_is) at c.requires.has) in
    omega (arith, place.0, c.self.inside.rows.ok.0)

pub invariant_of-self : goal.invariant_of-self
invariant_of-self c =
    let found = rw c.as_slice.ensures.value at c.place_of-place.ensures.found in
    let place = place_stored c.self.inside.literals.items c.self.inside.bytes.items c.self.inside.rows.items c.args.id.0 c.place_of-place.result found (rw (← c.self.view_is) at c.requires.has) in
    stored_same _ _ _ _ (stored_marked c.self.inside.rows.items c.self.inside.literals.items c.self.inside.bytes.items c.args.id.0 c.place_of-place.result c.index_mut.result.now c.self.invariant (rw (← c.self.view_is) at c.requires.rising) place.0 place.1 c.index_mut.ensures.value)

pub returns : goal.returns
returns c =
    let found = rw c.as_slice.ensures.value at c.place_of-place.ensures.found in
    let place = place_stored c.self.inside.literals.items c.self.inside.bytes.items c.self.inside.rows.items c.args.id.0 c.place_of-place.result found (rw (← c.self.view_is) at c.requires.has) in
    rw (← c.self.view_is) (read_stored _ _ _ _ (stored_marked c.self.inside.rows.items c.self.inside.literals.items c.self.inside.bytes.items c.args.id.0 c.place_of-place.result c.index_mut.result.now c.self.invariant (rw (← c.self.view_is) at c.requires.rising) place.0 place.1 c.index_mut.ensures.value))
