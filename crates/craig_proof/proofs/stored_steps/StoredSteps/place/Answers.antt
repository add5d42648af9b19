use Rattle.craig_proof.proofs.RowLemmas.{at_stored, length-rows, place_stored, rising_stored}
use Rattle.craig_proof.proofs.stored_steps.StoredSteps.place.Goals as goal

pub place_of-requires : goal.place_of-requires
place_of-requires c = rw c.as_slice.ensures.value (rising_stored c.self.inside.literals.items c.self.inside.bytes.items c.self.inside.rows.items (rw (← c.self.view_is) at c.requires.rising))

pub returns : goal.returns
returns c =
    let found = rw c.as_slice.ensures.value at c.place_of.ensures.found in
    let place = place_stored c.self.inside.literals.items c.self.inside.bytes.items c.self.inside.rows.items c.args.id.0 c.place_of.result found (rw (← c.self.view_is) at c.requires.has) in
    rw (← c.self.view_is) (at_stored _ c.args.id.0 c.place_of.result (rw length-rows place.0) place.1)
