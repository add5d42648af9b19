use Rattle.craig_proof.proofs.MarkingLemmas.{MarksMore-set, row_found}
use Rattle.craig_proof.proofs.marking.mark.Goals as goal

pub bounds-rows-place : goal.bounds-rows-place
bounds-rows-place c = (row_found c.args.rows.now c.args.id.0 c.place_of-place.result c.requires.has c.place_of-place.ensures.found).0

pub returns : goal.returns
returns c =
    let at = row_found c.args.rows.now c.args.id.0 c.place_of-place.result c.requires.has c.place_of-place.ensures.found in
    MarksMore-set c.args.rows.now c.place_of-place.result c.args.id.0 _ at.0 at.1
