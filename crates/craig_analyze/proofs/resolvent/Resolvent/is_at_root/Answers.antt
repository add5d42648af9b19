use Rattle.std.proofs.Common.{sym, ◌∙◌, eqb-true, heap_items}
use Rattle.std.proofs.lemmas.List.Sorted.{le_from_greatest}
use Rattle.craig_analyze.proofs.LevelLemmas.{all-root}
use Rattle.craig_analyze.proofs.resolvent.Resolvent.is_at_root.Goals as goal

pub returns-in-Some-clause-root : goal.returns-in-Some-clause-root
returns-in-Some-clause-root c is =
    let places = heap_items c.args.self.now.pending in
    let below = le_from_greatest c.in-Some.place.now places (c.in-Some.ensures.greatest c.args.self.now.ordered) in
    all-root c.args.held.now.trail places c.in-Some.place.now c.level_at_place.ensures.consistent.levels c.requires c.in-Some.ensures.lookup below (sym c.level_at_place.ensures.level ∙ eqb-true c.level_at_place.result 0 is)
