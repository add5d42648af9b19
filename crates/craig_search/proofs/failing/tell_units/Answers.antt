use Rattle.std.proofs.Common.{◌∙◌}
use Rattle.std.proofs.lemmas.List.{get_or_default}
use Rattle.craig_search.proofs.FailureLemmas.{covers-next, numbered-ids, steps-next, units-next}
use Rattle.craig_search.proofs.failing.tell_units.Goals as goal

pub loop-place-preserved : goal.loop-place-preserved
loop-place-preserved g c =
    let h = c.args.held.now in
    let inv = c.loop-place.invariant in
    record {
      numbered = numbered-ids h c.loop-place.held c.number.new.self c.loop-place.place-index inv.numbered c.in_ok-id.ensures.numbered;
      steps = steps-next h c.loop-place.held c.number.new.self c.args.assumptions.now c.args.places.now c.loop-place.place-index _ c.at-lit.result c.in_ok-id.id c.requires.places c.loop-place-test.true (get_or_default c.args.places.now c.loop-place.place-index _ _ c.loop-place-test.true) c.at-lit.ensures inv.numbered c.in_ok-id.ensures.numbered c.in_ok-id.ensures.next c.args.steps.now c.loop-place.steps c.push.new.self c.not-pivot.result inv.steps c.in_ok-push.ensures.pushed c.not-pivot.ensures;
      units = units-next h c.loop-place.held c.number.new.self c.args.assumptions.now c.args.places.now c.loop-place.place-index _ c.at-lit.result c.in_ok-id.id c.requires.places c.loop-place-test.true (get_or_default c.args.places.now c.loop-place.place-index _ _ c.loop-place-test.true) c.at-lit.ensures inv.numbered c.in_ok-id.ensures.numbered c.in_ok-id.ensures.next (g.T.Tracer.told c.args.tracer.now) (g.T.Tracer.told c.loop-place.tracer) (g.T.Tracer.told c.original.new.self) inv.units c.in_ok-original.ensures.told;
      covers = covers-next h c.loop-place.held c.number.new.self c.args.assumptions.now c.args.places.now c.loop-place.place-index _ c.at-lit.result c.in_ok-id.id c.requires.places c.loop-place-test.true (get_or_default c.args.places.now c.loop-place.place-index _ _ c.loop-place-test.true) c.at-lit.ensures inv.numbered c.in_ok-id.ensures.numbered c.in_ok-id.ensures.next (g.T.Tracer.told c.loop-place.tracer) (g.T.Tracer.told c.original.new.self) inv.covers c.in_ok-original.ensures.told;
      tells = c.original.ensures.tells ∙ inv.tells;
      kept = c.original.ensures.kept ∙ inv.kept;
    }
