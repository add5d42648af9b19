use Rattle.craig_search.proofs.DerivedUnitLemmas.{true-at}
use Rattle.craig_search.proofs.units.true_at.Goals as goal

pub returns-clause-true_literal : goal.returns-clause-true_literal
returns-clause-true_literal c = (true-at c.args.held.now c.trail.result.now c.args.place c.index-trail-place.result c.trail.ensures.consistent c.trail.ensures.value c.requires c.index-trail-place.is).0

pub returns-clause-known : goal.returns-clause-known
returns-clause-known c = (true-at c.args.held.now c.trail.result.now c.args.place c.index-trail-place.result c.trail.ensures.consistent c.trail.ensures.value c.requires c.index-trail-place.is).1
