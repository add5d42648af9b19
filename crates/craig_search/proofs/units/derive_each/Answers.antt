use Rattle.std.proofs.Common.{◌∙◌}
use Rattle.craig_search.proofs.DerivedUnitLemmas.{DerivesUnits-twice}
use Rattle.craig_search.proofs.units.derive_each.Goals as goal

pub loop-place-preserved : goal.loop-place-preserved
loop-place-preserved g c =
    let step = c.in_ok-derive_unit.ensures in
    record {
      derives = DerivesUnits-twice c.args.held.now c.loop-place.held c.derive_unit.new.held _ _ _ c.loop-place.invariant.derives step.derives;
      consistent = step.consistent;
      covers = step.covers;
      tells = step.tells ∙ c.loop-place.invariant.tells;
      kept = step.kept ∙ c.loop-place.invariant.kept;
    }
