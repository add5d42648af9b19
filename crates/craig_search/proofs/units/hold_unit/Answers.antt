use Rattle.craig_search.proofs.DerivedUnitLemmas.{DerivesUnits-one}
use Rattle.craig_search.proofs.units.hold_unit.Goals as goal

pub returns-clause-derives : goal.returns-clause-derives
returns-clause-derives g c =
    let e = c.in_ok-unit.ensures in
    DerivesUnits-one c.args.held.now c.hold_derived.new.held c.set_reason.new.self c.args.lit c.in_ok-unit.unit _ _ _ e.goes_on e.stay e.held e.fresh e.only c.set_reason.ensures.rests c.requires.true_literal c.requires.level
