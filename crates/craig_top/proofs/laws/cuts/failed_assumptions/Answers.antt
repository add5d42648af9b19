use Rattle.craig_top.proofs.TruePartsLemmas.{first_ones, first_places_rise}
use Rattle.craig_top.proofs.laws.cuts.failed_assumptions.Goals as goal

pub returns-clause-first : goal.returns-clause-first
returns-clause-first c = first_ones

pub returns-clause-rising : goal.returns-clause-rising
returns-clause-rising c = first_places_rise
