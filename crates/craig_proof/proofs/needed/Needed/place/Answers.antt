use Rattle.std.proofs.Common.{◌≡◌, Global, List, Vec, subst, sym, arith, ℕ}
use Rattle.craig_spec.specs.Chain.{ToldStep}
use Rattle.craig_proof.specs.Lent.{ArePlaces, IsAtPlace}
use Rattle.craig_proof.specs.NeededSteps.{HasId}
use Rattle.craig_proof.proofs.LentLemmas.{has_lent, place_found, place_is, place_there, place_within, places_rise, table_at}
use Rattle.craig_proof.proofs.needed.Needed.place.Goals as goal

pub index-requires : goal.index-requires
index-requires c =
    let places = table_at (λ (v : Vec ℕ Global). v.items) (ArePlaces _) c.self.inside.places c.in-Some.places c.in-Some.is c.self.invariant.places in
    let within = place_within _ c.in-Some.places.items c.args.id.0 places (subst (λ (steps : List ToldStep). HasId steps c.args.id.0) (sym c.self.view_is) c.requires) in
    omega (arith, within, c.in-Some.places.ok)

pub place-requires-clause-has : goal.place-requires-clause-has
place-requires-clause-has c = has_lent c.self.inside.steps.now c.self.inside.needed.items c.args.id.0 c.self.invariant.within (subst (λ (steps : List ToldStep). HasId steps c.args.id.0) (sym c.self.view_is) c.requires)

pub place_among-requires-clause-rising : goal.place_among-requires-clause-rising
place_among-requires-clause-rising c = rw c.as_slice.ensures.value (places_rise c.self.inside.steps.now c.self.inside.needed.items c.self.invariant.all_rising c.self.invariant.within c.self.invariant.rising)

pub place_among-requires-clause-found : goal.place_among-requires-clause-found
place_among-requires-clause-found c = rw c.as_slice.ensures.value (place_there c.self.inside.steps.now c.self.inside.needed.items c.args.id.0 c.place.result c.self.invariant.all_rising c.self.invariant.within (subst (λ (steps : List ToldStep). HasId steps c.args.id.0) (sym c.self.view_is) c.requires) c.place.ensures)

pub returns-in-Some : goal.returns-in-Some
returns-in-Some c =
    let places = table_at (λ (v : Vec ℕ Global). v.items) (ArePlaces _) c.self.inside.places c.in-Some.places c.in-Some.is c.self.invariant.places in
    subst (λ (steps : List ToldStep). IsAtPlace steps c.index.result.now (λ s. s.id ≡ c.args.id.0)) c.self.view_is
    (place_found _ c.in-Some.places.items c.args.id.0 c.index.result.now _ places (subst (λ (steps : List ToldStep). HasId steps c.args.id.0) (sym c.self.view_is) c.requires) c.index.ensures)

pub returns-in-None : goal.returns-in-None
returns-in-None c =
    subst (λ (steps : List ToldStep). IsAtPlace steps c.place_among.result (λ s. s.id ≡ c.args.id.0)) c.self.view_is
    (place_is c.self.inside.steps.now c.self.inside.needed.items c.args.id.0 c.place_among.result c.place.result (rw c.as_slice.ensures.value at c.place_among.ensures) c.place.ensures)
