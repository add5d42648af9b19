use Rattle.std.proofs.Common.{◌≡◌, ◌-◌, ℕ, ◌<◌, true, All, length, refl, sym, subst, ap}
use Rattle.craig_spec.specs.Literal.{Literal}
use Rattle.craig_order.specs.Order.{is_given_back}
use Rattle.craig_watch.specs.declared.trail_entry.TrailEntry.{TrailEntry}
use Rattle.craig_watch.specs.Held.{HeldView}
use Rattle.craig_search.proofs.PlaceLemmas.{from_place, on_part}
use Rattle.craig_search.proofs.ReadyLemmas.{IsReady-back}
use Rattle.craig_search.proofs.going_back.go_back.Goals as goal

pub give_back_each-requires : goal.give_back_each-requires
give_back_each-requires c =
    let h = c.args.held.now in
    let known = subst (λ (n : ℕ). All (λ (e : TrailEntry). e.literal.var < n) h.trail) (sym c.requires.ready.known) c.trail.ensures.consistent.known in
    on_part (λ (l : Literal). l.var < length c.args.order.now.given_back) h.trail c.trail.result.now (length c.trail.result.now - c.first_above-place.result) c.first_above-place.result c.trail.ensures.value known

pub returns-clause-ready : goal.returns-clause-ready
returns-clause-ready c =
    let h = c.args.held.now in
    let p = c.give_back_each.new.order in
    let given = from_place (λ (l : Literal). is_given_back p l.var ≡ true) h.trail c.trail.result.now _ c.first_above-place.result c.trail.ensures.value refl c.first_above-place.ensures.within c.give_back_each.ensures.given in
    IsReady-back h c.back_to.new.self c.args.order.now p c.args.level c.first_above-place.result c.requires.ready (ap (λ (n : HeldView). n.vars) c.back_to.ensures.back) (ap (λ (n : HeldView). n.trail) c.back_to.ensures.back) c.give_back_each.ensures.known c.give_back_each.ensures.kept c.first_above-place.ensures.upto given (λ v e found low. c.parts_keep_values.ensures.entry c.args.level h.trail v e c.trail.ensures.consistent.levels found low) (λ v e found. c.entries_have_places.ensures.place h.trail v e found)
