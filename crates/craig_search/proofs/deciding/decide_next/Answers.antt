use Rattle.std.proofs.Common.{◌+◌, None, inr, refl, ap, ◌∙◌, arith, get_or}
use Rattle.std.proofs.lemmas.Option.{slice_get-get_or}
use Rattle.craig_watch.specs.declared.trail_entry.TrailEntry.{TrailEntry}
use Rattle.craig_watch.specs.Held.{HeldView}
use Rattle.craig_search.proofs.AssumingLemmas.{assumed-turn, decided-push, found-assumed}
use Rattle.craig_search.proofs.ReadyLemmas.{IsFound-complete, IsReady-decided}
use Rattle.craig_search.proofs.deciding.decide_next.Goals as goal

pub returns-then-place-assumptions-clause-turn : goal.returns-then-place-assumptions-clause-turn
returns-then-place-assumptions-clause-turn c =
    let a = get_or c.args.assumptions.now c.args.place c.index-assumptions-place.result in
    let at = slice_get-get_or c.args.assumptions.now c.args.place c.index-assumptions-place.result c.if-place-assumptions.true in
    assumed-turn c.args.assumptions.now c.args.held.now c.decide_assumed.new.held c.args.order.now c.args.place a c.decide_assumed.result c.requires.ready c.requires.decided c.if-place-assumptions.true at (c.requires.waiting a at) c.decide_assumed.ensures.turn

pub returns-in-None-clause-turn : goal.returns-in-None-clause-turn
returns-in-None-clause-turn c = (
  refl,
  found-assumed c.args.held.now c.args.assumptions.now c.args.place (IsFound-complete c.args.held.now c.requires.consistent c.requires.complete (c.next.ensures.none c.in-None.is)) c.requires.before (omega (arith, c.if-place-assumptions.false)),
  c.next.ensures.others.known ∙ c.requires.ready.known,
)

pub returns-in-Some-clause-turn : goal.returns-in-Some-clause-turn
returns-in-Some-clause-turn c =
    let old = c.args.held.now in
    let new = c.decide.new.self in
    let is = c.decide.ensures.decided in
    let e : TrailEntry = record { literal = c.in-Some.lit; level = old.level + 1; reason = None } in (
      c.in-Some.lit,
      is,
      IsReady-decided old new c.args.order.now c.next.new.self e c.requires.ready (ap (λ (h : HeldView). h.vars) is) (ap (λ (h : HeldView). h.trail) is) c.in-Some.ensures.others,
      decided-push c.args.assumptions.now old.trail new.trail e (ap (λ (h : HeldView). h.trail) is) c.requires.decided (inr (λ p a low at. c.requires.before p a (omega (arith, low, c.if-place-assumptions.false)) at)),
    )
