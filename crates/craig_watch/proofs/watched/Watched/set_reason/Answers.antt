use Rattle.std.proofs.Common.{◌≡◌, ℕ, false, Option, IsSome, refl, ap, sym, subst, ◌∙◌, arith}
use Rattle.craig_watch.specs.Assigned.{AssignedView}
use Rattle.craig_watch.specs.declared.trail_entry.TrailEntry.{TrailEntry}
use Rattle.craig_watch.specs.Trail.{IsAssigned, decisions, with_reason}
use Rattle.craig_watch.specs.WatchedState.{IsSound}
use Rattle.craig_watch.proofs.PlacesLemmas.{entry-true}
use Rattle.craig_watch.proofs.RestingLemmas.{rested-sound}
use Rattle.craig_watch.proofs.ReasonLemmas.{decisions-rested}
use Rattle.craig_watch.proofs.watched.Watched.set_reason.Goals as goal

pub set_reason-requires-clause-assigned : goal.set_reason-requires-clause-assigned
set_reason-requires-clause-assigned c =
    let t = c.args.self.now.assigned.trail in
    let e = entry-true t c.args.literal c.requires.true_literal in
    subst (IsAssigned t) (sym c.var.ensures.value) (subst (λ (o : Option TrailEntry). IsSome o) (sym e.1) refl)

pub returns-clause-rests : goal.returns-clause-rests
returns-clause-rests c =
    let s = c.args.self.now in
    let t = s.assigned.trail in
    let v = c.args.literal.var in
    let is = c.set_reason.ensures.rests ∙ ap (λ (n : ℕ). record { vars = s.assigned.vars; trail = with_reason n c.args.id t }) c.var.ensures.value in
    let few = decisions-rested v c.args.id t in
    let none = c.requires.level in
    let same : decisions (with_reason v c.args.id t) ≡ decisions t = omega (arith, few, none) in
    ap (λ (a : AssignedView). record { arena = s.arena; vars = a.vars; trail = a.trail; level = decisions a.trail; dead = false }) is
    ∙ ap (λ (n : ℕ). record { arena = s.arena; vars = s.assigned.vars; trail = with_reason v c.args.id t; level = n; dead = false }) same

pub returns-clause-sound : goal.returns-clause-sound
returns-clause-sound c =
    let s = c.args.self.now in
    let is = c.set_reason.ensures.rests ∙ ap (λ (n : ℕ). record { vars = s.assigned.vars; trail = with_reason n c.args.id s.assigned.trail }) c.var.ensures.value in
    subst (λ (a : AssignedView). IsSound (record { arena = s.arena; assigned = a; lists = s.lists; looked = s.looked; walked = s.walked })) (sym is) (rested-sound s c.args.literal c.args.id c.requires.sound c.requires.level c.requires.true_literal c.requires.unit)
