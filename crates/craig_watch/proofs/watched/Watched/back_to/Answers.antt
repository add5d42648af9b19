use Rattle.std.proofs.Common.{◌≡◌, inl, inr, false, ℕ, length, ap, sym, subst, ◌∙◌, arith}
use Rattle.std.proofs.lemmas.Bool.Decides.{leb_tells}
use Rattle.craig_watch.specs.Assigned.{AssignedView, IsTrail}
use Rattle.craig_watch.specs.Trail.{decisions, part_up_to}
use Rattle.craig_watch.specs.WatchedState.{IsSound, shown}
use Rattle.craig_watch.proofs.KeepingLemmas.{IsConsistent-part, back-sound}
use Rattle.craig_watch.proofs.watched.Watched.back_to.Goals as goal

pub returns-clause-sound : goal.returns-clause-sound
returns-clause-sound c =
    let s = c.args.self.now in
    let is = c.back_to.ensures.back in
    let trail : IsTrail s.assigned.vars (part_up_to c.args.level s.assigned.trail) = subst (λ (a : AssignedView). IsTrail a.vars a.trail) is c.back_to.ensures.is_trail in
    let level : decisions (part_up_to c.args.level s.assigned.trail) ≡ c.args.level = ap (λ (a : AssignedView). decisions a.trail) (sym is) ∙ c.back_to.ensures.level in
    let long : length c.back_to.new.self.trail ≡ length (part_up_to c.args.level s.assigned.trail) = ap (λ (a : AssignedView). length a.trail) is in
    let least = c.min-self.ensures in
    let len = c.len.ensures in
    subst (λ (a : AssignedView). IsSound (record { arena = s.arena; assigned = a; lists = s.lists; looked = s.looked; walked = c.min-self.result })) (sym is)
    (back-sound s c.args.level c.min-self.result c.requires.sound (IsConsistent-part (shown s) c.args.level c.requires.sound.consistent c.requires.present trail level) c.requires.present (omega arith) (omega arith)
    (elim (leb_tells s.walked (length (part_up_to c.args.level s.assigned.trail))) [ inl low ↦ inl (let p = low.1 in omega arith) | inr high ↦ inr (let p = high.1 in omega arith) ]))

pub returns-clause-back : goal.returns-clause-back
returns-clause-back c =
    let s = c.args.self.now in
    ap (λ (a : AssignedView). record { arena = s.arena; vars = a.vars; trail = a.trail; level = decisions a.trail; dead = false }) c.back_to.ensures.back
    ∙ ap (λ (n : ℕ). record { arena = s.arena; vars = s.assigned.vars; trail = part_up_to c.args.level s.assigned.trail; level = n; dead = false }) (ap (λ (a : AssignedView). decisions a.trail) (sym c.back_to.ensures.back) ∙ c.back_to.ensures.level)
