use Rattle.std.proofs.Common.{◌≡◌, ◌≤◌, ◌<◌, ◌+◌, ◌⊎◌, inl, inr, ℕ, length, ap, sym, subst, arith}
use Rattle.craig_watch.specs.Assigned.{AssignedView}
use Rattle.craig_watch.specs.Trail.{decisions}
use Rattle.craig_watch.specs.WatchedState.{IsSound, shown}
use Rattle.craig_watch.proofs.HeldLemmas.{level-bounded}
use Rattle.craig_watch.proofs.KeepingLemmas.{decided-sound}
use Rattle.craig_watch.proofs.watched.Watched.decide.Goals as goal
use Rattle.craig_watch.proofs.watched.Watched.decide.Goals.{then-self-len, else-self-len}

pub overflow_add-level : goal.overflow_add-level
overflow_add-level c =
    let low : decisions c.args.self.now.assigned.trail ≤ c.args.self.now.assigned.vars = level-bounded (shown c.args.self.now) c.requires.sound.consistent in
    let few = c.requires.sound.consistent.few in
    let is = c.level-level.ensures.value in
    omega arith

pub returns-clause-sound : goal.returns-clause-sound
returns-clause-sound c =
    let s = c.args.self.now in
    let which : ((s.walked < length s.assigned.trail) × (c.if-self-len.looked ≡ 0)) ⊎ ((length s.assigned.trail ≤ s.walked) × (c.if-self-len.looked ≡ s.looked)) =
    elim c.if-self-len.branch [
      | then-self-len w ↦ inl (omega (arith, w.if-self-len.true, c.len.ensures), w.looked-is)
      | else-self-len w ↦ inr (omega (arith, w.if-self-len.false, c.len.ensures), w.looked-is)
    ] in
    subst (λ (n : ℕ). IsSound (record { arena = s.arena; assigned = c.push.new.self; lists = s.lists; looked = c.if-self-len.looked; walked = n })) (sym c.len-self.ensures)
    (subst (λ (a : AssignedView). IsSound (record { arena = s.arena; assigned = a; lists = s.lists; looked = c.if-self-len.looked; walked = length s.assigned.trail })) (sym c.push.ensures.pushed)
    (decided-sound s c.args.literal (c.level-level.result + 1) c.if-self-len.looked c.requires.sound c.requires.known c.requires.free c.requires.complete (ap (λ (n : ℕ). n + 1) c.level-level.ensures.value) which))
