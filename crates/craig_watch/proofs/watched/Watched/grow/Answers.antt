use Rattle.std.proofs.Common.{arith, sym, subst}
use Rattle.craig_watch.specs.Assigned.{AssignedView}
use Rattle.craig_watch.specs.WatchedState.{IsSound}
use Rattle.craig_watch.proofs.KeepingLemmas.{grown-sound}
use Rattle.craig_watch.proofs.watched.Watched.grow.Goals as goal

pub returns-in_err-grow-clause-sound : goal.returns-in_err-grow-clause-sound
returns-in_err-grow-clause-sound c =
    let few = c.requires.sound.consistent.few in
    let sized = c.requires.sound.watched.listed.sized in
    let more = c.grow.ensures.more in
    grown-sound c.args.self.now c.args.self.now.assigned.vars c.grow.new.self c.requires.sound (omega arith) few (omega arith) c.grow.ensures.same

pub returns-in_err-grow-2-clause-sound : goal.returns-in_err-grow-2-clause-sound
returns-in_err-grow-2-clause-sound c =
    let few = c.requires.sound.consistent.few in
    let sized = c.requires.sound.watched.listed.sized in
    let more = c.grow.ensures.more in
    subst (λ (a : AssignedView). IsSound (record { arena = c.args.self.now.arena; assigned = a; lists = c.grow.new.self; looked = c.args.self.now.looked; walked = c.args.self.now.walked })) (sym c.in_err-grow-2.ensures.unchanged)
    (grown-sound c.args.self.now c.args.self.now.assigned.vars c.grow.new.self c.requires.sound (omega arith) few (omega arith) c.grow.ensures.same)

pub returns-clause-sound : goal.returns-clause-sound
returns-clause-sound c =
    subst (λ (a : AssignedView). IsSound (record { arena = c.args.self.now.arena; assigned = a; lists = c.grow.new.self; looked = c.args.self.now.looked; walked = c.args.self.now.walked })) (sym c.in_ok-grow-2.ensures.known)
    (grown-sound c.args.self.now c.args.vars c.grow.new.self c.requires.sound c.requires.more c.requires.few c.in_ok-grow.ensures.sized c.grow.ensures.same)
