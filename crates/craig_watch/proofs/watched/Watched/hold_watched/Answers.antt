use Rattle.std.proofs.Common.{◌≢◌, Some, arith, ap, sym, subst, refl, ◌∙◌}
use Rattle.craig_base.specs.Arena.{ArenaView, ChangesOnly}
use Rattle.craig_watch.specs.declared.watched.Watched.{Watched}
use Rattle.craig_watch.specs.WatchedState.{IsSound}
use Rattle.std.proofs.lemmas.List.{get_or_default}
use Rattle.craig_watch.proofs.SwapLemmas.{differ-at}
use Rattle.craig_watch.proofs.KeepingLemmas.{grown-sound}
use Rattle.craig_watch.proofs.CameLemmas.{came-long, popped-both}
use Rattle.craig_watch.proofs.watched.Watched.hold_watched.Goals as goal

pub returns-in_err-watch_both-clause-sound : goal.returns-in_err-watch_both-clause-sound
returns-in_err-watch_both-clause-sound c =
    let few = c.requires.sound.consistent.few in
    let sized = c.requires.sound.watched.listed.sized in
    let long = c.watch_both.ensures.sized in
    subst IsSound (sym c.watch_both.ensures.rest)
    (grown-sound c.args.self.now c.args.self.now.assigned.vars c.watch_both.new.self.lists c.requires.sound (omega arith) few (omega arith) c.in_err-watch_both.ensures.same)

pub returns-in-Ok-clause-sound : goal.returns-in-Ok-clause-sound
returns-in-Ok-clause-sound c =
    let s = c.args.self.now in
    let arena = ap (λ (w : Watched). w.arena) c.watch_both.ensures.rest in
    let next = c.in-Ok.ensures.next ∙ ap (λ (a : ArenaView). a.given) arena in
    let given = ap (λ (a : ArenaView). a.given) (c.in-Ok.ensures.added) in
    let same = ap (λ (a : ArenaView). a.given) arena in
    subst (λ (w : Watched). IsSound (record { arena = c.add.new.self; assigned = w.assigned; lists = c.watch_both.new.self.lists; looked = w.looked; walked = w.walked })) (sym c.watch_both.ensures.rest)
    (came-long s c.add.new.self c.watch_both.new.self.lists _ c.in-Ok.given (record { literals = c.args.lits.now; flags = c.args.flags }) c.args.lits.now c.index-lits-0.result c.index-lits-1.result c.requires.sound c.in-Ok.ensures.is_arena (omega arith) c.given.ensures.value next
    (subst (λ (a : ArenaView). ChangesOnly a c.add.new.self c.in-Ok.given.0 (Some (record { literals = c.args.lits.now; flags = c.args.flags }))) arena c.in-Ok.ensures.only)
    refl c.requires.normal c.requires.known c.requires.fits c.requires.long c.index-lits-0.is c.index-lits-1.is c.watch_both.ensures.sized c.in_ok-watch_both.ensures.watched)

pub returns-in-Err-clause-sound : goal.returns-in-Err-clause-sound
returns-in-Err-clause-sound c =
    let s = c.args.self.now in
    let few = c.requires.sound.consistent.few in
    let sized = c.requires.sound.watched.listed.sized in
    let long = c.watch_both.ensures.sized in
    let one = c.pop.ensures.sized in
    let two = c.pop-in-Err.ensures.sized in
    let differ : c.index-lits-0.result ≢ c.index-lits-1.result = λ e. differ-at c.args.lits.now 0 1 c.index-lits-0.result c.requires.normal.distinct (omega arith) c.requires.long (omega arith) (sym c.index-lits-0.is ∙ e ∙ c.index-lits-1.is ∙ get_or_default c.args.lits.now 1 c.index-lits-1.result c.index-lits-0.result c.requires.long) in
    let same = popped-both s.lists c.watch_both.new.self.lists c.pop.new.self c.pop-in-Err.new.self _ c.index-lits-0.result c.index-lits-1.result _ differ c.in_ok-watch_both.ensures.watched c.pop.ensures c.pop-in-Err.ensures in
    let arena = c.in-Err.ensures.unchanged ∙ ap (λ (w : Watched). w.arena) c.watch_both.ensures.rest in
    subst (λ (w : Watched). IsSound (record { arena = c.add.new.self; assigned = w.assigned; lists = c.pop-in-Err.new.self; looked = w.looked; walked = w.walked })) (sym c.watch_both.ensures.rest)
    (subst (λ (a : ArenaView). IsSound (record { arena = a; assigned = s.assigned; lists = c.pop-in-Err.new.self; looked = s.looked; walked = s.walked })) (sym arena)
    (grown-sound s s.assigned.vars c.pop-in-Err.new.self c.requires.sound (omega arith) few (omega arith) same))
