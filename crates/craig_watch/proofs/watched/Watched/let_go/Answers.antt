use Rattle.std.proofs.Common.{Contains, length, ap, sym, subst, arith}
use Rattle.craig_base.specs.Arena.{ArenaView}
use Rattle.craig_watch.specs.Watches.{WatchListView}
use Rattle.craig_watch.proofs.VisitLemmas.{known-at, code-low}
use Rattle.craig_watch.proofs.LookLemmas.{place-watched}
use Rattle.craig_watch.proofs.GoneLemmas.{gone-short, gone-long, first-differs}
use Rattle.craig_watch.proofs.watched.Watched.let_go.Goals as goal

pub returns-then-lits-lt2-clause-sound : goal.returns-then-lits-lt2-clause-sound
returns-then-lits-lt2-clause-sound c = gone-short c.args.self.now c.kill.new.self c.args.id c.lits-lits.result.now c.requires.sound c.kill.ensures.is_arena (ap (λ (a : ArenaView). a.given) c.kill.ensures.without) c.kill.ensures.only c.requires.no_reason c.lits-lits.ensures.literals (omega arith)

pub place_of-place-requires-clause-listed : goal.place_of-place-requires-clause-listed
place_of-place-requires-clause-listed c = code-low c.args.self.now c.index-lits-0.result c.requires.sound (known-at c.args.self.now c.args.id.0 c.lits-lits.result.now 0 c.index-lits-0.result c.requires.sound c.requires.live c.lits-lits.ensures.literals c.index-lits-0.is (omega arith))

pub place_of-place-requires-clause-watched : goal.place_of-place-requires-clause-watched
place_of-place-requires-clause-watched c =
    let same = ap length c.lits-lits.ensures.literals in
    place-watched c.args.self.now c.args.id c.lits-lits.result.now 0 c.index-lits-0.result c.requires.sound c.requires.live c.lits-lits.ensures.literals c.index-lits-0.is (omega arith) (omega arith)

pub returns-clause-sound : goal.returns-clause-sound
returns-clause-sound c = gone-long c.args.self.now c.kill-2.new.self c.remove.new.self c.remove-2.new.self c.args.id c.lits-lits.result.now c.index-lits-0.result c.index-lits-1.result c.place_of-place.result c.place_of-index.result c.requires.sound c.requires.live c.kill-2.ensures.is_arena (ap (λ (a : ArenaView). a.given) c.kill-2.ensures.without) c.kill-2.ensures.only c.requires.no_reason c.lits-lits.ensures.literals (omega arith) c.index-lits-0.is c.index-lits-1.is c.remove.ensures c.remove-2.ensures c.place_of-place.ensures.within c.place_of-index.ensures.within c.place_of-place.ensures.there c.place_of-index.ensures.there

pub place_of-index-requires-clause-listed : goal.place_of-index-requires-clause-listed
place_of-index-requires-clause-listed c =
    let low = code-low c.args.self.now c.index-lits-1.result c.requires.sound (known-at c.args.self.now c.args.id.0 c.lits-lits.result.now 1 c.index-lits-1.result c.requires.sound c.requires.live c.lits-lits.ensures.literals c.index-lits-1.is (omega arith)) in
    let same = c.remove.ensures.sized in
    omega arith

pub place_of-index-requires-clause-watched : goal.place_of-index-requires-clause-watched
place_of-index-requires-clause-watched c =
    let same = ap length c.lits-lits.ensures.literals in
    let has = place-watched c.args.self.now c.args.id c.lits-lits.result.now 1 c.index-lits-1.result c.requires.sound c.requires.live c.lits-lits.ensures.literals c.index-lits-1.is (omega arith) (omega arith) in
    let differ = first-differs c.args.self.now c.args.id c.lits-lits.result.now c.index-lits-0.result c.index-lits-1.result c.requires.sound c.requires.live c.lits-lits.ensures.literals (omega arith) c.index-lits-0.is c.index-lits-1.is in
    subst (λ (w : WatchListView). Contains w.ids c.args.id) (sym (c.remove.ensures.others c.index-lits-1.result (λ e. differ (sym e)))) has
