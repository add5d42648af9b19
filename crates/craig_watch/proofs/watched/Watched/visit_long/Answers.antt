use Rattle.std.proofs.Common.{◌<◌, ◌-◌, length, ap, sym, ◌∙◌, arith}
use Rattle.craig_base.specs.Arena.{literals_at}
use Rattle.craig_watch.proofs.VisitLemmas.{known-at, entry-watches, watched-long, watched-live, has-read, reached-true, Continues-beside, visited-beside}
use Rattle.craig_watch.proofs.watched.Watched.visit_long.Goals as goal

pub own_place-place-requires : goal.own_place-place-requires
own_place-place-requires c = entry-watches c.args.self.now c.args.lit c.args.index c.id-id.result c.requires.sound c.requires.within c.id-id.ensures

pub lits-requires : goal.lits-requires
lits-requires c = watched-live c.args.self.now c.args.lit c.args.index c.id-id.result c.requires.sound c.requires.within c.id-id.ensures

pub bounds-lits-place : goal.bounds-lits-place
bounds-lits-place c =
    let long : 1 < length (literals_at c.args.self.now.arena c.id-id.result.0) = watched-long c.args.self.now c.args.lit c.args.index c.id-id.result c.requires.sound c.requires.within c.id-id.ensures in
    let same = ap length c.lits.ensures.literals in
    omega arith

pub value-requires : goal.value-requires
value-requires c =
    let long : 1 < length (literals_at c.args.self.now.arena c.id-id.result.0) = watched-long c.args.self.now c.args.lit c.args.index c.id-id.result c.requires.sound c.requires.within c.id-id.ensures in
    let same = ap length c.lits.ensures.literals in
    let live = watched-live c.args.self.now c.args.lit c.args.index c.id-id.result c.requires.sound c.requires.within c.id-id.ensures in
    known-at c.args.self.now c.id-id.result.0 c.lits.result.now (1 - c.own_place-place.result) c.index-lits-place.result c.requires.sound live c.lits.ensures.literals c.index-lits-place.is (omega arith)

pub returns-in-True-clause-continues : goal.returns-in-True-clause-continues
returns-in-True-clause-continues c =
    let long : 1 < length (literals_at c.args.self.now.arena c.id-id.result.0) = watched-long c.args.self.now c.args.lit c.args.index c.id-id.result c.requires.sound c.requires.within c.id-id.ensures in
    let same = ap length c.lits.ensures.literals in
    Continues-beside c.args.self.now c.set_beside.new.self c.args.lit c.args.index c.index-lits-place.result c.requires.sound c.requires.within (has-read c.args.self.now c.args.lit c.args.index c.id-id.result c.lits.result.now (1 - c.own_place-place.result) c.index-lits-place.result c.requires.within c.id-id.ensures c.lits.ensures.literals (omega arith) c.index-lits-place.is) c.set_beside.ensures

pub returns-in-True-clause-visited : goal.returns-in-True-clause-visited
returns-in-True-clause-visited c =
    let long : 1 < length (literals_at c.args.self.now.arena c.id-id.result.0) = watched-long c.args.self.now c.args.lit c.args.index c.id-id.result c.requires.sound c.requires.within c.id-id.ensures in
    let same = ap length c.lits.ensures.literals in
    visited-beside c.args.self.now c.set_beside.new.self c.args.lit c.args.index _ c.set_beside.ensures
    (reached-true c.args.self.now c.args.lit c.args.index c.index-lits-place.result c.requires (sym c.value.ensures ∙ c.in-True.is) (has-read c.args.self.now c.args.lit c.args.index c.id-id.result c.lits.result.now (1 - c.own_place-place.result) c.index-lits-place.result c.requires.within c.id-id.ensures c.lits.ensures.literals (omega arith) c.index-lits-place.is))
