use Rattle.std.proofs.Common.{◌<◌, ◌-◌, length, ap, refl, sym, subst, ◌∙◌, arith}
use Rattle.craig_base.specs.Arena.{literals_at}
use Rattle.craig_watch.specs.declared.watched.Watched.{Watched}
use Rattle.craig_watch.specs.declared.visit.Visit.TheVariants.{Stays}
use Rattle.craig_watch.specs.WatchedState.{HasVisited}
use Rattle.craig_watch.proofs.VisitLemmas.{known-at, watched-long, watched-live, has-read, unit-forced, unit-falsified, reached-true, reached-forced, entry-any}
use Rattle.craig_watch.proofs.watched.Watched.visit_unit.Goals as goal

pub lits-requires : goal.lits-requires
lits-requires c = watched-live c.args.self.now c.args.lit c.args.index c.args.id c.requires.visiting.sound c.requires.visiting.within (sym c.requires.entry)

pub bounds-lits-place : goal.bounds-lits-place
bounds-lits-place c =
    let long : 1 < length (literals_at c.args.self.now.arena c.args.id.0) = watched-long c.args.self.now c.args.lit c.args.index c.args.id c.requires.visiting.sound c.requires.visiting.within (sym c.requires.entry) in
    let same = ap length c.lits.ensures.literals in
    omega arith

pub value-requires : goal.value-requires
value-requires c =
    let long : 1 < length (literals_at c.args.self.now.arena c.args.id.0) = watched-long c.args.self.now c.args.lit c.args.index c.args.id c.requires.visiting.sound c.requires.visiting.within (sym c.requires.entry) in
    let same = ap length c.lits.ensures.literals in
    let live = watched-live c.args.self.now c.args.lit c.args.index c.args.id c.requires.visiting.sound c.requires.visiting.within (sym c.requires.entry) in
    known-at c.args.self.now c.args.id.0 c.lits.result.now (1 - c.args.place) c.index-lits-place.result c.requires.visiting.sound live c.lits.ensures.literals c.index-lits-place.is (omega arith)

pub force-requires-clause-forced : goal.force-requires-clause-forced
force-requires-clause-forced c =
    let long : 1 < length (literals_at c.args.self.now.arena c.args.id.0) = watched-long c.args.self.now c.args.lit c.args.index c.args.id c.requires.visiting.sound c.requires.visiting.within (sym c.requires.entry) in
    let same = ap length c.lits.ensures.literals in
    let live = watched-live c.args.self.now c.args.lit c.args.index c.args.id c.requires.visiting.sound c.requires.visiting.within (sym c.requires.entry) in
    unit-forced c.args.self.now c.args.lit c.args.id c.lits.result.now c.index-lits-place.result c.args.place live c.requires.visiting.falsified c.requires.own c.requires.rest c.lits.ensures.literals (omega arith) c.index-lits-place.is (sym c.value.ensures ∙ c.in-Free.is)

pub returns-in-True-clause-visited : goal.returns-in-True-clause-visited
returns-in-True-clause-visited c =
    let long : 1 < length (literals_at c.args.self.now.arena c.args.id.0) = watched-long c.args.self.now c.args.lit c.args.index c.args.id c.requires.visiting.sound c.requires.visiting.within (sym c.requires.entry) in
    let same = ap length c.lits.ensures.literals in
    (reached-true c.args.self.now c.args.lit c.args.index c.index-lits-place.result c.requires.visiting (sym c.value.ensures ∙ c.in-True.is) (has-read c.args.self.now c.args.lit c.args.index c.args.id c.lits.result.now (1 - c.args.place) c.index-lits-place.result c.requires.visiting.within (sym c.requires.entry) c.lits.ensures.literals (omega arith) c.index-lits-place.is), refl)

pub returns-in-False-clause-visited : goal.returns-in-False-clause-visited
returns-in-False-clause-visited c =
    let live = watched-live c.args.self.now c.args.lit c.args.index c.args.id c.requires.visiting.sound c.requires.visiting.within (sym c.requires.entry) in
    unit-falsified c.args.self.now c.args.lit c.args.id c.lits.result.now c.index-lits-place.result c.args.place live c.requires.visiting.falsified c.requires.own c.requires.rest c.lits.ensures.literals c.index-lits-place.is (sym c.value.ensures ∙ c.in-False.is)

pub returns-in-Free-clause-visited : goal.returns-in-Free-clause-visited
returns-in-Free-clause-visited c =
    let long : 1 < length (literals_at c.args.self.now.arena c.args.id.0) = watched-long c.args.self.now c.args.lit c.args.index c.args.id c.requires.visiting.sound c.requires.visiting.within (sym c.requires.entry) in
    let same = ap length c.lits.ensures.literals in
    let live = watched-live c.args.self.now c.args.lit c.args.index c.args.id c.requires.visiting.sound c.requires.visiting.within (sym c.requires.entry) in
    let f = unit-forced c.args.self.now c.args.lit c.args.id c.lits.result.now c.index-lits-place.result c.args.place live c.requires.visiting.falsified c.requires.own c.requires.rest c.lits.ensures.literals (omega arith) c.index-lits-place.is (sym c.value.ensures ∙ c.in-Free.is) in
    subst (λ (s : Watched). HasVisited c.args.self.now s c.args.lit c.args.index Stays) (sym c.force.ensures.forced)
    (reached-forced c.args.self.now c.args.lit c.args.index c.index-lits-place.result c.args.id c.requires.visiting f (entry-any c.args.self.now c.args.lit c.args.index c.args.id c.requires.visiting.within (sym c.requires.entry)), refl)
