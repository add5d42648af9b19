use Rattle.std.proofs.Common.{◌≡◌, ◌<◌, ◌≤◌, length, refl, ap, arith}
use Rattle.craig_base.specs.Arena.{literals_at}
use Rattle.craig_watch.proofs.VisitLemmas.{known-at, code-low}
use Rattle.craig_watch.proofs.LookLemmas.{ranked-exchanged, place-watched}
use Rattle.craig_watch.proofs.watched.Watched.arrange.Goals as goal

pub place_of-index-requires-clause-listed : goal.place_of-index-requires-clause-listed
place_of-index-requires-clause-listed c =
    let same = ap length c.lits.ensures.literals in
    let same_too = ap length c.lits-2.ensures.literals in
    code-low c.args.self.now c.index-lits-place.result c.requires.sound
    (known-at c.args.self.now c.args.id.0 c.lits-2.result.now c.args.place c.index-lits-place.result c.requires.sound c.requires.live c.lits-2.ensures.literals c.index-lits-place.is (omega arith))

pub place_of-index-requires-clause-watched : goal.place_of-index-requires-clause-watched
place_of-index-requires-clause-watched c =
    let within : c.last_false-best.result < length (literals_at c.args.self.now.arena c.args.id.0) = c.last_false-best.ensures.within in
    let from : c.args.place ≤ c.last_false-best.result = c.last_false-best.ensures.from in
    let one = c.if-best-place.false in
    let two = c.if-best-eq1.false in
    place-watched c.args.self.now c.args.id c.lits-2.result.now c.args.place c.index-lits-place.result c.requires.sound c.requires.live c.lits-2.ensures.literals c.index-lits-place.is c.requires.first (omega (arith, one, two))

pub returns-then-best-eq1-clause-ranked : goal.returns-then-best-eq1-clause-ranked
returns-then-best-eq1-clause-ranked c =
    let from : c.args.place ≤ c.last_false-best.result = c.last_false-best.ensures.from in
    let ne = c.if-best-place.false in
    let is : c.last_false-best.result ≡ 1 = c.if-best-eq1.true in
    ranked-exchanged c.args.self.now c.turn.new.self c.args.id c.args.place c.last_false-best.result 0 1 c.turn.ensures.turned (omega (arith, ne)) is c.requires.ranked (omega (arith, ne)) c.last_false-best.ensures.within c.last_false-best.ensures.last

pub returns-clause-ranked : goal.returns-clause-ranked
returns-clause-ranked c =
    let from : c.args.place ≤ c.last_false-best.result = c.last_false-best.ensures.from in
    let ne = c.if-best-place.false in
    ranked-exchanged c.args.self.now c.move_watch.new.self c.args.id c.args.place c.last_false-best.result c.args.place c.last_false-best.result c.in_ok-move_watch.ensures.moved refl refl c.requires.ranked (omega (arith, ne)) c.last_false-best.ensures.within c.last_false-best.ensures.last
