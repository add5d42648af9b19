use Rattle.std.proofs.Common.{arith}
use Rattle.craig_watch.proofs.VisitLemmas.{known-at}
use Rattle.craig_watch.proofs.watched.Watched.open_place.Goals as goal

pub value-requires : goal.value-requires
value-requires c = known-at c.args.self.now c.args.id.0 c.lits-lits.result.now c.loop-place.place c.index-lits-place.result c.requires.sound c.requires.live c.lits-lits.ensures.literals c.index-lits-place.is (omega arith)
