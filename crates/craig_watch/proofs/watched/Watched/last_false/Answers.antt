use Rattle.std.proofs.Common.{arith}
use Rattle.craig_watch.proofs.VisitLemmas.{known-at}
use Rattle.craig_watch.proofs.watched.Watched.last_false.Goals as goal

pub rank-requires : goal.rank-requires
rank-requires c = known-at c.args.self.now c.args.id.0 c.lits-lits.result.now c.loop-place.place c.index-lits-place.result c.requires.sound c.requires.live c.lits-lits.ensures.literals c.index-lits-place.is (omega arith)

pub rank-requires-in-loop-place : goal.rank-requires-in-loop-place
rank-requires-in-loop-place c = known-at c.args.self.now c.args.id.0 c.lits-lits.result.now c.loop-place.best c.index-lits-best.result c.requires.sound c.requires.live c.lits-lits.ensures.literals c.index-lits-best.is (omega arith)
