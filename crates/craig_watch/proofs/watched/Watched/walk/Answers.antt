use Rattle.std.proofs.Common.{◌<◌, length, arith, subst}
use Rattle.craig_watch.specs.declared.visit.Visit.{Visit}
use Rattle.craig_watch.specs.WatchedState.{HasVisited, ids_of}
use Rattle.craig_watch.proofs.StateLemmas.{Continues-twice}
use Rattle.craig_watch.proofs.VisitLemmas.{visiting-on}
use Rattle.craig_watch.proofs.watched.Watched.walk.Goals as goal

pub visit-requires : goal.visit-requires
visit-requires c =
    let low : c.loop-index.index < length (ids_of c.loop-index.self c.args.lit) = omega (arith, c.loop-index-test.true, c.len.ensures) in
    visiting-on c.args.self.now c.loop-index.self c.args.lit c.loop-index.index c.requires.known c.requires.falsified c.requires.present c.loop-index.invariant.continues low c.loop-index.invariant.reached

pub returns-in_err-visit-clause-continues : goal.returns-in_err-visit-clause-continues
returns-in_err-visit-clause-continues c = Continues-twice c.args.self.now c.loop-index.self c.visit.new.self c.loop-index.invariant.continues c.visit.ensures.continues

pub returns-in-Conflict-clause-continues : goal.returns-in-Conflict-clause-continues
returns-in-Conflict-clause-continues c = Continues-twice c.args.self.now c.loop-index.self c.visit.new.self c.loop-index.invariant.continues c.visit.ensures.continues

pub loop-index-preserved-in-Stays : goal.loop-index-preserved-in-Stays
loop-index-preserved-in-Stays c = record {
  continues = Continues-twice c.args.self.now c.loop-index.self c.visit.new.self c.loop-index.invariant.continues c.visit.ensures.continues;
  reached = (subst (λ (r : Visit). HasVisited c.loop-index.self c.visit.new.self c.args.lit c.loop-index.index r) c.in-Stays.is c.in_ok-visit.ensures.visited).0;
}

pub loop-index-preserved : goal.loop-index-preserved
loop-index-preserved c = record {
  continues = Continues-twice c.args.self.now c.loop-index.self c.visit.new.self c.loop-index.invariant.continues c.visit.ensures.continues;
  reached = (subst (λ (r : Visit). HasVisited c.loop-index.self c.visit.new.self c.args.lit c.loop-index.index r) c.in-Moved.is c.in_ok-visit.ensures.visited).0;
}
