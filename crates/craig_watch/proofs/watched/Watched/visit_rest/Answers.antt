use Rattle.std.proofs.Common.{sym, subst}
use Rattle.craig_spec.specs.Literal.{Literal}
use Rattle.craig_watch.specs.WatchedState.{LosesEntry}
use Rattle.craig_watch.proofs.VisitLemmas.{watched-live, reached-moved}
use Rattle.craig_watch.proofs.watched.Watched.visit_rest.Goals as goal

pub open_place-requires-clause-live : goal.open_place-requires-clause-live
open_place-requires-clause-live c = watched-live c.args.self.now c.args.lit c.args.index c.args.id c.requires.visiting.sound c.requires.visiting.within (sym c.requires.entry)

pub returns-in_ok-move_watch-in-Some-clause-visited : goal.returns-in_ok-move_watch-in-Some-clause-visited
returns-in_ok-move_watch-in-Some-clause-visited c =
    reached-moved c.args.self.now c.move_watch.new.self c.args.lit c.args.index c.requires.visiting c.in_ok-move_watch-in-Some.ensures.continues (subst (λ (l : Literal). LosesEntry c.args.self.now c.move_watch.new.self l c.args.index) (c.requires.own.at) (c.in_ok-move_watch-in-Some.ensures.entry c.args.lit))
