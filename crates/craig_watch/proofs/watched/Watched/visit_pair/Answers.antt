use Rattle.std.proofs.Common.{refl, sym, subst, ◌∙◌}
use Rattle.craig_watch.specs.declared.watched.Watched.{Watched}
use Rattle.craig_watch.specs.declared.visit.Visit.TheVariants.{Stays}
use Rattle.craig_watch.specs.WatchedState.{HasVisited}
use Rattle.craig_watch.proofs.VisitLemmas.{pair-known, pair-at, pair-forced, pair-falsified, reached-true, reached-forced, entry-any}
use Rattle.craig_watch.proofs.watched.Watched.visit_pair.Goals as goal

pub value-requires : goal.value-requires
value-requires c = pair-known c.args.self.now c.args.lit c.args.index c.args.other c.requires.visiting c.requires.beside

pub force-requires-clause-forced : goal.force-requires-clause-forced
force-requires-clause-forced c = pair-forced c.args.self.now c.args.lit c.args.index c.args.other c.id-id.result c.requires.visiting c.requires.beside c.id-id.ensures (sym c.value.ensures ∙ c.in-Free.is)

pub returns-in-True-clause-visited : goal.returns-in-True-clause-visited
returns-in-True-clause-visited c =
    (reached-true c.args.self.now c.args.lit c.args.index c.args.other c.requires.visiting (sym c.value.ensures ∙ c.in-True.is) (λ d k held. (pair-at c.args.self.now c.args.lit c.args.index c.args.other d k c.requires.visiting c.requires.beside held).other), refl)

pub returns-in-False-clause-visited : goal.returns-in-False-clause-visited
returns-in-False-clause-visited c = pair-falsified c.args.self.now c.args.lit c.args.index c.args.other c.id.result c.requires.visiting c.requires.beside c.id.ensures (sym c.value.ensures ∙ c.in-False.is)

pub returns-in-Free-clause-visited : goal.returns-in-Free-clause-visited
returns-in-Free-clause-visited c =
    let f = pair-forced c.args.self.now c.args.lit c.args.index c.args.other c.id-id.result c.requires.visiting c.requires.beside c.id-id.ensures (sym c.value.ensures ∙ c.in-Free.is) in
    subst (λ (s : Watched). HasVisited c.args.self.now s c.args.lit c.args.index Stays) (sym c.force.ensures.forced)
    (reached-forced c.args.self.now c.args.lit c.args.index c.args.other c.id-id.result c.requires.visiting f (entry-any c.args.self.now c.args.lit c.args.index c.id-id.result c.requires.visiting.within c.id-id.ensures), refl)
