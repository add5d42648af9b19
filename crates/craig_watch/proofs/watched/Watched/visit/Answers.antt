use Rattle.std.proofs.Common.{refl, sym, ◌∙◌}
use Rattle.craig_watch.proofs.VisitLemmas.{blocker-known, blocker-at, reached-true}
use Rattle.craig_watch.proofs.watched.Watched.visit.Goals as goal

pub returns-in-True-clause-visited : goal.returns-in-True-clause-visited
returns-in-True-clause-visited c =
    (reached-true c.args.self.now c.args.lit c.args.index c.in-Blocker.blocker c.requires (sym c.value.ensures ∙ c.in-True.is) (λ d k held. blocker-at c.args.self.now c.args.lit c.args.index c.in-Blocker.blocker d k c.requires (sym c.in-Blocker.ensures) held), refl)

pub value-requires : goal.value-requires
value-requires c = blocker-known c.args.self.now c.args.lit c.args.index c.in-Blocker.blocker c.requires (sym c.in-Blocker.ensures)
