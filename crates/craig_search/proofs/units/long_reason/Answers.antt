use Rattle.std.proofs.Common.{sym, subst}
use Rattle.craig_base.specs.Arena.{ArenaView, IsLive}
use Rattle.craig_search.proofs.DerivedUnitLemmas.{HasLiteral-live, reason-has}
use Rattle.craig_search.proofs.units.long_reason.Goals as goal

pub lits-requires : goal.lits-requires
lits-requires c =
    let h = c.args.held.now in
    subst (λ (a : ArenaView). IsLive a c.in-Some.id.0) (sym c.arena.ensures.value) (HasLiteral-live h.arena c.in-Some.id.0 c.args.lit (reason-has h c.args.lit c.var.result.0 c.in-Some.id c.requires.consistent c.requires.true_literal c.var.ensures.value c.in-Some.ensures))

pub returns-in-Some : goal.returns-in-Some
returns-in-Some c = reason-has c.args.held.now c.args.lit c.var.result.0 c.in-Some.id c.requires.consistent c.requires.true_literal c.var.ensures.value c.in-Some.ensures
