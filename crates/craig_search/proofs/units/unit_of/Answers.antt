use Rattle.std.proofs.Common.{◌≡◌, rules, sym, subst}
use Rattle.craig_base.specs.Arena.{ArenaView, IsLive}
use Rattle.craig_watch.specs.Trail.{value_under}
use Rattle.craig_watch.specs.declared.value.Value.TheVariants.{True}
use Rattle.craig_search.proofs.DerivedUnitLemmas.{HasLiteral-live, reason-has}
use Rattle.craig_search.proofs.units.unit_of.Goals as goal

pub lits-requires : goal.lits-requires
lits-requires c =
    let h = c.args.held.now in
    let is : value_under h.trail c.args.lit ≡ True = search rules in
    subst (λ (a : ArenaView). IsLive a c.in-Some.id.0) (sym c.arena.ensures.value) (HasLiteral-live h.arena c.in-Some.id.0 c.args.lit (reason-has h c.args.lit c.var.result.0 c.in-Some.id c.requires.consistent is c.var.ensures.value c.in-Some.ensures))
