use Rattle.std.proofs.Common.{sym, subst}
use Rattle.craig_spec.specs.Literal.{Literal, negation}
use Rattle.craig_analyze.specs.Core.{IsCore}
use Rattle.craig_search.specs.Assuming.{IsAssumed}
use Rattle.craig_search.proofs.FailureLemmas.{core-assumed, decision-assumed}
use Rattle.craig_search.proofs.failing.failed.Goals as goal

pub refute_core-requires-clause-assumed : goal.refute_core-requires-clause-assumed
refute_core-requires-clause-assumed g c =
    let core = subst (IsCore c.args.held.now c.args.lit) c.in-Clause.is c.in_ok-core.ensures in
    core-assumed c.args.held.now c.args.assumptions.now c.args.lit c.in-Clause.learnt core.0 c.requires.assumed c.requires.all

pub refute_clash-requires-clause-negated : goal.refute_clash-requires-clause-negated
refute_clash-requires-clause-negated g c =
    let core = subst (IsCore c.args.held.now c.args.lit) c.in-Clash.is c.in_ok-core.ensures in
    subst (λ (l : Literal). IsAssumed c.args.assumptions.now (negation l)) (sym core.0) (decision-assumed c.args.assumptions.now c.args.held.now.trail (negation c.args.lit) c.requires.all core.1)
