use Rattle.std.proofs.Common.{refl}
use Rattle.craig_base.specs.Arena.{literals_at}
use Rattle.craig_watch.specs.Held.{held_clause}
use Rattle.craig_search.proofs.ReasonLemmas.{live-found}
use Rattle.craig_solver.proofs.LetGoLemmas.{IsState-let_go, LetsLearntGo-one, learnt-at}
use Rattle.craig_solver.proofs.state.State.let_go_if_bad.Goals as goal

pub forget-requires : goal.forget-requires
forget-requires g c =
    let a = c.args.self.now.held.arena in
    c.covered_chain_is_told.ensures.unforgotten (g.T.Tracer.told c.args.self.now.tracer) (held_clause a) a.given c.args.id.0 (literals_at a c.args.id.0) c.requires.begins.covers (live-found a c.args.id.0 (c.if-not-may_go.ensures.live refl))

pub returns-clause-state : goal.returns-clause-state
returns-clause-state g c =
    IsState-let_go _ c.let_go.new.self c.args.id.0 (g.T.Tracer.told c.forget.new.self) c.requires c.let_go.ensures.without c.let_go.ensures.only (learnt-at c.args.self.now.held.arena c.args.id.0 (c.if-not-may_go.ensures.live refl) (c.if-not-may_go.ensures.learnt refl)) c.let_go.ensures.consistent c.forget.ensures.told

pub returns-clause-lets_go : goal.returns-clause-lets_go
returns-clause-lets_go g c =
    LetsLearntGo-one _ c.let_go.new.self c.args.id.0 (g.T.Tracer.told c.forget.new.self) c.requires c.let_go.ensures.without c.let_go.ensures.only (learnt-at c.args.self.now.held.arena c.args.id.0 (c.if-not-may_go.ensures.live refl) (c.if-not-may_go.ensures.learnt refl)) c.let_go.ensures.consistent c.forget.ensures.told
