use Rattle.std.proofs.Common.{ap, refl, arith}
use Rattle.craig_watch.specs.Held.{HeldView, held_clause}
use Rattle.craig_base.specs.Arena.{literals_at}
use Rattle.craig_search.proofs.ReasonLemmas.{live-found}
use Rattle.craig_search.proofs.ReducingLemmas.{LetsGo-one, covers-gone}
use Rattle.craig_search.proofs.reducing.let_go_if_bad.Goals as goal

pub forget-requires : goal.forget-requires
forget-requires g c =
    let a = c.args.held.now.arena in
    c.covered_chain_is_told.ensures.unforgotten (g.T.Tracer.told c.args.tracer.now) (held_clause a) a.given c.args.id.0 (literals_at a c.args.id.0) c.requires.covers (live-found a c.args.id.0 (c.if-not-may_go.ensures.live refl))

pub returns-clause-lets_go : goal.returns-clause-lets_go
returns-clause-lets_go g c =
    LetsGo-one c.args.id.0 c.args.id.0 c.args.held.now c.let_go.new.self (g.T.Tracer.told c.args.tracer.now) (g.T.Tracer.told c.forget.new.self) (omega arith) (c.if-not-may_go.ensures.unkept refl) c.let_go.ensures.without c.let_go.ensures.only c.forget.ensures.told

pub returns-clause-covers : goal.returns-clause-covers
returns-clause-covers g c =
    covers-gone c.args.id.0 c.args.held.now.arena c.let_go.new.self.arena (g.T.Tracer.told c.args.tracer.now) (g.T.Tracer.told c.forget.new.self) (ap (λ (h : HeldView). h.arena.given) c.let_go.ensures.without) c.let_go.ensures.only c.forget.ensures.told c.requires.covers
