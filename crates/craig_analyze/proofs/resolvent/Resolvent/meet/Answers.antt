use Rattle.std.proofs.Common.{◌≡◌, ◌+◌, ◌++◌, ◌∷◌, [], sym, ap, ◌∙◌, subst, take}
use Rattle.std.proofs.lemmas.List.{take_more, take_all}
use Rattle.craig_spec.specs.Literal.{Clause, Literal}
use Rattle.craig_base.specs.Arena.{ArenaView, literals_at}
use Rattle.craig_analyze.specs.Resolvent.{Meets, view_of}
use Rattle.craig_analyze.proofs.ResolventLemmas.{Meets-push}
use Rattle.craig_analyze.proofs.resolvent.Resolvent.meet.Goals as goal

pub loop-lit-preserved : goal.loop-lit-preserved
loop-lit-preserved c =
    let h = c.args.held.now in
    let items : Clause = c.lits-lit-items.result.now in
    let i = c.loop-lit.lit-index in
    let next : take (i + 1) items ≡ take i items ++ c.lit-item.result ∷ [] = take_more items i c.lit-item.result c.loop-lit-test.true ∙ ap (λ (m : Literal). take i items ++ m ∷ []) (sym c.lit-item.is) in
    subst (λ (d : Clause). Meets c.args.staying h d (view_of c.args.self.now) (view_of c.meet_literal.new.self)) (sym next) (Meets-push c.args.staying h (take i items) c.lit-item.result (view_of c.args.self.now) (view_of c.loop-lit.self) (view_of c.meet_literal.new.self) c.loop-lit.invariant c.in_ok-meet_literal.ensures)

pub returns-clause-met : goal.returns-clause-met
returns-clause-met c =
    let h = c.args.held.now in
    let items : Clause = c.lits-lit-items.result.now in
    let same : items ≡ literals_at h.arena c.args.id.0 = c.lits-lit-items.ensures.literals ∙ ap (λ (b : ArenaView). literals_at b c.args.id.0) c.arena.ensures.value in
    subst (λ (d : Clause). Meets c.args.staying h d (view_of c.args.self.now) (view_of c.loop-lit.self)) (take_all c.loop-lit.lit-index items c.loop-lit-test.false ∙ same) c.loop-lit.invariant
