use Rattle.std.proofs.Common.{◌∙◌, ap}
use Rattle.craig_base.specs.Arena.{ArenaView, literals_at}
use Rattle.craig_search.proofs.ReasonLemmas.{known-literal, not-reason}
use Rattle.craig_search.proofs.reducing.is_reason.Goals as goal

pub is_forced_by-requires : goal.is_forced_by-requires
is_forced_by-requires c =
    let lits = c.lits-lit-items.ensures.literals ∙ ap (λ (a : ArenaView). literals_at a c.args.id.0) c.arena.ensures.value in
    known-literal c.args.held.now c.args.id.0 c.loop-lit.lit-index c.lit-item.result c.lits-lit-items.result.now c.requires.consistent c.requires.live lits c.loop-lit-test.true c.lit-item.is

pub returns : goal.returns
returns c is =
    let lits = c.lits-lit-items.ensures.literals ∙ ap (λ (a : ArenaView). literals_at a c.args.id.0) c.arena.ensures.value in
    not-reason c.args.held.now c.args.id c.lits-lit-items.result.now c.loop-lit.lit-index c.requires.consistent c.requires.live lits c.loop-lit-test.false c.loop-lit.invariant
