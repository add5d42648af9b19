use Rattle.std.proofs.Common.{arith, ◌∙◌, ap, sym, subst}
use Rattle.craig_base.specs.Arena.{ArenaView, IsLive, literals_at}
use Rattle.craig_analyze.proofs.RedundancyLemmas.{reason-of_variable, reason-read}
use Rattle.craig_analyze.proofs.redundancy.Redundancy.+follows.Goals as goal

pub lits-lit-items-requires : goal.lits-lit-items-requires
lits-lit-items-requires t c =
    subst (λ (a : ArenaView). IsLive a c.in-Some.reason.0) (sym c.arena.ensures.value) (reason-of_variable c.args.held.now c.args.var.0 c.in-Some.reason c.requires.consistent c.requires.assigned c.in-Some.ensures).0

pub known-requires : goal.known-requires
known-requires t c =
    let lits = c.lits-lit-items.ensures.literals ∙ ap (λ (a : ArenaView). literals_at a c.in-Some.reason.0) c.arena.ensures.value in
    reason-read c.args.held.now c.in-Some.reason c.lits-lit-items.result.now c.loop-lit.lit-index c.var-other.result.0 c.lit-item.result (reason-of_variable c.args.held.now c.args.var.0 c.in-Some.reason c.requires.consistent c.requires.assigned c.in-Some.ensures).1 lits c.loop-lit-test.true c.lit-item.is c.var-other.ensures.value

pub follows-requires : goal.follows-requires
follows-requires t c =
    let lits = c.lits-lit-items.ensures.literals ∙ ap (λ (a : ArenaView). literals_at a c.in-Some.reason.0) c.arena.ensures.value in (
      omega (arith, c.decreases, c.if-depth-eq0.false),
      (
        reason-read c.args.held.now c.in-Some.reason c.lits-lit-items.result.now c.loop-lit.lit-index c.var-other.result.0 c.lit-item.result (reason-of_variable c.args.held.now c.args.var.0 c.in-Some.reason c.requires.consistent c.requires.assigned c.in-Some.ensures).1 lits c.loop-lit-test.true c.lit-item.is c.var-other.ensures.value,
        c.requires.consistent,
      ),
    )
