use Rattle.std.proofs.Common.{◌≡◌, ◌≢◌, ◌∷◌, ◌≤◌, ◌<◌, List, AllPairs, length, get_or, refl, sym, ap, subst, ◌∙◌}
use Rattle.craig_spec.specs.Literal.{Clause}
use Rattle.craig_spec.specs.Chain.{ChainOk}
use Rattle.craig_base.specs.Arena.{ArenaView, literals_at}
use Rattle.craig_base.proofs.LookUpLemmas.{literals_at-found}
use Rattle.craig_proof.specs.Tracer.{chain_of}
use Rattle.craig_proof.specs.declared.step.Step.{Step}
use Rattle.craig_watch.specs.Held.{held_clause}
use Rattle.craig_search.proofs.DerivedUnitLemmas.{chain-begun, chain-ended, chain-next}
use Rattle.craig_search.proofs.units.resolve_others.Goals as goal

pub loop-other-init : goal.loop-other-init
loop-other-init c =
    let a = c.args.held.now.arena in
    subst (λ (steps : List Step). ChainOk (held_clause a) (c.args.lit ∷ literals_at a c.args.first.0) c.args.first.0 (chain_of steps)) (sym c.requires.none_yet) (chain-begun a c.args.first.0 c.args.lit (literals_at a c.args.first.0) refl c.requires.has)

pub loop-other-preserved : goal.loop-other-preserved
loop-other-preserved c =
    let a = c.args.held.now.arena in
    let lits : Clause = literals_at a c.args.first.0 in
    let is : c.lits-other-items.result.now ≡ lits = c.lits-other-items.ensures.literals ∙ ap (λ (b : ArenaView). literals_at b c.args.first.0) c.arena.ensures.value in
    let clause = c.requires.has in
    let apart : AllPairs (λ x y. x ≢ y) lits = subst (AllPairs (λ x y. x ≢ y)) (sym (literals_at-found a c.args.first.0 clause.0 clause.1)) (c.requires.consistent.clauses c.args.first.0 clause.0 clause.1).0.distinct in
    let within : c.loop-other.other-index < length lits = subst (λ (d : Clause). c.loop-other.other-index < length d) is c.loop-other-test.true in
    let at = c.other-item.is ∙ ap (λ (d : Clause). get_or d c.loop-other.other-index c.other-item.result) is in
    chain-next a lits c.args.lit c.other-item.result c.loop-other.other-index c.args.first.0 c.loop-other.rest c.resolve_other.new.rest apart within at c.loop-other.invariant (c.in_ok-resolve_other.ensures c.if-not-branch.false)

pub returns : goal.returns
returns c = λ all.
    let a = c.args.held.now.arena in
    let lits : Clause = literals_at a c.args.first.0 in
    let is : c.lits-other-items.result.now ≡ lits = c.lits-other-items.ensures.literals ∙ ap (λ (b : ArenaView). literals_at b c.args.first.0) c.arena.ensures.value in
    let done : length lits ≤ c.loop-other.other-index = subst (λ (d : Clause). length d ≤ c.loop-other.other-index) is c.loop-other-test.false in
    chain-ended a lits c.args.lit c.loop-other.other-index c.args.first.0 c.loop-other.rest done c.loop-other.invariant
