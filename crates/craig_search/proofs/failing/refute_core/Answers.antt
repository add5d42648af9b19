use Rattle.std.proofs.Common.{◌≡◌, ◌<◌, ◌++◌, ℕ, List, [], All, length, sym, subst, ◌∙◌}
use Rattle.std.specs.Option.{ForSome, option_map}
use Rattle.craig_spec.specs.Literal.{Clause}
use Rattle.craig_spec.specs.Chain.{Derived, IsUnforgotten, antecedents}
use Rattle.craig_proof.specs.Covers.{IsCovering}
use Rattle.craig_proof.specs.Tracer.{Appends, chain_of, derived_step}
use Rattle.craig_proof.specs.declared.step.Step.{Step}
use Rattle.craig_proof.proofs.CoversLemmas.{IsCovering-antecedents, IsCovering-chain}
use Rattle.craig_watch.specs.Held.{held_clause}
use Rattle.craig_search.specs.Assuming.{AreNegated}
use Rattle.craig_search.specs.Failing.{look_up, unit_chain, with_ids, with_units_told}
use Rattle.craig_search.specs.Verdict.{at_places}
use Rattle.craig_search.proofs.FailureLemmas.{failure-chain, failure-covers, failure-is, negated-within}
use Rattle.craig_search.proofs.failing.refute_core.Goals as goal

pub tell_units-requires-clause-places : goal.tell_units-requires-clause-places
tell_units-requires-clause-places g c =
    let h = c.args.held.now in
    let assumptions = c.args.assumptions.now in
    let places = c.in_ok-places.places in
    let lits = c.args.core.lits in
    let negated = subst (λ (d : Clause). AreNegated assumptions d (length assumptions) places) c.as_slice.ensures c.in_ok-places.ensures in
    subst (All (λ p. p < length assumptions)) (sym c.as_slice-2.ensures) (negated-within assumptions lits places negated)

pub derived-requires-clause-unforgotten : goal.derived-requires-clause-unforgotten
derived-requires-clause-unforgotten g c =
    let h = c.args.held.now in
    let assumptions = c.args.assumptions.now in
    let places = c.in_ok-places.places in
    let lits = c.args.core.lits in
    let negated = subst (λ (d : Clause). AreNegated assumptions d (length assumptions) places) c.as_slice.ensures c.in_ok-places.ensures in
    let so_far = subst (λ (xs : List ℕ). c.tell_units.new.held ≡ with_ids h (length xs)) c.as_slice-2.ensures c.in_ok-tell_units.ensures.numbered in
    let steps = subst (λ (xs : List ℕ). c.tell_units.new.steps ≡ c.args.core.rest ++ unit_chain h.arena.given (at_places assumptions xs)) c.as_slice-2.ensures c.in_ok-tell_units.ensures.steps in
    let covers = subst (λ (xs : List ℕ). IsCovering (g.T.Tracer.told c.tell_units.new.tracer) (look_up (held_clause h.arena) h.arena.given (at_places assumptions xs)) c.tell_units.new.held.arena.given) c.as_slice-2.ensures c.in_ok-tell_units.ensures.covers in
    let units = subst (λ (xs : List ℕ). g.T.Tracer.told c.tell_units.new.tracer ≡ option_map (with_units_told h.arena.given (at_places assumptions xs)) (g.T.Tracer.told c.args.tracer.now)) c.as_slice-2.ensures c.in_ok-tell_units.ensures.units in
    let chain = failure-chain assumptions h c.tell_units.new.held c.number.new.self c.in_ok-root.root.0 lits places c.args.core.first.0 c.args.core.rest c.tell_units.new.steps (g.T.Tracer.told c.args.tracer.now) (g.T.Tracer.told c.tell_units.new.tracer) (g.T.Tracer.told c.tell_units.new.tracer) c.requires.consistent negated so_far c.in_ok-root.ensures.next c.in_ok-root.ensures.numbered c.requires.derived.chain c.requires.assumed steps in
    subst (λ (xs : List Step). ForSome (g.T.Tracer.told c.tell_units.new.tracer) (λ t. All (IsUnforgotten t.steps) (antecedents (Derived c.args.core.first.0 (chain_of xs))))) (sym c.as_slice-4.ensures) (IsCovering-antecedents (g.T.Tracer.told c.tell_units.new.tracer) (look_up (held_clause h.arena) h.arena.given (at_places assumptions places)) c.tell_units.new.held.arena.given [] c.args.core.first.0 (chain_of c.tell_units.new.steps) covers chain)

pub derived-requires-clause-chain : goal.derived-requires-clause-chain
derived-requires-clause-chain g c =
    let h = c.args.held.now in
    let assumptions = c.args.assumptions.now in
    let places = c.in_ok-places.places in
    let lits = c.args.core.lits in
    let negated = subst (λ (d : Clause). AreNegated assumptions d (length assumptions) places) c.as_slice.ensures c.in_ok-places.ensures in
    let so_far = subst (λ (xs : List ℕ). c.tell_units.new.held ≡ with_ids h (length xs)) c.as_slice-2.ensures c.in_ok-tell_units.ensures.numbered in
    let steps = subst (λ (xs : List ℕ). c.tell_units.new.steps ≡ c.args.core.rest ++ unit_chain h.arena.given (at_places assumptions xs)) c.as_slice-2.ensures c.in_ok-tell_units.ensures.steps in
    let covers = subst (λ (xs : List ℕ). IsCovering (g.T.Tracer.told c.tell_units.new.tracer) (look_up (held_clause h.arena) h.arena.given (at_places assumptions xs)) c.tell_units.new.held.arena.given) c.as_slice-2.ensures c.in_ok-tell_units.ensures.covers in
    let units = subst (λ (xs : List ℕ). g.T.Tracer.told c.tell_units.new.tracer ≡ option_map (with_units_told h.arena.given (at_places assumptions xs)) (g.T.Tracer.told c.args.tracer.now)) c.as_slice-2.ensures c.in_ok-tell_units.ensures.units in
    let chain = failure-chain assumptions h c.tell_units.new.held c.number.new.self c.in_ok-root.root.0 lits places c.args.core.first.0 c.args.core.rest c.tell_units.new.steps (g.T.Tracer.told c.args.tracer.now) (g.T.Tracer.told c.tell_units.new.tracer) (g.T.Tracer.told c.tell_units.new.tracer) c.requires.consistent negated so_far c.in_ok-root.ensures.next c.in_ok-root.ensures.numbered c.requires.derived.chain c.requires.assumed steps in
    rw (c.as_slice-3.ensures ∙ c.new-empty.ensures, c.as_slice-4.ensures) (IsCovering-chain (g.T.Tracer.told c.tell_units.new.tracer) (look_up (held_clause h.arena) h.arena.given (at_places assumptions places)) c.tell_units.new.held.arena.given [] c.args.core.first.0 (chain_of c.tell_units.new.steps) covers chain)

pub returns-clause-failure : goal.returns-clause-failure
returns-clause-failure g c =
    let h = c.args.held.now in
    let assumptions = c.args.assumptions.now in
    let places = c.in_ok-places.places in
    let lits = c.args.core.lits in
    let negated = subst (λ (d : Clause). AreNegated assumptions d (length assumptions) places) c.as_slice.ensures c.in_ok-places.ensures in
    let so_far = subst (λ (xs : List ℕ). c.tell_units.new.held ≡ with_ids h (length xs)) c.as_slice-2.ensures c.in_ok-tell_units.ensures.numbered in
    let steps = subst (λ (xs : List ℕ). c.tell_units.new.steps ≡ c.args.core.rest ++ unit_chain h.arena.given (at_places assumptions xs)) c.as_slice-2.ensures c.in_ok-tell_units.ensures.steps in
    let covers = subst (λ (xs : List ℕ). IsCovering (g.T.Tracer.told c.tell_units.new.tracer) (look_up (held_clause h.arena) h.arena.given (at_places assumptions xs)) c.tell_units.new.held.arena.given) c.as_slice-2.ensures c.in_ok-tell_units.ensures.covers in
    let units = subst (λ (xs : List ℕ). g.T.Tracer.told c.tell_units.new.tracer ≡ option_map (with_units_told h.arena.given (at_places assumptions xs)) (g.T.Tracer.told c.args.tracer.now)) c.as_slice-2.ensures c.in_ok-tell_units.ensures.units in
    let chain = failure-chain assumptions h c.tell_units.new.held c.number.new.self c.in_ok-root.root.0 lits places c.args.core.first.0 c.args.core.rest c.tell_units.new.steps (g.T.Tracer.told c.args.tracer.now) (g.T.Tracer.told c.tell_units.new.tracer) (g.T.Tracer.told c.tell_units.new.tracer) c.requires.consistent negated so_far c.in_ok-root.ensures.next c.in_ok-root.ensures.numbered c.requires.derived.chain c.requires.assumed steps in
    let told = subst (λ (d : Clause). Appends (g.T.Tracer.told c.tell_units.new.tracer) (g.T.Tracer.told c.derived.new.self) (derived_step c.in_ok-root.root.0 d c.args.core.first.0 c.tell_units.new.steps)) (c.as_slice-3.ensures ∙ c.new-empty.ensures) (subst (λ (xs : List Step). Appends (g.T.Tracer.told c.tell_units.new.tracer) (g.T.Tracer.told c.derived.new.self) (derived_step c.in_ok-root.root.0 c.as_slice-3.result.now c.args.core.first.0 xs)) c.as_slice-4.ensures c.in_ok-derived.ensures.told) in
    failure-is assumptions h c.tell_units.new.held c.number.new.self c.in_ok-root.root.0 lits places c.args.core.first.0 c.args.core.rest c.tell_units.new.steps (g.T.Tracer.told c.args.tracer.now) (g.T.Tracer.told c.tell_units.new.tracer) (g.T.Tracer.told c.derived.new.self) c.requires.consistent negated so_far c.in_ok-root.ensures.next c.in_ok-root.ensures.numbered chain units told

pub returns-clause-covers : goal.returns-clause-covers
returns-clause-covers g c =
    let h = c.args.held.now in
    let assumptions = c.args.assumptions.now in
    let places = c.in_ok-places.places in
    let lits = c.args.core.lits in
    let negated = subst (λ (d : Clause). AreNegated assumptions d (length assumptions) places) c.as_slice.ensures c.in_ok-places.ensures in
    let so_far = subst (λ (xs : List ℕ). c.tell_units.new.held ≡ with_ids h (length xs)) c.as_slice-2.ensures c.in_ok-tell_units.ensures.numbered in
    let steps = subst (λ (xs : List ℕ). c.tell_units.new.steps ≡ c.args.core.rest ++ unit_chain h.arena.given (at_places assumptions xs)) c.as_slice-2.ensures c.in_ok-tell_units.ensures.steps in
    let covers = subst (λ (xs : List ℕ). IsCovering (g.T.Tracer.told c.tell_units.new.tracer) (look_up (held_clause h.arena) h.arena.given (at_places assumptions xs)) c.tell_units.new.held.arena.given) c.as_slice-2.ensures c.in_ok-tell_units.ensures.covers in
    let units = subst (λ (xs : List ℕ). g.T.Tracer.told c.tell_units.new.tracer ≡ option_map (with_units_told h.arena.given (at_places assumptions xs)) (g.T.Tracer.told c.args.tracer.now)) c.as_slice-2.ensures c.in_ok-tell_units.ensures.units in
    let chain = failure-chain assumptions h c.tell_units.new.held c.number.new.self c.in_ok-root.root.0 lits places c.args.core.first.0 c.args.core.rest c.tell_units.new.steps (g.T.Tracer.told c.args.tracer.now) (g.T.Tracer.told c.tell_units.new.tracer) (g.T.Tracer.told c.tell_units.new.tracer) c.requires.consistent negated so_far c.in_ok-root.ensures.next c.in_ok-root.ensures.numbered c.requires.derived.chain c.requires.assumed steps in
    let told = subst (λ (d : Clause). Appends (g.T.Tracer.told c.tell_units.new.tracer) (g.T.Tracer.told c.derived.new.self) (derived_step c.in_ok-root.root.0 d c.args.core.first.0 c.tell_units.new.steps)) (c.as_slice-3.ensures ∙ c.new-empty.ensures) (subst (λ (xs : List Step). Appends (g.T.Tracer.told c.tell_units.new.tracer) (g.T.Tracer.told c.derived.new.self) (derived_step c.in_ok-root.root.0 c.as_slice-3.result.now c.args.core.first.0 xs)) c.as_slice-4.ensures c.in_ok-derived.ensures.told) in
    failure-covers assumptions h c.tell_units.new.held c.number.new.self c.in_ok-root.root.0 lits places c.args.core.first.0 c.args.core.rest c.tell_units.new.steps (g.T.Tracer.told c.args.tracer.now) (g.T.Tracer.told c.tell_units.new.tracer) (g.T.Tracer.told c.derived.new.self) c.requires.consistent negated so_far c.in_ok-root.ensures.next c.in_ok-root.ensures.numbered chain covers told
