use Rattle.std.proofs.Common.{◌≡◌, ◌<◌, ◌++◌, ℕ, List, [], ◌∷◌, All, ap, length, arith, sym, subst, ◌∙◌}
use Rattle.std.specs.Option.{ForSome, option_map}
use Rattle.craig_spec.specs.Literal.{Clause, Literal, negation}
use Rattle.craig_spec.specs.Chain.{Derived, IsUnforgotten, antecedents}
use Rattle.craig_proof.specs.Covers.{IsCovering}
use Rattle.craig_proof.specs.Tracer.{Appends, chain_of, derived_step}
use Rattle.craig_proof.specs.declared.step.Step.{Step}
use Rattle.craig_proof.proofs.CoversLemmas.{IsCovering-antecedents, IsCovering-chain}
use Rattle.craig_watch.specs.Held.{held_clause}
use Rattle.craig_search.specs.Assuming.{AreNegated}
use Rattle.craig_search.specs.Failing.{look_up, unit_chain, with_ids, with_units_told}
use Rattle.craig_search.specs.Verdict.{at_places}
use Rattle.craig_search.proofs.FailureLemmas.{failure-covers, failure-is, negated-within}
use Rattle.craig_base.specs.declared.clause_id.ClauseId.{ClauseId}
use Rattle.craig_search.proofs.UnitChainLemmas.{clash-refuted}
use Rattle.craig_search.proofs.failing.refute_clash.Goals as goal

pub tell_units-requires-clause-places : goal.tell_units-requires-clause-places
tell_units-requires-clause-places g c =
    let h = c.args.held.now in
    let assumptions = c.args.assumptions.now in
    let places = c.in_ok-places.places in
    let lits : Clause = c.args.lit ∷ negation c.args.lit ∷ [] in
    let negated = subst (λ (m : Literal). AreNegated assumptions (c.args.lit ∷ m ∷ []) (length assumptions) places) c.not.ensures c.in_ok-places.ensures in
    subst (All (λ p. p < length assumptions)) (sym c.as_slice.ensures) (negated-within assumptions lits places negated)

pub first_of-first-requires : goal.first_of-first-requires
first_of-first-requires g c =
    let h = c.args.held.now in
    let assumptions = c.args.assumptions.now in
    let places = c.in_ok-places.places in
    let lits : Clause = c.args.lit ∷ negation c.args.lit ∷ [] in
    let negated = subst (λ (m : Literal). AreNegated assumptions (c.args.lit ∷ m ∷ []) (length assumptions) places) c.not.ensures c.in_ok-places.ensures in
    let steps = subst (λ (xs : List ℕ). c.tell_units.new.steps ≡ c.new-steps.result ++ unit_chain h.arena.given (at_places assumptions xs)) c.as_slice.ensures c.in_ok-tell_units.ensures.steps ∙ ap (λ (xs : List Step). xs ++ unit_chain h.arena.given (at_places assumptions places)) c.new-steps.ensures in
    let clash = clash-refuted (held_clause h.arena) h.arena.given assumptions c.args.lit places c.tell_units.new.steps negated c.requires.assumed c.requires.negated steps in
    let all = c.as_slice-steps.ensures ∙ clash.2 in
    subst (λ (xs : List Step). 0 < length xs) (sym all) (omega arith)

pub rest_of-rest-requires : goal.rest_of-rest-requires
rest_of-rest-requires g c =
    let h = c.args.held.now in
    let assumptions = c.args.assumptions.now in
    let places = c.in_ok-places.places in
    let lits : Clause = c.args.lit ∷ negation c.args.lit ∷ [] in
    let negated = subst (λ (m : Literal). AreNegated assumptions (c.args.lit ∷ m ∷ []) (length assumptions) places) c.not.ensures c.in_ok-places.ensures in
    let steps = subst (λ (xs : List ℕ). c.tell_units.new.steps ≡ c.new-steps.result ++ unit_chain h.arena.given (at_places assumptions xs)) c.as_slice.ensures c.in_ok-tell_units.ensures.steps ∙ ap (λ (xs : List Step). xs ++ unit_chain h.arena.given (at_places assumptions places)) c.new-steps.ensures in
    let clash = clash-refuted (held_clause h.arena) h.arena.given assumptions c.args.lit places c.tell_units.new.steps negated c.requires.assumed c.requires.negated steps in
    let all = c.as_slice-steps.ensures ∙ clash.2 in
    subst (λ (xs : List Step). 0 < length xs) (sym all) (omega arith)

pub derived-requires-clause-unforgotten : goal.derived-requires-clause-unforgotten
derived-requires-clause-unforgotten g c =
    let h = c.args.held.now in
    let assumptions = c.args.assumptions.now in
    let places = c.in_ok-places.places in
    let lits : Clause = c.args.lit ∷ negation c.args.lit ∷ [] in
    let negated = subst (λ (m : Literal). AreNegated assumptions (c.args.lit ∷ m ∷ []) (length assumptions) places) c.not.ensures c.in_ok-places.ensures in
    let steps = subst (λ (xs : List ℕ). c.tell_units.new.steps ≡ c.new-steps.result ++ unit_chain h.arena.given (at_places assumptions xs)) c.as_slice.ensures c.in_ok-tell_units.ensures.steps ∙ ap (λ (xs : List Step). xs ++ unit_chain h.arena.given (at_places assumptions places)) c.new-steps.ensures in
    let clash = clash-refuted (held_clause h.arena) h.arena.given assumptions c.args.lit places c.tell_units.new.steps negated c.requires.assumed c.requires.negated steps in
    let all = c.as_slice-steps.ensures ∙ clash.2 in
    let first = c.first_of-first.ensures clash.0 (clash.1 ∷ []) all in
    let rest = c.rest_of-rest.ensures clash.0 (clash.1 ∷ []) all in
    let so_far = subst (λ (xs : List ℕ). c.tell_units.new.held ≡ with_ids h (length xs)) c.as_slice.ensures c.in_ok-tell_units.ensures.numbered in
    let covers = subst (λ (xs : List ℕ). IsCovering (g.T.Tracer.told c.tell_units.new.tracer) (look_up (held_clause h.arena) h.arena.given (at_places assumptions xs)) c.tell_units.new.held.arena.given) c.as_slice.ensures c.in_ok-tell_units.ensures.covers in
    let units = subst (λ (xs : List ℕ). g.T.Tracer.told c.tell_units.new.tracer ≡ option_map (with_units_told h.arena.given (at_places assumptions xs)) (g.T.Tracer.told c.args.tracer.now)) c.as_slice.ensures c.in_ok-tell_units.ensures.units in
    subst (λ (id : ClauseId). ForSome (g.T.Tracer.told c.tell_units.new.tracer) (λ t. All (IsUnforgotten t.steps) (antecedents (Derived id.0 (chain_of c.rest_of-rest.result.now))))) (sym first) (subst (λ (xs : List Step). ForSome (g.T.Tracer.told c.tell_units.new.tracer) (λ t. All (IsUnforgotten t.steps) (antecedents (Derived clash.0.antecedent.0 (chain_of xs))))) (sym rest) (IsCovering-antecedents (g.T.Tracer.told c.tell_units.new.tracer) (look_up (held_clause h.arena) h.arena.given (at_places assumptions places)) c.tell_units.new.held.arena.given [] clash.0.antecedent.0 (chain_of (clash.1 ∷ [])) covers clash.3))

pub derived-requires-clause-chain : goal.derived-requires-clause-chain
derived-requires-clause-chain g c =
    let h = c.args.held.now in
    let assumptions = c.args.assumptions.now in
    let places = c.in_ok-places.places in
    let lits : Clause = c.args.lit ∷ negation c.args.lit ∷ [] in
    let negated = subst (λ (m : Literal). AreNegated assumptions (c.args.lit ∷ m ∷ []) (length assumptions) places) c.not.ensures c.in_ok-places.ensures in
    let steps = subst (λ (xs : List ℕ). c.tell_units.new.steps ≡ c.new-steps.result ++ unit_chain h.arena.given (at_places assumptions xs)) c.as_slice.ensures c.in_ok-tell_units.ensures.steps ∙ ap (λ (xs : List Step). xs ++ unit_chain h.arena.given (at_places assumptions places)) c.new-steps.ensures in
    let clash = clash-refuted (held_clause h.arena) h.arena.given assumptions c.args.lit places c.tell_units.new.steps negated c.requires.assumed c.requires.negated steps in
    let all = c.as_slice-steps.ensures ∙ clash.2 in
    let first = c.first_of-first.ensures clash.0 (clash.1 ∷ []) all in
    let rest = c.rest_of-rest.ensures clash.0 (clash.1 ∷ []) all in
    let so_far = subst (λ (xs : List ℕ). c.tell_units.new.held ≡ with_ids h (length xs)) c.as_slice.ensures c.in_ok-tell_units.ensures.numbered in
    let covers = subst (λ (xs : List ℕ). IsCovering (g.T.Tracer.told c.tell_units.new.tracer) (look_up (held_clause h.arena) h.arena.given (at_places assumptions xs)) c.tell_units.new.held.arena.given) c.as_slice.ensures c.in_ok-tell_units.ensures.covers in
    let units = subst (λ (xs : List ℕ). g.T.Tracer.told c.tell_units.new.tracer ≡ option_map (with_units_told h.arena.given (at_places assumptions xs)) (g.T.Tracer.told c.args.tracer.now)) c.as_slice.ensures c.in_ok-tell_units.ensures.units in
    rw (c.as_slice-2.ensures ∙ c.new-empty.ensures, first, rest) (IsCovering-chain (g.T.Tracer.told c.tell_units.new.tracer) (look_up (held_clause h.arena) h.arena.given (at_places assumptions places)) c.tell_units.new.held.arena.given [] clash.0.antecedent.0 (chain_of (clash.1 ∷ [])) covers clash.3)

pub returns-clause-failure : goal.returns-clause-failure
returns-clause-failure g c =
    let h = c.args.held.now in
    let assumptions = c.args.assumptions.now in
    let places = c.in_ok-places.places in
    let lits : Clause = c.args.lit ∷ negation c.args.lit ∷ [] in
    let negated = subst (λ (m : Literal). AreNegated assumptions (c.args.lit ∷ m ∷ []) (length assumptions) places) c.not.ensures c.in_ok-places.ensures in
    let steps = subst (λ (xs : List ℕ). c.tell_units.new.steps ≡ c.new-steps.result ++ unit_chain h.arena.given (at_places assumptions xs)) c.as_slice.ensures c.in_ok-tell_units.ensures.steps ∙ ap (λ (xs : List Step). xs ++ unit_chain h.arena.given (at_places assumptions places)) c.new-steps.ensures in
    let clash = clash-refuted (held_clause h.arena) h.arena.given assumptions c.args.lit places c.tell_units.new.steps negated c.requires.assumed c.requires.negated steps in
    let all = c.as_slice-steps.ensures ∙ clash.2 in
    let first = c.first_of-first.ensures clash.0 (clash.1 ∷ []) all in
    let rest = c.rest_of-rest.ensures clash.0 (clash.1 ∷ []) all in
    let so_far = subst (λ (xs : List ℕ). c.tell_units.new.held ≡ with_ids h (length xs)) c.as_slice.ensures c.in_ok-tell_units.ensures.numbered in
    let covers = subst (λ (xs : List ℕ). IsCovering (g.T.Tracer.told c.tell_units.new.tracer) (look_up (held_clause h.arena) h.arena.given (at_places assumptions xs)) c.tell_units.new.held.arena.given) c.as_slice.ensures c.in_ok-tell_units.ensures.covers in
    let units = subst (λ (xs : List ℕ). g.T.Tracer.told c.tell_units.new.tracer ≡ option_map (with_units_told h.arena.given (at_places assumptions xs)) (g.T.Tracer.told c.args.tracer.now)) c.as_slice.ensures c.in_ok-tell_units.ensures.units in
    let told = subst (λ (id : ClauseId). Appends (g.T.Tracer.told c.tell_units.new.tracer) (g.T.Tracer.told c.derived.new.self) (derived_step c.in_ok-root.root.0 [] id.0 (clash.1 ∷ []))) first (subst (λ (d : Clause). Appends (g.T.Tracer.told c.tell_units.new.tracer) (g.T.Tracer.told c.derived.new.self) (derived_step c.in_ok-root.root.0 d c.first_of-first.result.0 (clash.1 ∷ []))) (c.as_slice-2.ensures ∙ c.new-empty.ensures) (subst (λ (xs : List Step). Appends (g.T.Tracer.told c.tell_units.new.tracer) (g.T.Tracer.told c.derived.new.self) (derived_step c.in_ok-root.root.0 c.as_slice-2.result.now c.first_of-first.result.0 xs)) rest c.in_ok-derived.ensures.told)) in
    failure-is assumptions h c.tell_units.new.held c.number.new.self c.in_ok-root.root.0 lits places clash.0.antecedent.0 [] (clash.1 ∷ []) (g.T.Tracer.told c.args.tracer.now) (g.T.Tracer.told c.tell_units.new.tracer) (g.T.Tracer.told c.derived.new.self) c.requires.consistent negated so_far c.in_ok-root.ensures.next c.in_ok-root.ensures.numbered clash.3 units told

pub returns-clause-covers : goal.returns-clause-covers
returns-clause-covers g c =
    let h = c.args.held.now in
    let assumptions = c.args.assumptions.now in
    let places = c.in_ok-places.places in
    let lits : Clause = c.args.lit ∷ negation c.args.lit ∷ [] in
    let negated = subst (λ (m : Literal). AreNegated assumptions (c.args.lit ∷ m ∷ []) (length assumptions) places) c.not.ensures c.in_ok-places.ensures in
    let steps = subst (λ (xs : List ℕ). c.tell_units.new.steps ≡ c.new-steps.result ++ unit_chain h.arena.given (at_places assumptions xs)) c.as_slice.ensures c.in_ok-tell_units.ensures.steps ∙ ap (λ (xs : List Step). xs ++ unit_chain h.arena.given (at_places assumptions places)) c.new-steps.ensures in
    let clash = clash-refuted (held_clause h.arena) h.arena.given assumptions c.args.lit places c.tell_units.new.steps negated c.requires.assumed c.requires.negated steps in
    let all = c.as_slice-steps.ensures ∙ clash.2 in
    let first = c.first_of-first.ensures clash.0 (clash.1 ∷ []) all in
    let rest = c.rest_of-rest.ensures clash.0 (clash.1 ∷ []) all in
    let so_far = subst (λ (xs : List ℕ). c.tell_units.new.held ≡ with_ids h (length xs)) c.as_slice.ensures c.in_ok-tell_units.ensures.numbered in
    let covers = subst (λ (xs : List ℕ). IsCovering (g.T.Tracer.told c.tell_units.new.tracer) (look_up (held_clause h.arena) h.arena.given (at_places assumptions xs)) c.tell_units.new.held.arena.given) c.as_slice.ensures c.in_ok-tell_units.ensures.covers in
    let units = subst (λ (xs : List ℕ). g.T.Tracer.told c.tell_units.new.tracer ≡ option_map (with_units_told h.arena.given (at_places assumptions xs)) (g.T.Tracer.told c.args.tracer.now)) c.as_slice.ensures c.in_ok-tell_units.ensures.units in
    let told = subst (λ (id : ClauseId). Appends (g.T.Tracer.told c.tell_units.new.tracer) (g.T.Tracer.told c.derived.new.self) (derived_step c.in_ok-root.root.0 [] id.0 (clash.1 ∷ []))) first (subst (λ (d : Clause). Appends (g.T.Tracer.told c.tell_units.new.tracer) (g.T.Tracer.told c.derived.new.self) (derived_step c.in_ok-root.root.0 d c.first_of-first.result.0 (clash.1 ∷ []))) (c.as_slice-2.ensures ∙ c.new-empty.ensures) (subst (λ (xs : List Step). Appends (g.T.Tracer.told c.tell_units.new.tracer) (g.T.Tracer.told c.derived.new.self) (derived_step c.in_ok-root.root.0 c.as_slice-2.result.now c.first_of-first.result.0 xs)) rest c.in_ok-derived.ensures.told)) in
    failure-covers assumptions h c.tell_units.new.held c.number.new.self c.in_ok-root.root.0 lits places clash.0.antecedent.0 [] (clash.1 ∷ []) (g.T.Tracer.told c.args.tracer.now) (g.T.Tracer.told c.tell_units.new.tracer) (g.T.Tracer.told c.derived.new.self) c.requires.consistent negated so_far c.in_ok-root.ensures.next c.in_ok-root.ensures.numbered clash.3 covers told
