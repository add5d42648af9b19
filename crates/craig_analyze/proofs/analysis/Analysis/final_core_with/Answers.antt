use Rattle.std.proofs.Common.{◌≡◌, ◌∷◌, refl, ap, subst, ◌∙◌, ℕ, Some}
use Rattle.std.specs.Option.{option_map}
use Rattle.craig_proof.specs.Tracer.{chain_of}
use Rattle.craig_spec.specs.Literal.{Literal, Clause}
use Rattle.craig_watch.specs.Trail.{entry_of}
use Rattle.craig_analyze.specs.Resolvent.{view_of}
use Rattle.craig_analyze.proofs.CoreLemmas.{clash-decision, forced-decision, core-clause}
use Rattle.craig_analyze.proofs.analysis.Analysis.final_core_with.Goals as goal

pub returns-in_default : goal.returns-in_default
returns-in_default c =
    let t = c.args.held.now.trail in
    let told = subst (λ (v : ℕ). option_map (λ e. e.reason) (entry_of t v) ≡ Some c.reason.result) c.var.ensures.value c.reason.ensures in
    (refl, clash-decision t c.args.failed c.reason.result c.requires told c.in_default.is)

pub returns : goal.returns
returns c =
    let h = c.args.held.now in
    let told = subst (λ (v : ℕ). option_map (λ e. e.reason) (entry_of h.trail v) ≡ Some (Some c.in-Some.reason)) c.var.ensures.value c.in-Some.ensures in
    let lits = c.in_ok-lits.ensures ∙ ap (λ (lower : Clause). c.not.result ∷ lower) c.as_slice.ensures.value ∙ ap (λ (first : Literal). first ∷ (view_of c.resolve_forced.new.self).lower) c.not.ensures in
    (core-clause h c.args.failed c.in-Some.reason.0 _ (chain_of c.resolve_forced.new.steps) (view_of c.begin_reason.new.self) (view_of c.resolve_forced.new.self) c.begin_reason.ensures.consistent c.in_ok-begin_reason.ensures.begun c.in_ok-resolve_forced.ensures _ told lits refl refl refl refl (ap chain_of c.new-rest.ensures), forced-decision h.trail c.args.failed c.in-Some.reason told)
