use Rattle.std.proofs.Common.{◌≡◌, ◌++◌, ◌∷◌, List, [], Some, sym, ap, ◌∙◌, subst}
use Rattle.std.proofs.lemmas.Result.{on_ok_weaker}
use Rattle.craig_spec.specs.Literal.{Literal, negation}
use Rattle.craig_spec.specs.Chain.{ChainStep}
use Rattle.craig_proof.specs.declared.step.Step.{Step}
use Rattle.craig_proof.specs.Tracer.{chain_of}
use Rattle.craig_watch.specs.Trail.{IsAssigned}
use Rattle.craig_analyze.specs.Resolvent.{at_place, negated_at, view_of, HasResolved}
use Rattle.craig_analyze.proofs.PlaceLemmas.{place-assigned}
use Rattle.craig_analyze.proofs.LevelLemmas.{literal-read}
use Rattle.craig_analyze.proofs.HeldClauseLemmas.{held-live}
use Rattle.craig_analyze.proofs.WalkLemmas.{HasResolved-met, no-reason, chain_of-push, reason-told, reason-held, reason-assigned}
use Rattle.craig_analyze.proofs.resolvent.Resolvent.resolve_on.Goals as goal

pub reason-requires : goal.reason-requires
reason-requires c =
    let t = c.args.held.now.trail in
    let read = literal-read t c.trail.result.now c.args.place c.index-trail-place.result c.trail.ensures.value c.requires.within c.index-trail-place.is in
    subst (IsAssigned t) (sym (c.var.ensures.value ∙ ap (λ (l : Literal). l.var) read)) (place-assigned t c.args.place c.trail.ensures.consistent.distinct c.requires.within)

pub unreachable-requires : goal.unreachable-requires
unreachable-requires c =
    let h = c.args.held.now in
    let read = literal-read h.trail c.trail.result.now c.args.place c.index-trail-place.result c.trail.ensures.value c.requires.within c.index-trail-place.is in
    let told = reason-told h c.args.place c.var.result.0 c.reason.result c.trail.ensures.consistent c.requires.within (c.var.ensures.value ∙ ap (λ (l : Literal). l.var) read) c.reason.ensures in
    no-reason (at_place h.trail c.args.place).reason (sym told ∙ c.in_default.is) c.requires.forced

pub meet-requires : goal.meet-requires
meet-requires c =
    let h = c.args.held.now in
    let ok = c.trail.ensures.consistent in
    let read = literal-read h.trail c.trail.result.now c.args.place c.index-trail-place.result c.trail.ensures.value c.requires.within c.index-trail-place.is in
    let told = reason-told h c.args.place c.var.result.0 (Some c.in-Some.antecedent) ok c.requires.within (c.var.ensures.value ∙ ap (λ (l : Literal). l.var) read) c.in-Some.ensures in
    let reason = reason-held h c.args.place c.in-Some.antecedent ok c.requires.within (sym told) in
    let live = held-live h.arena c.in-Some.antecedent.0 reason.0 reason.1 in
    record {
      live = live.0;
      assigned = rw live.1 (reason-assigned h c.args.place reason.0 ok c.requires.within reason.2);
    }

pub returns : goal.returns
returns c =
    let h = c.args.held.now in
    let ok = c.trail.ensures.consistent in
    let read = literal-read h.trail c.trail.result.now c.args.place c.index-trail-place.result c.trail.ensures.value c.requires.within c.index-trail-place.is in
    let told = reason-told h c.args.place c.var.result.0 (Some c.in-Some.antecedent) ok c.requires.within (c.var.ensures.value ∙ ap (λ (l : Literal). l.var) read) c.in-Some.ensures in
    let reason = reason-held h c.args.place c.in-Some.antecedent ok c.requires.within (sym told) in
    let step : Step = record { pivot = negated_at h.trail c.args.place; antecedent = c.in-Some.antecedent } in
    let pivot = c.not-pivot.ensures ∙ ap negation read in
    let pushed : c.push.new.self ≡ c.args.steps.now ++ step ∷ [] = c.in_ok-push.ensures.pushed ∙ ap (λ (p : Literal). c.args.steps.now ++ record { pivot = p; antecedent = c.in-Some.antecedent } ∷ []) pivot in
    let chain : chain_of c.push.new.self ≡ chain_of c.args.steps.now ++ record { pivot = negated_at h.trail c.args.place; antecedent = c.in-Some.antecedent.0 } ∷ [] = ap chain_of pushed ∙ chain_of-push c.args.steps.now step in
    on_ok_weaker c.meet.result (λ met. subst (λ (after : List ChainStep). HasResolved c.args.staying h c.args.place (chain_of c.args.steps.now) after (view_of c.args.self.now) (view_of c.meet.new.self)) (sym chain) (HasResolved-met c.args.staying h c.args.place c.in-Some.antecedent.0 (chain_of c.args.steps.now) (view_of c.args.self.now) (view_of c.meet.new.self) ok c.requires reason met)) c.meet.ensures.met
