use Rattle.std.proofs.Common.{◌<◌, ℕ, length, reverse, subst, arith}
use Rattle.std.proofs.lemmas.List.{reverse-append}
use Rattle.std.proofs.lemmas.List.Elements.{All-push}
use Rattle.craig_spec.specs.Needed.{IsNeededPart, unforgotten}
use Rattle.craig_spec.proofs.MemberLemmas.{map-map}
use Rattle.craig_proof.specs.Lent.{step_at}
use Rattle.craig_proof.proofs.FindingLemmas.{IsFinding-first, IsFinding-next, IsFinding-done, bound_falls, waits_below}
use Rattle.craig_proof.proofs.finding.needed_steps.Goals as goal

pub loop-place-init : goal.loop-place-init
loop-place-init c = rw c.new-found.ensures.items (record {
  finding = IsFinding-first c.args.steps.now c.args.root.0 c.new-waiting.result c.wait_for.new.waiting c.new-waiting.ensures.empty c.in_ok-wait_for.ensures c.requires.root;
  within = λ k d low. absurd (omega arith);
})

pub loop-place-smaller : goal.loop-place-smaller
loop-place-smaller c =
    bound_falls c.loop-place.waiting c.wait_for_antecedents.new.waiting _ c.in-Some.ensures.taken.waited (waits_below c.args.steps.now c.args.root.0 c.loop-place.waiting c.take_last.new.waiting c.wait_for_antecedents.new.waiting _ (step_at c.args.steps.now c.in-Some.place) c.requires.rising c.requires.stand c.loop-place.invariant.finding c.in-Some.ensures.taken c.in_ok-wait_for_antecedents.ensures)

pub loop-place-preserved : goal.loop-place-preserved
loop-place-preserved c = record {
  finding =
      rw (c.in_ok-push.ensures.items, reverse-append) (IsFinding-next c.args.steps.now c.args.root.0 c.loop-place.waiting c.take_last.new.waiting c.wait_for_antecedents.new.waiting _ (step_at c.args.steps.now c.in-Some.place) c.requires.rising c.requires.stand c.loop-place.invariant.finding c.in-Some.ensures.taken c.in_ok-wait_for_antecedents.ensures);
  within = rw c.in_ok-push.ensures.items (All-push (λ (n : ℕ). n < length c.args.steps.now) c.loop-place.found.items c.in-Some.place c.loop-place.invariant.within c.in-Some.ensures.within);
}

pub returns-clause-needed : goal.returns-clause-needed
returns-clause-needed c =
    rw c.reverse.ensures.items (subst (IsNeededPart c.args.steps.now c.args.root.0) (map-map unforgotten (λ (place : ℕ). step_at c.args.steps.now place) (reverse c.loop-place.found.items)) (IsFinding-done c.args.steps.now c.args.root.0 c.loop-place.waiting _ c.requires.rising c.in_default.ensures.none c.loop-place.invariant.finding))
