-- What is told of a refutation.
use Rattle.std.proofs.Common.{◌≡◌, inl, inr, List, length, ℕ, ◌+◌, ◌≤◌, true, Option, refl, subst, sym, arith}
use Rattle.std.specs.Option.{ForSome, is_some}
use Rattle.craig_spec.specs.Literal.{Clause}
use Rattle.craig_spec.specs.Chain.{Told, ToldStep, IsTold}
use Rattle.craig_spec.specs.Needed.{IsNeeded, IsOriginal}
use Rattle.craig_base.specs.Arena.{IsArena}
use Rattle.craig_base.specs.declared.clause_id.ClauseId.{ClauseId}
use Rattle.craig_base.specs.declared.script_part.Part.{Part}
use Rattle.craig_proof.proofs.AppendsLemmas.{told_before}
use Rattle.craig_proof.specs.Covers.{Covers, IsCovering}
use Rattle.craig_watch.specs.Held.{HeldView, held_clause}
use Rattle.craig_order.specs.Order.{OrderView}
use Rattle.craig_search.specs.declared.verdict.Verdict.{Verdict}
use Rattle.craig_search.specs.declared.verdict.Verdict.TheVariants as verdict
use Rattle.craig_search.specs.Search.{IsSearched}
use Rattle.craig_search.specs.Tells.{IsUnitId, Tells, TellsVerdict, WasTold}
use Rattle.craig_search.specs.Verdict.{Assumptions, HasUnitIds, IsVerdict}
use Rattle.craig_search.proofs.LawLemmas.{root-rests}
use Rattle.craig_solver.specs.declared.answer.Answer.{Answer}
use Rattle.craig_solver.specs.declared.answer.Answer.TheVariants as answer
use Rattle.craig_solver.specs.Settling.{IsAnswerFor}
use Rattle.craig_solver.specs.State.{RestOnAccepted}
use Rattle.craig_solver.specs.Told.{IsAcceptedStep, TellsAnswer}
use Rattle.craig_solver.proofs.RestLemmas.{beyond, beyond-high, closed-searched, was-accepted}
use Rattle.craig_solver.proofs.SearchedLemmas.{root-unforgotten}

-- an original from before that the root needs is one of an accepted clause
root-accepted : (accepted : List (Part × Clause)) (h : HeldView) (root : ClauseId) (places : List ℕ) (t u : Told) → IsArena h.arena → Covers t (held_clause h.arena) h.arena.given → RestOnAccepted accepted h.arena t → HasUnitIds h (verdict.Failed root places) → Tells (held_clause h.arena) h.arena.given (IsUnitId root.0 places) t u → IsTold u → (s : ToldStep) → WasTold t s → IsOriginal s.origin → IsNeeded u.steps root.0 s.id → IsAcceptedStep accepted s
root-accepted accepted h root places t u ok covers rest ids tells stands s was original needed =
    let enough : h.arena.given + length places ≤ root.0 = ids in
    let on = needed (beyond h.arena.given rest.set (λ x. true)) (beyond-high h.arena.given rest.set (λ x. true) root.0 (omega (arith, enough))) (closed-searched accepted h (IsUnitId root.0 places) t u tells ok covers stands rest (λ x. true) (λ x y le yes_on. refl)) in
    was-accepted accepted h (IsUnitId root.0 places) t u tells ok covers stands rest (λ x. true) (λ x y le yes_on. refl) s was on original

tells-cases : (accepted : List (Part × Clause)) (h n : HeldView) (assumptions : Assumptions) (limit : Option ℕ) (v : Verdict) (a : Answer) (t u : Told) → IsArena h.arena → Covers t (held_clause h.arena) h.arena.given → RestOnAccepted accepted h.arena t → HasUnitIds h v → IsVerdict h n assumptions limit v → TellsVerdict h n assumptions v t u → IsTold u → IsAnswerFor n v a → TellsAnswer accepted assumptions a u
tells-cases accepted h n assumptions limit verdict.Model (answer.Model values) t u ok covers rest ids is told stands for = tt
tells-cases accepted h n assumptions limit verdict.Model (answer.Failed root places) t u ok covers rest ids is told stands for = absurd for
tells-cases accepted h n assumptions limit verdict.Model (answer.Limit lemmas) t u ok covers rest ids is told stands for = absurd for
tells-cases accepted h n assumptions limit (verdict.Failed root places) a t u ok covers rest ids is told stands for =
    let r = told.1 in
    subst (λ (b : Answer). TellsAnswer accepted assumptions b u) (sym for) (record {
      first = r.first;
      rest = r.rest;
      told = r.told;
      unforgotten = root-unforgotten n assumptions root.0 places t u r;
      needs = λ s here original needed. elim (root-rests h n assumptions root places t u told is.first_places stands s here original needed) [
        | inl was ↦ inl (root-accepted accepted h root places t u ok covers rest ids told.0 stands s was original needed)
        | inr unit ↦ inr unit
      ];
    })
tells-cases accepted h n assumptions limit (verdict.Limit lemmas) a t u ok covers rest ids is told stands for =
    subst (λ (b : Answer). TellsAnswer accepted assumptions b u) (sym for) tt

pub TellsAnswer-searched : (accepted same : List (Part × Clause)) (h n : HeldView) (o : OrderView) (assumptions : Assumptions) (limit : Option ℕ) (v : Verdict) (a : Answer) (before after : Option Told) → accepted ≡ same → is_some after ≡ is_some before → IsArena h.arena → IsCovering before (held_clause h.arena) h.arena.given → IsSearched h n o before after assumptions limit v → ForSome before (RestOnAccepted accepted h.arena) → IsAnswerFor n v a → ForSome after (TellsAnswer same assumptions a)
TellsAnswer-searched accepted same h n o assumptions limit v a before after is_same tells ok covers searched rests for = λ u at.
    let t = told_before before after u tells at in
    subst (λ (xs : List (Part × Clause)). TellsAnswer xs assumptions a u) is_same (tells-cases accepted h n assumptions limit v a t.0 u ok (covers t.0 t.1) (rests t.0 t.1) searched.ids searched.verdict (searched.told t.0 u t.1 at) (searched.covers u at).stand for)
