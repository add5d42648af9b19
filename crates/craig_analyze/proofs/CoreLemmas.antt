-- Why a literal is false in the end.
use Rattle.std.proofs.Common.{◌≡◌, ◌≢◌, inl, inr, ℕ, ◌<◌, ◌≤◌, Bool, true, false, is_some, List, [], ◌∷◌, ◌++◌, length, get_or, map, take, All, Contains, Option, Some, None, refl, sym, ap, subst, ◌∙◌, arith}
use Rattle.std.specs.Option.{option_map}
use Rattle.std.proofs.lemmas.Option.{same_Some}
use Rattle.std.proofs.lemmas.List.Elements.{All-cons, All-nil, All-contains, Contains-get_or}
use Rattle.craig_spec.specs.Literal.{Literal, Clause, negation}
use Rattle.craig_spec.specs.Chain.{ChainStep, IsChain, ChainOk}
use Rattle.craig_spec.proofs.MemberLemmas.{Contains-cases}
use Rattle.craig_spec.proofs.LiteralLemmas.{negation_twice}
use Rattle.craig_base.specs.declared.clause_id.ClauseId.{ClauseId}
use Rattle.craig_base.specs.Clauses.{IsNormal}
use Rattle.craig_proof.specs.Tracer.{chain_of}
use Rattle.craig_watch.specs.declared.trail_entry.TrailEntry.{TrailEntry}
use Rattle.craig_watch.specs.Trail.{Trail, entry_of, IsFalse, level_at}
use Rattle.craig_watch.specs.Held.{HeldView, held_clause, IsConsistent}
use Rattle.craig_watch.proofs.PlacesLemmas.{entry-false}
use Rattle.craig_analyze.specs.declared.learnt.Learnt.{Learnt}
use Rattle.craig_analyze.specs.declared.staying.Staying.TheVariants.{Decisions}
use Rattle.craig_analyze.specs.Decision.{IsDecision}
use Rattle.craig_analyze.specs.Core.{IsCoreClause}
use Rattle.craig_proof.specs.NeededSteps.{bound_of}
use Rattle.craig_analyze.specs.Resolvent.{ResolventView, at_place, negated_at, resolvent_of, Stays, HasBegunReason, HasForced, Leads, AreApart}
use Rattle.craig_analyze.proofs.PlaceLemmas.{place-false, true-not_false, false-within, same_negated, level_at-place, entry_of-place, false-not_both}
use Rattle.craig_analyze.proofs.LevelLemmas.{level-le, reason_of-cases}
use Rattle.craig_analyze.proofs.ResolventLemmas.{has-lower}
use Rattle.craig_analyze.proofs.WalkLemmas.{no-reason}
use Rattle.craig_proof.proofs.FindingLemmas.{bound_of-le}
use Rattle.craig_analyze.proofs.LearntLemmas.{apart-cons}
use Rattle.craig_analyze.proofs.ForcingLemmas.{false-higher}

-- the negation of a false literal whose variable has no reason is a decision
pub clash-decision : (t : Trail) (failed : Literal) (o : Option ClauseId) → IsFalse t failed → option_map (λ e. e.reason) (entry_of t failed.var) ≡ Some o → o ≡ None → IsDecision t (negation failed)
clash-decision t failed o falsified told none =
    let e = entry-false t failed falsified in
    let is : o ≡ e.0.reason = reason_of-cases (entry_of t failed.var) o (λ f. f.reason) e.0 e.1 told in
    record { entry = e.0; found = e.1; literal = e.2; decided = sym is ∙ none }

-- a false literal whose variable has no reason negates a decision
no-reason-is : {A : Type 0} (o : Option A) → is_some o ≡ false → o ≡ None
no-reason-is None is = refl
no-reason-is (Some x) is = let no : true ≡ false = is in cc

pub unforced-decision : (t : Trail) (l : Literal) (b : Bool) → option_map (λ e. is_some e.reason) (entry_of t l.var) ≡ Some b → b ≡ false → IsFalse t l → IsDecision t (negation l)
unforced-decision t l b told unset falsified =
    let e = entry-false t l falsified in
    let is : b ≡ is_some e.0.reason = reason_of-cases (entry_of t l.var) b (λ f. is_some f.reason) e.0 e.1 told in
    record { entry = e.0; found = e.1; literal = e.2; decided = no-reason-is e.0.reason (sym is ∙ unset) }

-- where it has one, it is none
pub forced-decision : (t : Trail) (failed : Literal) (id : ClauseId) → option_map (λ e. e.reason) (entry_of t failed.var) ≡ Some (Some id) → ¬ IsDecision t (negation failed)
forced-decision t failed id told decision =
    let is : Some id ≡ decision.entry.reason = reason_of-cases (entry_of t failed.var) (Some id) (λ f. f.reason) decision.entry decision.found told in
    let no : Some id ≡ None = is ∙ decision.decided in
    cc

module _ (h : HeldView) (failed : Literal) (id : ℕ) (start end : List ChainStep) (s0 s1 : ResolventView) (ok : IsConsistent h) (b : HasBegunReason h failed id s0) (f : HasForced Decisions h start end s0 s1) where
  failed-false : IsFalse h.trail failed
  failed-false = subst (IsFalse h.trail) (sym b.failed_is) (place-false h.trail b.place ok.distinct b.within)

  lowest : bound_of s0.pending ≤ b.place
  lowest = bound_of-le s0.pending b.place b.unresolved.below

  lower-earlier : (l : Literal) → Contains s1.lower l → IsFalse (take b.place h.trail) l
  lower-earlier l has =
      elim (f.earlier l (has-lower h.trail s1 l has)) [
        | inl before ↦ b.earlier l before
        | inr came ↦ false-higher h.trail (bound_of s0.pending) b.place l ok.distinct lowest came
      ]

  failed-level : level_at h.trail failed ≡ (at_place h.trail b.place).level
  failed-level = ap (level_at h.trail) b.failed_is ∙ level_at-place h.trail b.place ok.distinct b.within

  lower-level : (l : Literal) → Contains s1.lower l → level_at h.trail l ≤ level_at h.trail failed
  lower-level l has =
      let at = false-within b.place h.trail l (lower-earlier l has) in
      let low : at.0 < b.place = at.1 in
      let is : level_at h.trail l ≡ (at_place h.trail at.0).level = ap (level_at h.trail) (sym at.3) ∙ level_at-place h.trail at.0 ok.distinct at.2 in
      let up : (at_place h.trail at.0).level ≤ (at_place h.trail b.place).level = level-le h.trail at.0 b.place ok.levels (omega arith) b.within in
      let same = failed-level in
      omega arith

  decisions-lower : All (λ m. IsDecision h.trail (negation m) × (level_at h.trail m ≤ level_at h.trail failed)) s1.lower
  decisions-lower k d w = (f.unresolved.lower_inner k d w, lower-level (get_or s1.lower k d) (Contains-get_or s1.lower k d w))

  -- the variable of the literal is forced, and those of the others were decided
  lower-apart : (m : Literal) → Contains s1.lower m → failed.var ≢ m.var
  lower-apart m has var =
      let decision : IsDecision h.trail (negation m) = All-contains (Stays Decisions h) s1.lower m f.unresolved.lower_inner has in
      let here : (at_place h.trail b.place).literal.var ≡ failed.var = ap (λ (l : Literal). l.var) (sym b.failed_is) in
      let found : Some decision.entry ≡ Some (at_place h.trail b.place) = sym decision.found ∙ ap (entry_of h.trail) (sym (here ∙ var)) ∙ entry_of-place h.trail b.place ok.distinct b.within in
      let same : decision.entry ≡ at_place h.trail b.place = same_Some _ _ found in
      no-reason (at_place h.trail b.place).reason (sym (ap (λ (e : TrailEntry). e.reason) same) ∙ decision.decided) b.forced

  stays-apart : (p : ℕ) → p < bound_of s0.pending → AreApart h p (negation failed ∷ [])
  stays-apart p low =
      let le = lowest in
      let before : p < b.place = omega arith in
      let within : p < length h.trail = let w = b.within in omega arith in
      All-cons (λ l. (¬ IsFalse (take p h.trail) (negation l)) × (l ≢ negated_at h.trail p)) (negation failed) [] (
        (λ falsified. (let at = false-within p h.trail failed (subst (IsFalse (take p h.trail)) (negation_twice failed) falsified) in let less : at.0 < p = at.1 in let same : at.0 ≡ b.place = same_negated h.trail at.0 b.place ok.distinct at.2 b.within (at.3 ∙ b.failed_is) in omega arith)),
        (λ e. true-not_false h.trail p ok.distinct within (subst (IsFalse h.trail) (sym (negation_twice failed) ∙ ap negation e ∙ negation_twice (at_place h.trail p).literal) failed-false)),
      ) (All-nil (λ l. (¬ IsFalse (take p h.trail) (negation l)) × (l ≢ negated_at h.trail p)))

  core-chain : start ≡ [] → ChainOk (held_clause h.arena) (negation failed ∷ s1.lower) id end
  core-chain none =
      let begins : Leads h b.reason start (negation failed ∷ []) s0 = subst (λ (steps : List ChainStep). Leads h b.reason steps (negation failed ∷ []) s0) (sym none) b.same in
      let whole : Leads h b.reason end (negation failed ∷ []) s1 = f.chain b.reason (negation failed ∷ []) stays-apart begins in
      let lower : resolvent_of h.trail s1 ≡ s1.lower = ap (λ (places : List ℕ). map (negated_at h.trail) places ++ s1.lower) f.none in
      record {
        start = b.reason;
        start_is = b.held;
        chain = subst (λ (c : Clause). IsChain (held_clause h.arena) b.reason end (negation failed ∷ c)) lower whole;
      }

  lower-false : (l : Literal) → Contains s1.lower l → IsFalse h.trail l
  lower-false l has = All-contains (IsFalse h.trail) s1.lower l f.unresolved.lower_false has

  core-normal : IsNormal (negation failed ∷ s1.lower)
  core-normal = record {
    distinct = λ i j d before within same. apart-cons (negation failed) s1.lower (λ k e w. lower-apart (get_or s1.lower k e) (Contains-get_or s1.lower k e w)) f.unresolved.lower_apart i j d before within (ap (λ (l : Literal). l.var) same);
    not_tautology = λ (l, here, there). elim (Contains-cases (negation failed) s1.lower l here) [
      | inl first ↦ elim (Contains-cases (negation failed) s1.lower (negation l) there) [
        | inl second ↦ false-not_both h.trail failed ok.distinct failed-false (subst (IsFalse h.trail) (sym (second ∙ ap negation (sym first) ∙ negation_twice failed)) failed-false)
        | inr lower ↦ lower-apart (negation l) lower (ap (λ (m : Literal). m.var) first)
      ]
      | inr lower ↦ elim (Contains-cases (negation failed) s1.lower (negation l) there) [
        | inl second ↦ lower-apart l lower (ap (λ (m : Literal). m.var) second)
        | inr other ↦ false-not_both h.trail l ok.distinct (lower-false l lower) (lower-false (negation l) other)
      ]
    ];
  }

  -- the clause and its chain
  pub core-clause : (l : Learnt) → option_map (λ e. e.reason) (entry_of h.trail failed.var) ≡ Some (Some l.first) → l.lits ≡ negation failed ∷ s1.lower → l.first.0 ≡ id → chain_of l.rest ≡ end → l.back ≡ 0 → l.glue ≡ 0 → start ≡ [] → IsCoreClause h failed l
  core-clause l told lits named steps back glue none = record {
    derived = record {
      normal = subst IsNormal (sym lits) core-normal;
      chain =
          subst (λ (c : Clause). ChainOk (held_clause h.arena) c l.first.0 (chain_of l.rest)) (sym lits)
          (subst (λ (n : ℕ). ChainOk (held_clause h.arena) (negation failed ∷ s1.lower) n (chain_of l.rest)) (sym named)
          (subst (λ (rest : List ChainStep). ChainOk (held_clause h.arena) (negation failed ∷ s1.lower) id rest) (sym steps) (core-chain none)));
    };
    begins = told;
    rest = s1.lower;
    parts = lits;
    decisions = decisions-lower;
    back = back;
    glue = glue;
  }
