-- The refutation of assumptions: what was numbered and told.
use Rattle.std.proofs.Common.{◌≡◌, ℕ, ◌+◌, ◌<◌, ◌≤◌, List, [], ◌∷◌, ◌++◌, length, get_or, take, All, Option, Some, None, Result, Ok, Err, refl, sym, ap, subst, ◌∙◌, arith}
use Rattle.std.specs.Option.{option_map}
use Rattle.std.specs.List.{slice_get}
use Rattle.std.proofs.lemmas.List.{append_assoc, length-take, take_more}
use Rattle.std.proofs.lemmas.List.Elements.{All-cons, All-contains, All-take, All-weaker, Contains-get_or}
use Rattle.craig_base.specs.declared.clause_id.ClauseId.{ClauseId}
use Rattle.craig_base.specs.declared.script_part.Part.{Part}
use Rattle.craig_spec.specs.Literal.{Literal, Clause, negation}
use Rattle.craig_spec.specs.Chain.{ChainOk, Told, ToldStep, with_step}
use Rattle.craig_spec.proofs.ClauseLemmas.{SameLiterals-refl}
use Rattle.craig_base.specs.Arena.{with_id}
use Rattle.craig_base.proofs.LookUpLemmas.{held-below}
use Rattle.craig_proof.specs.Covers.{IsCovering, IsOldOrNext}
use Rattle.craig_proof.specs.Tracer.{Appends, chain_of, derived_step, original_step}
use Rattle.craig_proof.specs.declared.step.Step.{Step}
use Rattle.craig_proof.proofs.CoversLemmas.{IsCovering-derived}
use Rattle.craig_watch.specs.declared.trail_entry.TrailEntry.{TrailEntry}
use Rattle.craig_watch.specs.Trail.{Trail, level_at}
use Rattle.craig_watch.specs.Held.{HeldView, IsConsistent, held_clause}
use Rattle.craig_watch.proofs.PlacesLemmas.{place-found}
use Rattle.std.specs.Result.{IfOk, OnOk}
use Rattle.std.specs.declared.alloc.AllocError.{AllocError}
use Rattle.craig_spec.proofs.LiteralLemmas.{negation_twice}
use Rattle.craig_analyze.specs.Decision.{IsDecision}
use Rattle.craig_analyze.specs.Core.{IsCoreClause}
use Rattle.craig_analyze.specs.declared.learnt.Learnt.{Learnt}
use Rattle.craig_order.specs.Order.{OrderView}
use Rattle.craig_search.specs.declared.failing.Failure.{Failure}
use Rattle.craig_search.specs.Leaves.{IsReady}
use Rattle.craig_search.specs.Assuming.{AreAllAssumed, AreNegated, IsAssumed}
use Rattle.craig_search.specs.Failing.{IsFailure, look_up, unit_chain, with_ids, with_unit, with_units_told}
use Rattle.craig_search.specs.Verdict.{Assumptions, at_places}
use Rattle.craig_search.proofs.NegatedLemmas.{negated-first}
use Rattle.craig_search.proofs.UnitChainLemmas.{core-refuted}
use Rattle.craig_search.proofs.UnitLemmas.{at_places-push, covers-unit, length-at_places, look_up-low, look_up-push, unit_chain-push, with_units_told-push}

pub numbered-ids : (h mid new : HeldView) (n : ℕ) → mid ≡ with_ids h n → new ≡ record mid { arena = with_id mid.arena } → new ≡ with_ids h (n + 1)
numbered-ids h mid new n is next =
    let sum : h.arena.given + n + 1 ≡ h.arena.given + (n + 1) = omega arith in
    next ∙ ap (λ (m : HeldView). record m { arena = with_id m.arena }) is ∙ ap (λ (k : ℕ). record h { arena = record h.arena { given = k } }) sum

map-twice : {A : Type 0} (f g : A → A) (o : Option A) → option_map f (option_map g o) ≡ option_map (λ x. f (g x)) o
map-twice f g None = refl
map-twice f g (Some x) = refl

pub told-root : (id root : ℕ) (xs : Assumptions) (first : ℕ) (rest : List Step) (before mid after : Option Told) → mid ≡ option_map (with_units_told id xs) before → Appends mid after (derived_step root [] first rest) → after ≡ option_map (λ t. with_step (with_units_told id xs t) (derived_step root [] first rest)) before
told-root id root xs first rest before mid after units appends = appends ∙ ap (option_map (λ (t : Told). with_step t (derived_step root [] first rest))) units ∙ map-twice (λ (t : Told). with_step t (derived_step root [] first rest)) (with_units_told id xs) before

-- the held clauses are covered after the root was told
old_or_root : (h : HeldView) (xs : Assumptions) (root : ℕ) → IsConsistent h → (n : ℕ) → root ≡ h.arena.given + n → IsOldOrNext (look_up (held_clause h.arena) h.arena.given xs) (held_clause h.arena) root []
old_or_root h xs root ok n next = record {
  at_next = λ c is. absurd (let low : root < h.arena.given = held-below h.arena root c ok.arena is in omega arith);
  others = λ k other d is. (d, look_up-low (held_clause h.arena) h.arena.given xs k (held-below h.arena k d ok.arena is) ∙ is, SameLiterals-refl d);
}

pub covers-root : (h : HeldView) (xs : Assumptions) (root given : ℕ) (n : ℕ) (first : ℕ) (rest : List Step) (mid after : Option Told) → IsConsistent h → given ≡ h.arena.given + n → root ≡ given → IsCovering mid (look_up (held_clause h.arena) h.arena.given xs) given → Appends mid after (derived_step root [] first rest) → ChainOk (look_up (held_clause h.arena) h.arena.given xs) [] first (chain_of rest) → IsCovering after (held_clause h.arena) (given + 1)
covers-root h xs root given n first rest mid after ok is next covers appends chain =
    IsCovering-derived mid after (look_up (held_clause h.arena) h.arena.given xs) (held_clause h.arena) given [] first rest covers (subst (λ (k : ℕ). Appends mid after (derived_step k [] first rest)) next appends) chain (old_or_root h xs given ok n is)

-- a decision on the trail is assumed
pub decision-assumed : (assumptions : Assumptions) (t : Trail) (l : Literal) → AreAllAssumed assumptions t → IsDecision t l → IsAssumed assumptions l
decision-assumed assumptions t l all decision =
    let at = place-found t l.var decision.entry decision.found in
    let is = at.3 decision.entry in
    subst (IsAssumed assumptions) (ap (λ (e : TrailEntry). e.literal) is ∙ decision.literal) (all at.0 decision.entry at.1 (ap (λ (e : TrailEntry). e.reason) is ∙ decision.decided))

-- one unit more was told
next-places : (assumptions : Assumptions) (places : List ℕ) (i p : ℕ) (a : Part × Literal) → i < length places → p ≡ get_or places i p → slice_get assumptions p ≡ Some a → at_places assumptions (take (i + 1) places) ≡ at_places assumptions (take i places) ++ a ∷ []
next-places assumptions places i p a within is at =
    ap (at_places assumptions) (take_more places i p within ∙ ap (λ (q : ℕ). take i places ++ q ∷ []) (sym is)) ∙ at_places-push assumptions (take i places) p a at

units-length : (assumptions : Assumptions) (places : List ℕ) (i : ℕ) → All (λ p. p < length assumptions) places → i < length places → length (at_places assumptions (take i places)) ≡ i
units-length assumptions places i within low =
    let long = length-take i places in
    let is : length (at_places assumptions (take i places)) ≡ length (take i places) = length-at_places assumptions (take i places) (All-take (λ p. p < length assumptions) i places within) in
    omega arith

module _ (h mid new : HeldView) (assumptions : Assumptions) (places : List ℕ) (i p : ℕ) (a : Part × Literal) (id : ClauseId) (all : All (λ q. q < length assumptions) places) (within : i < length places) (is : p ≡ get_or places i p) (at : slice_get assumptions p ≡ Some a) (so_far : mid ≡ with_ids h i) (numbered : new ≡ record mid { arena = with_id mid.arena }) (next : id.0 ≡ mid.arena.given) where
  abbrev pub before-it : Assumptions
  before-it = at_places assumptions (take i places)

  with-it : at_places assumptions (take (i + 1) places) ≡ before-it ++ a ∷ []
  with-it = next-places assumptions places i p a within is at

  id-is : id.0 ≡ h.arena.given + length before-it
  id-is =
      let one : mid.arena.given ≡ h.arena.given + i = ap (λ (m : HeldView). m.arena.given) so_far in
      let long : length before-it ≡ i = units-length assumptions places i all within in
      omega (arith, next)

  pub steps-next : (old so_far_steps more : List Step) (pivot : Literal) → so_far_steps ≡ old ++ unit_chain h.arena.given before-it → more ≡ so_far_steps ++ record { pivot = pivot; antecedent = id } ∷ [] → pivot ≡ negation a.1 → more ≡ old ++ unit_chain h.arena.given (at_places assumptions (take (i + 1) places))
  steps-next old so_far_steps more pivot steps pushed pivot_is =
      let step : record { pivot = pivot; antecedent = id } ≡ record { pivot = negation a.1; antecedent = record { 0 = h.arena.given + length before-it } } = λ j. record { pivot = pivot_is j; antecedent = record { 0 = id-is j } } in
      let chain : unit_chain h.arena.given before-it ++ record { pivot = pivot; antecedent = id } ∷ [] ≡ unit_chain h.arena.given (at_places assumptions (take (i + 1) places)) = ap (λ (s : Step). unit_chain h.arena.given before-it ++ s ∷ []) step ∙ sym (unit_chain-push h.arena.given before-it a) ∙ ap (unit_chain h.arena.given) (sym with-it) in
      pushed ∙ ap (λ (xs : List Step). xs ++ record { pivot = pivot; antecedent = id } ∷ []) steps ∙ append_assoc old (unit_chain h.arena.given before-it) (record { pivot = pivot; antecedent = id } ∷ []) ∙ ap (λ (xs : List Step). old ++ xs) chain

  step-is : original_step id.0 a.0.0 (a.1 ∷ []) ≡ original_step (h.arena.given + length before-it) a.0.0 (a.1 ∷ [])
  step-is = ap (λ (n : ℕ). original_step n a.0.0 (a.1 ∷ [])) id-is

  pub units-next : (before by_now after : Option Told) → by_now ≡ option_map (with_units_told h.arena.given before-it) before → Appends by_now after (original_step id.0 a.0.0 (a.1 ∷ [])) → after ≡ option_map (with_units_told h.arena.given (at_places assumptions (take (i + 1) places))) before
  units-next before by_now after units appends =
      let f : Told → Told = with_units_told h.arena.given before-it in
      let s : ToldStep = original_step id.0 a.0.0 (a.1 ∷ []) in
      let same : (t : Told) → with_step (f t) s ≡ with_units_told h.arena.given (at_places assumptions (take (i + 1) places)) t = λ t. (ap (with_step (f t)) step-is ∙ sym (with_units_told-push h.arena.given before-it a t) ∙ ap (λ (xs : Assumptions). with_units_told h.arena.given xs t) (sym with-it)) in
      appends ∙ ap (option_map (λ (t : Told). with_step t s)) units ∙ map-twice (λ (t : Told). with_step t s) f before ∙ ap (λ (g : Told → Told). option_map g before) (λ j t. same t j)

  pub covers-next : (by_now after : Option Told) → IsCovering by_now (look_up (held_clause h.arena) h.arena.given before-it) mid.arena.given → Appends by_now after (original_step id.0 a.0.0 (a.1 ∷ [])) → IsCovering after (look_up (held_clause h.arena) h.arena.given (at_places assumptions (take (i + 1) places))) new.arena.given
  covers-next by_now after covers appends =
      let f : ℕ → Option Clause = look_up (held_clause h.arena) h.arena.given before-it in
      let given : new.arena.given ≡ id.0 + 1 = ap (λ (m : HeldView). m.arena.given) numbered ∙ ap (λ (n : ℕ). n + 1) (sym next) in
      let one : IsCovering after (with_unit f id.0 a) (id.0 + 1) = covers-unit by_now after f id.0 a (subst (IsCovering by_now f) (sym next) covers) appends in
      let look : with_unit f id.0 a ≡ look_up (held_clause h.arena) h.arena.given (at_places assumptions (take (i + 1) places)) = ap (λ (n : ℕ). with_unit f n a) id-is ∙ sym (look_up-push (held_clause h.arena) h.arena.given before-it a) ∙ ap (look_up (held_clause h.arena) h.arena.given) (sym with-it) in
      subst (IsCovering after (look_up (held_clause h.arena) h.arena.given (at_places assumptions (take (i + 1) places)))) (sym given) (subst (λ (g : ℕ → Option Clause). IsCovering after g (id.0 + 1)) look one)

-- a clause of negated assumptions was refuted
module _ (assumptions : Assumptions) (h mid new : HeldView) (root : ℕ) (c : Clause) (places : List ℕ) (first : ℕ) (rest steps : List Step) (before by_then after : Option Told) (ok : IsConsistent h) (negated : AreNegated assumptions c (length assumptions) places) (so_far : mid ≡ with_ids h (length places)) (next : root ≡ mid.arena.given) (numbered : new ≡ record mid { arena = with_id mid.arena }) where
  root-is : root ≡ h.arena.given + length places
  root-is = next ∙ ap (λ (m : HeldView). m.arena.given) so_far

  pub failure-is : (chain : ChainOk (look_up (held_clause h.arena) h.arena.given (at_places assumptions places)) [] first (chain_of steps)) → by_then ≡ option_map (with_units_told h.arena.given (at_places assumptions places)) before → Appends by_then after (derived_step root [] first steps) → IsFailure assumptions h new root places before after
  failure-is chain units appends = record {
    first_places = negated-first assumptions c (length assumptions) places negated;
    numbered = numbered-ids h mid new (length places) so_far numbered;
    next = root-is;
    first = first;
    rest = steps;
    chain = chain;
    told = told-root h.arena.given root (at_places assumptions places) first steps before by_then after units appends;
  }

  pub failure-chain : ChainOk (held_clause h.arena) c first (chain_of rest) → All (λ m. IsAssumed assumptions (negation m)) c → steps ≡ rest ++ unit_chain h.arena.given (at_places assumptions places) → ChainOk (look_up (held_clause h.arena) h.arena.given (at_places assumptions places)) [] first (chain_of steps)
  failure-chain chain assumed steps_is = subst (λ (xs : List Step). ChainOk (look_up (held_clause h.arena) h.arena.given (at_places assumptions places)) [] first (chain_of xs)) (sym steps_is) (core-refuted (held_clause h.arena) h.arena.given assumptions c places first rest (λ id d is. held-below h.arena id d ok.arena is) chain negated (λ m has. All-contains (λ l. IsAssumed assumptions (negation l)) c m assumed has))

  pub failure-covers : ChainOk (look_up (held_clause h.arena) h.arena.given (at_places assumptions places)) [] first (chain_of steps) → IsCovering by_then (look_up (held_clause h.arena) h.arena.given (at_places assumptions places)) mid.arena.given → Appends by_then after (derived_step root [] first steps) → IsCovering after (held_clause new.arena) new.arena.given
  failure-covers chain covers appends =
      let one : IsCovering after (held_clause h.arena) (mid.arena.given + 1) = covers-root h (at_places assumptions places) root mid.arena.given (length places) first steps by_then after ok (ap (λ (m : HeldView). m.arena.given) so_far) next covers appends chain in
      subst (λ (m : HeldView). IsCovering after (held_clause m.arena) m.arena.given) (sym (numbered-ids h mid new (length places) so_far numbered)) (subst (IsCovering after (held_clause h.arena)) (ap (λ (m : HeldView). m.arena.given + 1) so_far ∙ (let sum : h.arena.given + length places + 1 ≡ h.arena.given + (length places + 1) = omega arith in sum)) one)

pub negated-within : (assumptions : Assumptions) (c : Clause) (places : List ℕ) → AreNegated assumptions c (length assumptions) places → All (λ p. p < length assumptions) places
negated-within assumptions c places n k d within = (n.each (get_or places k d) (Contains-get_or places k d within)).0

-- the literals of a core negate assumptions
pub core-assumed : (h : HeldView) (assumptions : Assumptions) (l : Literal) (core : Learnt) → IsCoreClause h l core → IsAssumed assumptions l → AreAllAssumed assumptions h.trail → All (λ m. IsAssumed assumptions (negation m)) core.lits
core-assumed h assumptions l core is assumed all =
    subst (All (λ (m : Literal). IsAssumed assumptions (negation m))) (sym is.parts)
    (All-cons (λ m. IsAssumed assumptions (negation m)) (negation l) is.rest (subst (IsAssumed assumptions) (sym (negation_twice l)) assumed)
    (All-weaker (λ m. IsDecision h.trail (negation m) × (level_at h.trail m ≤ level_at h.trail l)) (λ m. IsAssumed assumptions (negation m)) (λ m both. decision-assumed assumptions h.trail (negation m) all both.0) is.rest is.decisions))

-- what a failure leaves
pub failure-ready : (assumptions : Assumptions) (mid new : HeldView) (o : OrderView) (r : Result Failure AllocError) (before after : Option Told) → IsReady mid o → IfOk r (λ f. IsFailure assumptions mid new f.root.0 f.places before after) → OnOk r (IsReady new o)
failure-ready assumptions mid new o (Ok f) before after ready is = subst (λ (h : HeldView). IsReady h o) (sym is.numbered) (record { known = ready.known; given_back = ready.given_back })
failure-ready assumptions mid new o (Err e) before after ready is = tt
