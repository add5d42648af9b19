-- The walk back along the trail: a place is taken out and resolved on.
use Rattle.std.proofs.Common.{◌≡◌, ◌≢◌, inl, inr, ℕ, ◌+◌, ◌<◌, ◌≤◌, Bool, true, false, cond, eqb, eq-eqb, List, [], ◌∷◌, ◌++◌, length, get_or, take, All, Contains, Option, Some, None, IsSome, refl, sym, ap, subst, ◌∙◌, arith}
use Rattle.std.specs.Option.{option_map}
use Rattle.std.specs.List.Sorted.{IsPermutation}
use Rattle.std.proofs.lemmas.List.Elements.{All-head, All-tail, All-contains, Contains-append_cases, Contains-get_or}
use Rattle.std.proofs.lemmas.List.{get_or_default}
use Rattle.std.proofs.lemmas.List.Sorted.{All-permutation, Contains-permutation, IsPermutation-sym}
use Rattle.craig_spec.specs.Literal.{Literal, Clause, negation}
use Rattle.craig_spec.specs.Chain.{ChainStep, SameLiterals}
use Rattle.craig_base.specs.Counting.{count_of, NoneMoreThan}
use Rattle.craig_base.specs.declared.clause_id.ClauseId.{ClauseId}
use Rattle.craig_base.specs.Arena.{literals_at}
use Rattle.craig_proof.specs.declared.step.Step.{Step}
use Rattle.craig_proof.specs.Tracer.{chain_of}
use Rattle.craig_spec.proofs.MemberLemmas.{Contains-cases, Contains-front, Contains-later}
use Rattle.craig_spec.proofs.LiteralLemmas.{same_or_not}
use Rattle.craig_watch.specs.Trail.{Trail, any_entry, entry_of, IsFalse, IsAssigned, AreDistinct}
use Rattle.craig_watch.specs.Held.{HeldView, held_clause, Forces, IsConsistent}
use Rattle.craig_watch.proofs.PlacesLemmas.{IsFalse-take}
use Rattle.craig_analyze.specs.declared.staying.Staying.{Staying}
use Rattle.craig_analyze.specs.Resolvent.{ResolventView, at_place, negated_at, resolvent_of, IsResolvedOn, IsUnresolved, MayBeMet, HasMet, Meets, IsGreatestTaken, IsResolvable, HasResolved}
use Rattle.craig_analyze.proofs.PlaceLemmas.{false-not_both, false-within, within-false, false-assigned, place-assigned, place-false, same_negated, entry_of-place}
use Rattle.craig_analyze.proofs.LevelLemmas.{reason_of-cases}
use Rattle.craig_analyze.proofs.CountLemmas.{count_of-permutation, Contains-counted}
use Rattle.craig_base.proofs.CountingLemmas.{count_of-cons}
use Rattle.craig_analyze.proofs.ChainLemmas.{resolves-with_reason, IsChain-push}
use Rattle.craig_analyze.proofs.ResolventLemmas.{has-pending, has-lower, has-cases, resolvent-false}
use Rattle.craig_analyze.proofs.HeldClauseLemmas.{held-live}

-- what is so when the greatest pending place was taken out
pub record Taken (k : Staying) (h : HeldView) (place : ℕ) (old new : ResolventView) : Type 0 where
  pub there : Contains old.pending place
  pub within : place < length h.trail
  pub end : IsResolvedOn k h (at_place h.trail place)
  pub marked : Contains new.marked (at_place h.trail place).literal.var
  pub gone : ¬ Contains new.lower (negated_at h.trail place)
  pub unresolved : IsUnresolved k h place new
  pub same : SameLiterals (resolvent_of h.trail old) (negated_at h.trail place ∷ resolvent_of h.trail new)

once-twice : (n : ℕ) (xs ys : List ℕ) → NoneMoreThan 1 xs → IsPermutation xs (n ∷ ys) → ¬ Contains ys n
once-twice n xs ys once moved has =
    let same : count_of n (n ∷ ys) ≡ count_of n xs = count_of-permutation n xs (n ∷ ys) moved in
    let sum : count_of n (n ∷ ys) ≡ cond (eqb n n) 1 0 + count_of n ys = count_of-cons n n ys in
    let one : cond {A = ℕ} (eqb n n) 1 0 ≡ 1 = ap (λ (b : Bool). cond {A = ℕ} b 1 0) (eq-eqb n n refl) in
    let more : 1 ≤ count_of n ys = Contains-counted n ys has in
    let le : count_of n xs ≤ 1 = once n in
    omega arith

once-rest : (n : ℕ) (xs ys : List ℕ) → NoneMoreThan 1 xs → IsPermutation xs (n ∷ ys) → NoneMoreThan 1 ys
once-rest n xs ys once moved x =
    let same : count_of x (n ∷ ys) ≡ count_of x xs = count_of-permutation x xs (n ∷ ys) moved in
    let sum : count_of x (n ∷ ys) ≡ cond (eqb x n) 1 0 + count_of x ys = count_of-cons x n ys in
    let le : count_of x xs ≤ 1 = once x in
    omega arith

below-greatest : (n : ℕ) (xs ys : List ℕ) → NoneMoreThan 1 xs → IsPermutation xs (n ∷ ys) → All (λ p. p ≤ n) ys → All (λ p. p < n) ys
below-greatest n xs ys once moved greatest k d w =
    let le : get_or ys k d ≤ n = greatest k d w in
    let differ : get_or ys k d ≢ n = λ e. once-twice n xs ys once moved (k, w, get_or_default ys k n d w ∙ e) in
    omega arith

same-taken : (t : Trail) (place : ℕ) (old new : ResolventView) → IsPermutation old.pending (place ∷ new.pending) → new.lower ≡ old.lower → SameLiterals (resolvent_of t old) (negated_at t place ∷ resolvent_of t new)
same-taken t place old new moved lower l = (
  λ here. elim (has-cases t old l here) [
    | inl there ↦ elim (Contains-cases place new.pending there.0 (Contains-permutation old.pending (place ∷ new.pending) there.0 moved there.1)) [
      | inl e ↦ subst (Contains (negated_at t place ∷ resolvent_of t new)) (ap (negated_at t) e ∙ there.2) (Contains-front (negated_at t place) (resolvent_of t new))
      | inr rest ↦ Contains-later (negated_at t place) (resolvent_of t new) l (subst (Contains (resolvent_of t new)) there.2 (has-pending t new there.0 rest))
    ]
    | inr in_lower ↦ Contains-later (negated_at t place) (resolvent_of t new) l (has-lower t new l (subst (λ (c : Clause). Contains c l) (sym lower) in_lower))
  ],
  λ here. elim (Contains-cases (negated_at t place) (resolvent_of t new) l here) [
    | inl e ↦ subst (Contains (resolvent_of t old)) e (has-pending t old place (Contains-permutation (place ∷ new.pending) old.pending place (IsPermutation-sym old.pending (place ∷ new.pending) moved) (Contains-front place new.pending)))
    | inr rest ↦ elim (has-cases t new l rest) [
      | inl there ↦ subst (Contains (resolvent_of t old)) there.2 (has-pending t old there.0 (Contains-permutation (place ∷ new.pending) old.pending there.0 (IsPermutation-sym old.pending (place ∷ new.pending) moved) (Contains-later place new.pending there.0 there.1)))
      | inr in_lower ↦ has-lower t old l (subst (λ (c : Clause). Contains c l) lower in_lower)
    ]
  ],
)

-- the variable at a place isn't assigned before it
lower-place : (t : Trail) (place b : ℕ) (l : Literal) → AreDistinct t → place < b → place < length t → IsFalse (take place t) l → IsFalse (take b t) l × (negated_at t place ≢ l)
lower-place t place b l apart low within falsified =
    let at = false-within place t l falsified in
    let k : ℕ = at.0 in
    let before : k < place = at.1 in
    let inside : k < length t = at.2 in
    (subst (IsFalse (take b t)) at.3 (within-false b t k apart (omega arith) inside), λ e. (let same : place ≡ k = same_negated t place k apart within inside (e ∙ sym at.3) in omega arith))

Taken-same : (k : Staying) (h : HeldView) (b place : ℕ) (s : ResolventView) (pending : List ℕ) → IsConsistent h → IsUnresolved k h b s → IsPermutation s.pending (place ∷ pending) → All (λ p. p ≤ place) pending → Taken k h place s (record { marked = s.marked; pending = pending; lower = s.lower })
Taken-same k h b place s pending ok u moved greatest =
    let t : Trail = h.trail in
    let new : ResolventView = record { marked = s.marked; pending = pending; lower = s.lower } in
    let low : place < b = All-head (λ p. p < b) place pending (All-permutation (λ p. p < b) s.pending (place ∷ pending) moved u.below) in
    let all_ends = All-permutation (λ p. IsResolvedOn k h (at_place t p)) s.pending (place ∷ pending) moved u.ends in
    let all_marked = All-permutation (λ p. Contains s.marked (at_place t p).literal.var) s.pending (place ∷ pending) moved u.pending_marked in
    let within : place < length t = let w = u.within in omega arith in
    let same : SameLiterals (resolvent_of t s) (negated_at t place ∷ resolvent_of t new) = same-taken t place s new moved refl in
    record {
      there = Contains-permutation (place ∷ pending) s.pending place (IsPermutation-sym s.pending (place ∷ pending) moved) (Contains-front place pending);
      within = within;
      end = All-head (λ p. IsResolvedOn k h (at_place t p)) place pending all_ends;
      marked = All-head (λ p. Contains s.marked (at_place t p).literal.var) place pending all_marked;
      gone = λ stay. u.apart place (negated_at t place) (Contains-permutation (place ∷ pending) s.pending place (IsPermutation-sym s.pending (place ∷ pending) moved) (Contains-front place pending)) stay refl;
      unresolved = record {
        within = omega arith;
        below = below-greatest place s.pending pending u.once moved greatest;
        once = once-rest place s.pending pending u.once moved;
        ends = All-tail (λ p. IsResolvedOn k h (at_place t p)) place pending all_ends;
        pending_marked = All-tail (λ p. Contains s.marked (at_place t p).literal.var) place pending all_marked;
        lower_false = u.lower_false;
        lower_inner = u.lower_inner;
        lower_apart = u.lower_apart;
        lower_marked = u.lower_marked;
        apart = λ p l here. u.apart p l (Contains-permutation (place ∷ pending) s.pending p (IsPermutation-sym s.pending (place ∷ pending) moved) (Contains-later place pending p here));
        met = λ l falsified has.
            let lower = lower-place t place b l ok.distinct low within falsified in
            elim (Contains-cases (negated_at t place) (resolvent_of t new) l ((same l).0 (u.met l lower.0 has))) [ inl e ↦ absurd (lower.1 e) | inr rest ↦ rest ];
      };
      same = same;
    }

pub IsGreatestTaken-taken : (k : Staying) (h : HeldView) (b place : ℕ) (old new : ResolventView) → IsConsistent h → IsUnresolved k h b old → IsGreatestTaken place old new → Taken k h place old new
IsGreatestTaken-taken k h b place old new ok u taken =
    let same : record { marked = old.marked; pending = new.pending; lower = old.lower } ≡ new = λ i. record { marked = sym taken.marked i; pending = new.pending; lower = sym taken.lower i } in
    subst (Taken k h place old) same (Taken-same k h b place old new.pending ok u taken.rest taken.greatest)

-- an entry with a reason
pub no-reason : {A : Type 0} (o : Option A) → o ≡ None → ¬ IsSome o
no-reason None is some = let no : false ≡ true = some in cc
no-reason (Some x) is some = let no : Some x ≡ None = is in cc

-- the pivot is not in the rest of the resolvent
pivot-gone : (k : Staying) (h : HeldView) (place : ℕ) (s : ResolventView) → IsConsistent h → IsResolvable k h place s → ¬ Contains (resolvent_of h.trail s) (negated_at h.trail place)
pivot-gone k h place s ok r has =
    let within : place < length h.trail = r.within in
    elim (has-cases h.trail s (negated_at h.trail place) has) [
      | inl there ↦
          let low : there.0 < place = All-contains (λ p. p < place) s.pending there.0 r.unresolved.below there.1 in
          let same : there.0 ≡ place = same_negated h.trail there.0 place ok.distinct (omega arith) within there.2 in
          omega arith
      | inr lower ↦ r.gone lower
    ]

-- the literals of a reason may be met
pub reason-may_be_met : {k : Staying} (h : HeldView) (place : ℕ) (s : ResolventView) (reason : Clause) → IsResolvable k h place s → Forces (take place h.trail) reason (at_place h.trail place).literal → All (MayBeMet h.trail place s) reason
reason-may_be_met h place s reason r forces k d w =
    let l : Literal = get_or reason k d in
    elim (same_or_not l (at_place h.trail place).literal) [
      | inl same ↦ inr (subst (λ (m : Literal). Contains s.marked m.var) (sym same) r.marked)
      | inr differ ↦ inl (forces.others l (Contains-get_or reason k d w) differ)
    ]

pub reason-assigned : (h : HeldView) (place : ℕ) (reason : Clause) → IsConsistent h → place < length h.trail → Forces (take place h.trail) reason (at_place h.trail place).literal → All (λ l. IsAssigned h.trail l.var) reason
reason-assigned h place reason ok within forces k d w =
    let l : Literal = get_or reason k d in
    elim (same_or_not l (at_place h.trail place).literal) [
      | inl same ↦ subst (λ (m : Literal). IsAssigned h.trail m.var) (sym same) (place-assigned h.trail place ok.distinct within)
      | inr differ ↦ false-assigned h.trail l (IsFalse-take place h.trail l (forces.others l (Contains-get_or reason k d w) differ))
    ]

-- the reason that is told of the variable at a place
pub reason-told : (h : HeldView) (place v : ℕ) (r : Option ClauseId) → IsConsistent h → place < length h.trail → v ≡ (at_place h.trail place).literal.var → option_map (λ e. e.reason) (entry_of h.trail v) ≡ Some r → r ≡ (at_place h.trail place).reason
reason-told h place v r ok within is told =
    reason_of-cases (entry_of h.trail v) r (λ e. e.reason) (at_place h.trail place) (ap (entry_of h.trail) is ∙ entry_of-place h.trail place ok.distinct within) told

abbrev pub Reason : HeldView → ℕ → ℕ → Type 0
Reason h place id = (c : Clause) × (held_clause h.arena id ≡ Some c) × Forces (take place h.trail) c (at_place h.trail place).literal

pub reason-held : (h : HeldView) (place : ℕ) (id : ClauseId) → IsConsistent h → place < length h.trail → (at_place h.trail place).reason ≡ Some id → Reason h place id.0
reason-held h place id ok within is = ok.justified place any_entry within id is

-- the negation of a false literal isn't false by a part of the trail
pub not-before : (t : Trail) (place : ℕ) (l : Literal) → AreDistinct t → IsFalse t l → ¬ IsFalse (take place t) (negation l)
not-before t place l apart falsified other = false-not_both t l apart falsified (IsFalse-take place t (negation l) other)

-- the resolvent with the reason
pub HasResolved-met : (k : Staying) (h : HeldView) (place : ℕ) (id : ℕ) (before : List ChainStep) (s new : ResolventView) → IsConsistent h → IsResolvable k h place s → Reason h place id → Meets k h (literals_at h.arena id) s new → HasResolved k h place before (before ++ record { pivot = negated_at h.trail place; antecedent = id } ∷ []) s new
HasResolved-met k h place id before s new ok r (reason, held, forces) meets =
    let t : Trail = h.trail in
    let literals : literals_at h.arena id ≡ reason = (held-live h.arena id reason held).1 in
    let of_reason : Meets k h reason s new = subst (λ (d : Clause). Meets k h d s new) literals meets in
    let met : HasMet k h place reason s new = of_reason place r.unresolved (reason-may_be_met h place s reason r forces) in
    record {
      unresolved = met.unresolved;
      longer = λ l here. (met.literals l).1 (inl here);
      earlier = λ l here. elim ((met.literals l).0 here) [ inl before ↦ inl before | inr came ↦ inr came.1 ];
      chain = λ start extra apart chain.
          let apart_from : (l : Literal) → Contains (extra ++ negated_at t place ∷ resolvent_of t s) l → ¬ IsFalse (take place t) (negation l) = λ l here. elim (Contains-append_cases extra (negated_at t place ∷ resolvent_of t s) l here) [
            | inl in_extra ↦ (All-contains (λ m. (¬ IsFalse (take place t) (negation m)) × (m ≢ negated_at t place)) extra l apart in_extra).0
            | inr behind ↦ elim (Contains-cases (negated_at t place) (resolvent_of t s) l behind) [ inl e ↦ not-before t place l ok.distinct (subst (IsFalse t) e (place-false t place ok.distinct r.within)) | inr rest ↦ not-before t place l ok.distinct (resolvent-false h place s l ok r.unresolved rest) ]
          ] in
          IsChain-push (held_clause h.arena) start before (record { pivot = negated_at t place; antecedent = id }) (extra ++ negated_at t place ∷ resolvent_of t s) reason (extra ++ resolvent_of t new) chain held
          (resolves-with_reason t place extra (resolvent_of t s) (resolvent_of t new) reason ok.distinct r.within forces apart_from (λ here. (All-contains (λ m. (¬ IsFalse (take place t) (negation m)) × (m ≢ negated_at t place)) extra (negated_at t place) apart here).1 refl) (pivot-gone k h place s ok r) met.literals);
    }

-- one step more
pub chain_of-push : (steps : List Step) (s : Step) → chain_of (steps ++ s ∷ []) ≡ chain_of steps ++ record { pivot = s.pivot; antecedent = s.antecedent.0 } ∷ []
chain_of-push [] s = refl
chain_of-push (r ∷ steps) s = ap (λ (rest : List ChainStep). record { pivot = r.pivot; antecedent = r.antecedent.0 } ∷ rest) (chain_of-push steps s)
