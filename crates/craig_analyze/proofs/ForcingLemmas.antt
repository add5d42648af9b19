-- The walk that resolves with reasons until decisions alone are left.
use Rattle.std.proofs.Common.{◌≡◌, inl, inr, ℕ, ◌<◌, ◌≤◌, Bool, true, false, List, [], ◌∷◌, ◌++◌, length, get_or, take, All, Contains, Option, Some, IsSome, refl, sym, ap, subst, ◌∙◌, arith}
use Rattle.std.specs.Option.{option_map}
use Rattle.std.proofs.lemmas.List.Elements.{All-contains, All-weaker, Contains-get_or}
use Rattle.craig_spec.specs.Literal.{Literal, Clause, negation}
use Rattle.craig_spec.specs.Chain.{ChainStep}
use Rattle.craig_spec.proofs.MemberLemmas.{Contains-cases, Contains-front, Contains-later}
use Rattle.craig_spec.proofs.LiteralLemmas.{negation_twice, same_or_not}
use Rattle.craig_base.specs.declared.clause_id.ClauseId.{ClauseId}
use Rattle.craig_base.specs.Arena.{IsLive, literals_at}
use Rattle.craig_watch.specs.Trail.{Trail, entry_of, IsAssigned, IsFalse, AreDistinct}
use Rattle.craig_watch.specs.Held.{HeldView, held_clause, IsConsistent}
use Rattle.craig_analyze.specs.declared.staying.Staying.{Staying}
use Rattle.craig_analyze.specs.declared.staying.Staying.TheVariants.{Decisions}
use Rattle.craig_analyze.specs.Marks.{IsMarked}
use Rattle.craig_proof.specs.NeededSteps.{bound_of}
use Rattle.craig_analyze.specs.Resolvent.{ResolventView, at_place, negated_at, resolvent_of, IsUnresolved, Meets, HasMet, IsGreatestTaken, IsResolvable, HasResolved, AreForced, HasBegunReason, HasForced, IsForcing}
use Rattle.craig_analyze.proofs.PlaceLemmas.{false-place, false-within, within-false, same_place, entry_of-place}
use Rattle.craig_analyze.proofs.LevelLemmas.{reason_of-cases}
use Rattle.craig_analyze.proofs.ChainLemmas.{IsChain-same}
use Rattle.craig_analyze.proofs.HeldClauseLemmas.{held-live, no_member}
use Rattle.craig_analyze.proofs.WalkLemmas.{IsGreatestTaken-taken, reason-held, reason-assigned, reason-may_be_met}
use Rattle.craig_proof.proofs.FindingLemmas.{bound_of-le, bound_of-above}
use Rattle.craig_analyze.proofs.LoopLemmas.{SameLiterals-behind}

-- one variable is marked, and no literal is there
abbrev pub only : ℕ → ResolventView
only v = record { marked = v ∷ []; pending = []; lower = [] }

pub marked-one : (b : Bool) (v : ℕ) (old new : List ℕ) → old ≡ [] → IsMarked v old new b → new ≡ v ∷ []
marked-one true v old new empty (fresh, is) = is ∙ ap (λ (xs : List ℕ). xs ++ v ∷ []) empty
marked-one false v old new empty (has, is) = absurd (no_member v (subst (λ (xs : List ℕ). Contains xs v) empty has))

-- a literal of the variable at a place is not false by what stands below it
not-within : (t : Trail) (place : ℕ) (l : Literal) → AreDistinct t → place < length t → l.var ≡ (at_place t place).literal.var → ¬ IsFalse (take place t) l
not-within t place l apart within var falsified =
    let at = false-within place t l falsified in
    let low : at.0 < place = at.1 in
    let same : at.0 ≡ place = same_place t at.0 place apart at.2 within (ap (λ (m : Literal). m.var) at.3 ∙ var) in
    omega arith

only-unresolved : (h : HeldView) (place v : ℕ) → IsConsistent h → place < length h.trail → v ≡ (at_place h.trail place).literal.var → IsUnresolved Decisions h place (only v)
only-unresolved h place v ok within is = record {
  within = omega arith;
  below = λ k d w. absurd (omega arith);
  once = λ x. omega arith;
  ends = λ k d w. absurd (omega arith);
  pending_marked = λ k d w. absurd (omega arith);
  lower_false = λ k d w. absurd (omega arith);
  lower_inner = λ k d w. absurd (omega arith);
  lower_apart = λ i j d before w. absurd (omega arith);
  lower_marked = λ k d w. absurd (omega arith);
  apart = λ p l here. absurd (no_member p here);
  met = λ l falsified marked. elim (Contains-cases v [] l.var marked) [
    | inl same ↦ absurd (not-within h.trail place l ok.distinct within (sym same ∙ is) falsified)
    | inr none ↦ absurd (no_member l.var none)
  ];
}

is-some : {A : Type 0} (o : Option A) (x : A) → Some x ≡ o → IsSome o
is-some {A = A} o x is = subst (λ (p : Option A). IsSome p) is refl

-- the reason of the negation of a false literal is held, and its variables are assigned
pub reason-live : (h : HeldView) (failed : Literal) (id : ClauseId) → IsConsistent h → IsFalse h.trail failed → option_map (λ e. e.reason) (entry_of h.trail failed.var) ≡ Some (Some id) → IsLive h.arena id.0 × All (λ l. IsAssigned h.trail l.var) (literals_at h.arena id.0)
reason-live h failed id ok falsified told =
    let t : Trail = h.trail in
    let at = false-place t failed falsified in
    let var : failed.var ≡ (at_place t at.0).literal.var = sym (ap (λ (l : Literal). l.var) at.2) in
    let has_reason : Some id ≡ (at_place t at.0).reason = reason_of-cases (entry_of t failed.var) (Some id) (λ e. e.reason) (at_place t at.0) (ap (entry_of t) var ∙ entry_of-place t at.0 ok.distinct at.1) told in
    let reason = reason-held h at.0 id ok at.1 (sym has_reason) in
    let live = held-live h.arena id.0 reason.0 reason.1 in
    (live.0, subst (All (λ l. IsAssigned t l.var)) (sym live.1) (reason-assigned h at.0 reason.0 ok at.1 reason.2))

-- the reason came in beside the literal that it forces
pub HasBegunReason-met : (h : HeldView) (failed : Literal) (id : ClauseId) (new : ResolventView) → IsConsistent h → IsFalse h.trail failed → option_map (λ e. e.reason) (entry_of h.trail failed.var) ≡ Some (Some id) → Meets Decisions h (literals_at h.arena id.0) (only failed.var) new → HasBegunReason h failed id.0 new
HasBegunReason-met h failed id new ok falsified told meets =
    let t : Trail = h.trail in
    let at = false-place t failed falsified in
    let place : ℕ = at.0 in
    let var : failed.var ≡ (at_place t place).literal.var = sym (ap (λ (l : Literal). l.var) at.2) in
    let has_reason : Some id ≡ (at_place t place).reason = reason_of-cases (entry_of t failed.var) (Some id) (λ e. e.reason) (at_place t place) (ap (entry_of t) var ∙ entry_of-place t place ok.distinct at.1) told in
    let forced : IsSome (at_place t place).reason = is-some (at_place t place).reason id has_reason in
    let reason = reason-held h place id ok at.1 (sym has_reason) in
    let literals : literals_at h.arena id.0 ≡ reason.0 = (held-live h.arena id.0 reason.0 reason.1).1 in
    let begun : IsUnresolved Decisions h place (only failed.var) = only-unresolved h place failed.var ok at.1 var in
    let resolvable : IsResolvable Decisions h place (only failed.var) = record {
      within = at.1;
      end = forced;
      marked = subst (Contains (failed.var ∷ [])) var (Contains-front failed.var []);
      gone = λ stay. no_member (negated_at t place) stay;
      forced = forced;
      unresolved = begun;
    } in
    let met : HasMet Decisions h place reason.0 (only failed.var) new = subst (λ (c : Clause). Meets Decisions h c (only failed.var) new) literals meets place begun (reason-may_be_met h place (only failed.var) reason.0 resolvable reason.2) in
    let negated : (at_place t place).literal ≡ negation failed = sym (negation_twice (at_place t place).literal) ∙ ap negation at.2 in
    record {
      reason = reason.0;
      held = reason.1;
      place = place;
      within = at.1;
      failed_is = sym at.2;
      forced = forced;
      unresolved = met.unresolved;
      same = λ l. (
        λ here. elim (same_or_not l (at_place t place).literal) [
          | inl same ↦ subst (Contains (negation failed ∷ resolvent_of t new)) (sym (same ∙ negated)) (Contains-front (negation failed) (resolvent_of t new))
          | inr differ ↦ Contains-later (negation failed) (resolvent_of t new) l ((met.literals l).1 (inr (here, reason.2.others l here differ)))
        ],
        λ here. elim (Contains-cases (negation failed) (resolvent_of t new) l here) [
          | inl is ↦ subst (Contains reason.0) (negated ∙ is) reason.2.has
          | inr rest ↦ elim ((met.literals l).0 rest) [ inl none ↦ absurd (no_member l none) | inr came ↦ came.0 ]
        ],
      );
      earlier = λ l here. elim ((met.literals l).0 here) [ inl none ↦ absurd (no_member l none) | inr came ↦ came.1 ];
    }

-- what is false below a place is false below a higher one
pub false-higher : (t : Trail) (low high : ℕ) (l : Literal) → AreDistinct t → low ≤ high → IsFalse (take low t) l → IsFalse (take high t) l
false-higher t low high l apart le falsified =
    let at = false-within low t l falsified in
    let below : at.0 < low = at.1 in
    subst (IsFalse (take high t)) at.3 (within-false high t at.0 apart (omega arith) at.2)

pub forcing-first : (k : Staying) (h : HeldView) (b : ℕ) (before : List ChainStep) (old : ResolventView) → IsUnresolved k h b old → IsForcing k h before before old old
forcing-first k h b before old u = record {
  bound = b;
  low = λ i d w. bound_of-above old.pending (get_or old.pending i d) (Contains-get_or old.pending i d w);
  unresolved = u;
  earlier = λ l here. inl here;
  chain = λ start extra apart leads. leads;
}

pub forcing-resolvable : (k : Staying) (h : HeldView) (place : ℕ) (before after : List ChainStep) (old s mid : ResolventView) → IsConsistent h → AreForced k h → IsForcing k h before after old s → IsGreatestTaken place s mid → IsResolvable k h place mid
forcing-resolvable k h place before after old s mid ok all f is_taken =
    let taken = IsGreatestTaken-taken k h f.bound place s mid ok f.unresolved is_taken in
    record {
      within = taken.within;
      end = taken.end;
      marked = taken.marked;
      gone = taken.gone;
      forced = all (at_place h.trail place) taken.end;
      unresolved = taken.unresolved;
    }

pub forcing-next : (k : Staying) (h : HeldView) (place : ℕ) (before steps after : List ChainStep) (old s mid new : ResolventView) → IsConsistent h → IsForcing k h before steps old s → IsGreatestTaken place s mid → HasResolved k h place steps after mid new → IsForcing k h before after old new × (bound_of new.pending < bound_of s.pending)
forcing-next k h place before steps after old s mid new ok f is_taken resolved =
    let t : Trail = h.trail in
    let taken = IsGreatestTaken-taken k h f.bound place s mid ok f.unresolved is_taken in
    let low : place < bound_of old.pending = All-contains (λ p. p < bound_of old.pending) s.pending place f.low taken.there in
    let smaller : bound_of new.pending ≤ place = bound_of-le new.pending place resolved.unresolved.below in
    let bigger : place < bound_of s.pending = bound_of-above s.pending place taken.there in (
      record {
        bound = place;
        low = All-weaker (λ p. p < place) (λ p. p < bound_of old.pending) (λ p less. omega arith) new.pending resolved.unresolved.below;
        unresolved = resolved.unresolved;
        earlier = λ l here. elim (resolved.earlier l here) [
          | inl before_it ↦ f.earlier l ((taken.same l).1 (Contains-later (negated_at t place) (resolvent_of t mid) l before_it))
          | inr came ↦ inr (false-higher t place (bound_of old.pending) l ok.distinct (omega arith) came)
        ];
        chain = λ start extra apart leads.
            resolved.chain start extra (apart place low)
            (IsChain-same (held_clause h.arena) start steps (extra ++ resolvent_of t s) (extra ++ negated_at t place ∷ resolvent_of t mid) (f.chain start extra apart leads)
            (SameLiterals-behind extra (resolvent_of t s) (negated_at t place ∷ resolvent_of t mid) taken.same));
      },
      omega arith,
    )

pub forcing-ended : (k : Staying) (h : HeldView) (before after : List ChainStep) (old s : ResolventView) → IsForcing k h before after old s → s.pending ≡ [] → HasForced k h before after old s
forcing-ended k h before after old s f none = record { bound = f.bound; unresolved = f.unresolved; none = none; earlier = f.earlier; chain = f.chain }
