-- Clauses under a trail stay sound when the unit clause of a true literal becomes its reason.
use Rattle.std.proofs.Common.{◌≡◌, inl, inr, ℕ, ◌<◌, Bool, true, false, cond, eqb, [], ◌∷◌, length, get_or, take, Contains, Some, refl, sym, ap, subst, ◌∙◌, arith, eqb-true}
use Rattle.std.proofs.lemmas.List.{take-map}
use Rattle.craig_spec.specs.Literal.{Literal, Clause}
use Rattle.craig_spec.proofs.MemberLemmas.{Contains-front, Contains-one}
use Rattle.craig_base.specs.declared.clause_id.ClauseId.{ClauseId}
use Rattle.craig_base.specs.Arena.{ArenaView}
use Rattle.craig_watch.specs.declared.trail_entry.TrailEntry.{TrailEntry}
use Rattle.craig_watch.specs.declared.value.Value.TheVariants.{True}
use Rattle.craig_watch.specs.declared.watched.Watched.{Watched}
use Rattle.craig_watch.specs.Trail.{Trail, AreDistinct, decisions, entry_of, level_at, rested, value_under, with_reason}
use Rattle.craig_watch.specs.Held.{EachIsJustified, Forces, IsJustified, held_clause}
use Rattle.craig_watch.specs.Watches.{AreSettled, HasTrueUpTo}
use Rattle.craig_watch.specs.WatchedState.{IsSound}
use Rattle.craig_watch.proofs.PlacesLemmas.{entry-true}
use Rattle.craig_watch.proofs.TrailLemmas.{entry_of-at}
use Rattle.craig_watch.proofs.ReasonLemmas.{AreDistinct-rested, AreLevels-rested, decisions-rested, each-rested, length-rested, level_at-rested, rested-at, value_under-rested}

-- the entry of a true literal has the literal itself
literal-at : (t : Trail) (k : ℕ) (d : TrailEntry) (l : Literal) → AreDistinct t → k < length t → value_under t l ≡ True → (get_or t k d).literal.var ≡ l.var → (get_or t k d).literal ≡ l
literal-at t k d l apart within is var =
    let e = entry-true t l is in
    let both : Some (get_or t k d) ≡ Some e.0 = sym (entry_of-at t k d apart within) ∙ ap (entry_of t) var ∙ e.1 in
    let same : get_or t k d ≡ e.0 = cc in
    ap (λ (f : TrailEntry). f.literal) same ∙ e.2

justified-cases : (b : Bool) (a : ArenaView) (t u : Trail) (l : Literal) (id : ClauseId) (e : TrailEntry) → eqb e.literal.var l.var ≡ b → (e.literal.var ≡ l.var → e.literal ≡ l) → held_clause a id.0 ≡ Some (l ∷ []) → ((m : Literal) → value_under u m ≡ value_under t m) → IsJustified a t e → (r : ClauseId) → cond b (Some id) e.reason ≡ Some r → (c : Clause) × (held_clause a r.0 ≡ Some c) × Forces u c e.literal
justified-cases true a t u l id e is same held values was r now =
    let this : id ≡ r = cc in
    let itself : e.literal ≡ l = same (eqb-true e.literal.var l.var is) in (
      l ∷ [],
      subst (λ (x : ClauseId). held_clause a x.0 ≡ Some (l ∷ [])) this held,
      record {
        has = subst (Contains (l ∷ [])) (sym itself) (Contains-front l []);
        others = λ m has other. absurd (other (sym (Contains-one l m has) ∙ sym itself));
      },
    )
justified-cases false a t u l id e is same held values was r now =
    let j = was r now in
    (j.0, j.1, record { has = j.2.has; others = λ m has other. values m ∙ j.2.others m has other })

justified-rested : (a : ArenaView) (t : Trail) (l : Literal) (id : ClauseId) → AreDistinct t → value_under t l ≡ True → held_clause a id.0 ≡ Some (l ∷ []) → EachIsJustified a t → EachIsJustified a (with_reason l.var id t)
justified-rested a t l id apart is held each k d within =
    let long = length-rested l.var id t in
    let low : k < length t = omega (arith, within, long) in
    let e : TrailEntry = get_or t k d in
    let front : take k (with_reason l.var id t) ≡ with_reason l.var id (take k t) = take-map (rested l.var id) k t in
    let values : (m : Literal) → value_under (take k (with_reason l.var id t)) m ≡ value_under (take k t) m = λ m. ap (λ (u : Trail). value_under u m) front ∙ value_under-rested l.var id (take k t) m in
    subst (IsJustified a (take k (with_reason l.var id t))) (sym (rested-at l.var id t k d within))
    (justified-cases (eqb e.literal.var l.var) a (take k t) (take k (with_reason l.var id t)) l id e refl (literal-at t k d l apart low is) held values (each k d low))

true-rested : (t : Trail) (v : ℕ) (id : ClauseId) (c : Clause) (n m : ℕ) → n ≡ m → HasTrueUpTo t c m → HasTrueUpTo (with_reason v id t) c n
true-rested t v id c n m same h = record {
  true_one = h.true_one;
  has = h.has;
  is_true = value_under-rested v id t h.true_one ∙ h.is_true;
  low = (let low = h.low in let level = level_at-rested v id t h.true_one in omega (arith, low, level, same));
}

settled-rested : (a : ArenaView) (t : Trail) (v : ℕ) (id : ClauseId) (looked walked : ℕ) → decisions t ≡ 0 → AreSettled a t looked walked → AreSettled a (with_reason v id t) looked walked
settled-rested a t v id looked walked none h =
    let long = length-rested v id t in
    let few = decisions-rested v id t in
    record {
      given = h.given;
      within = (let w = h.within in omega arith);
      present = λ k d behind within.
          let was : (get_or t k d).level ≡ decisions t = h.present k d behind (omega (arith, within, long)) in
          ap (λ (e : TrailEntry). e.level) (rested-at v id t k d within) ∙ was ∙ (let same : decisions t ≡ decisions (with_reason v id t) = omega arith in same);
      walked_pending_or_waiting = λ k c l held watch falsified. elim (h.walked_pending_or_waiting k c l held watch (sym (value_under-rested v id t l) ∙ falsified)) [
        | inl reached ↦ inl (true-rested t v id c (level_at (with_reason v id t) l) (level_at t l) (level_at-rested v id t l) reached)
        | inr rest ↦ elim rest [
          | inl pending ↦ inr (inl (record {
            place = pending.place;
            behind = pending.behind;
            within = (let w = pending.within in omega arith);
            negates = λ d. (let w = pending.within in ap (λ (e : TrailEntry). e.literal) (rested-at v id t pending.place d (omega arith)) ∙ pending.negates d);
          }))
          | inr waits ↦ inr (inr waits)
        ]
      ];
      short = λ k c held few_literals. elim (h.short k c held few_literals) [ inl reached ↦ inl (true-rested t v id c 0 0 refl reached) | inr waits ↦ inr waits ];
    }

pub rested-sound : (s : Watched) (l : Literal) (id : ClauseId) → IsSound s → decisions s.assigned.trail ≡ 0 → value_under s.assigned.trail l ≡ True → held_clause s.arena id.0 ≡ Some (l ∷ []) → IsSound (record s { assigned = record { vars = s.assigned.vars; trail = with_reason l.var id s.assigned.trail } })
rested-sound s l id ok none is held =
    let t : Trail = s.assigned.trail in
    let few = decisions-rested l.var id t in
    record {
      consistent = record {
        few = ok.consistent.few;
        arena = ok.consistent.arena;
        clauses = ok.consistent.clauses;
        known = each-rested (λ w. w < s.assigned.vars) l.var id t ok.consistent.known;
        distinct = AreDistinct-rested l.var id t ok.consistent.distinct;
        levels = AreLevels-rested l.var id t none ok.consistent.levels;
        level = refl;
        justified = justified-rested s.arena t l id ok.consistent.distinct is held ok.consistent.justified;
        complete = λ m low. absurd (omega (arith, low, few, none));
      };
      watched = record {
        listed = ok.watched.listed;
        settled = settled-rested s.arena t l.var id s.looked s.walked none ok.watched.settled;
      };
    }
