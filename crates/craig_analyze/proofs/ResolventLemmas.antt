-- The resolvent when literals come in and when a place is taken out.
use Rattle.std.proofs.Common.{◌≡◌, ◌≢◌, ◌⊎◌, ◌↔◌, inl, inr, ℕ, ◌+◌, ◌<◌, ◌≤◌, Bool, true, false, cond, eqb, List, [], ◌∷◌, ◌++◌, Some, length, take, map, All, Contains, refl, sym, ap, subst, ◌∙◌, arith, eqb-true}
use Rattle.std.specs.List.{slice_get}
use Rattle.std.specs.List.Sorted.{IsPermutation}
use Rattle.std.proofs.lemmas.List.Elements.{All-push, All-cons, All-head, All-weaker, All-contains, Contains-push, Contains-push_cases, Contains-append_left, Contains-append_right, Contains-append_cases}
use Rattle.std.proofs.lemmas.List.{get_or_append_left, length_push}
use Rattle.std.proofs.lemmas.Option.{slice_get-get_or}
use Rattle.std.proofs.lemmas.List.Quantifiers.{all_pairs_push}
use Rattle.std.proofs.lemmas.List.Sorted.{All-permutation, Contains-permutation, IsPermutation-sym}
use Rattle.craig_spec.specs.Literal.{Literal, Clause}
use Rattle.craig_base.specs.Counting.{count_of, NoneMoreThan}
use Rattle.craig_spec.proofs.MemberLemmas.{Contains-cases, Contains-from_image, Contains-front, Contains-image, Contains-later}
use Rattle.craig_watch.specs.Trail.{Trail, any_entry, entry_of, IsFalse, AreDistinct}
use Rattle.craig_watch.specs.Held.{HeldView, IsConsistent}
use Rattle.craig_watch.proofs.PlacesLemmas.{IsFalse-take}
use Rattle.craig_watch.specs.declared.trail_entry.TrailEntry.{TrailEntry}
use Rattle.craig_analyze.specs.declared.staying.Staying.{Staying}
use Rattle.craig_analyze.specs.Resolvent.{ResolventView, at_place, negated_at, resolvent_of, IsResolvedOn, Stays, IsUnresolved, MayBeMet, HasMet, Meets}
use Rattle.craig_analyze.proofs.PlaceLemmas.{false-within, place-false, same_place, place-one}
use Rattle.craig_analyze.proofs.CountLemmas.{count_of-permutation, count_of-none}
use Rattle.craig_base.proofs.CountingLemmas.{count_of-cons}

-- the literals of the resolvent
pub has-pending : (t : Trail) (s : ResolventView) (p : ℕ) → Contains s.pending p → Contains (resolvent_of t s) (negated_at t p)
has-pending t s p h = Contains-append_left (map (negated_at t) s.pending) s.lower (negated_at t p) (Contains-image (negated_at t) s.pending p h)

pub has-lower : (t : Trail) (s : ResolventView) (l : Literal) → Contains s.lower l → Contains (resolvent_of t s) l
has-lower t s l h = Contains-append_right (map (negated_at t) s.pending) s.lower l h

pub has-cases : (t : Trail) (s : ResolventView) (l : Literal) → Contains (resolvent_of t s) l → ((p : ℕ) × Contains s.pending p × (negated_at t p ≡ l)) ⊎ Contains s.lower l
has-cases t s l h =
    elim (Contains-append_cases (map (negated_at t) s.pending) s.lower l h) [
      | inl pending ↦ let there = Contains-from_image (negated_at t) s.pending l pending in inl (there.0, there.1, sym there.2)
      | inr lower ↦ inr lower
    ]

-- they are false
pub resolvent-false : {k : Staying} (h : HeldView) (b : ℕ) (s : ResolventView) (l : Literal) → IsConsistent h → IsUnresolved k h b s → Contains (resolvent_of h.trail s) l → IsFalse h.trail l
resolvent-false h b s l ok u has =
    elim (has-cases h.trail s l has) [
      | inl pending ↦
          let low : pending.0 < b = All-contains (λ p. p < b) s.pending pending.0 u.below pending.1 in
          let within = u.within in
          subst (IsFalse h.trail) pending.2 (place-false h.trail pending.0 ok.distinct (omega arith))
      | inr lower ↦ All-contains (IsFalse h.trail) s.lower l u.lower_false lower
    ]

-- two false literals of one variable are the same
same-false : (b : ℕ) (t : Trail) (l m : Literal) → AreDistinct t → IsFalse (take b t) l → IsFalse (take b t) m → l.var ≡ m.var → l ≡ m
same-false b t l m apart l_false m_false e =
    let at_l = false-within b t l l_false in
    let at_m = false-within b t m m_false in
    let vars : (at_place t at_l.0).literal.var ≡ (at_place t at_m.0).literal.var = ap (λ (n : Literal). n.var) at_l.3 ∙ (e ∙ sym (ap (λ (n : Literal). n.var) at_m.3)) in
    let same : at_l.0 ≡ at_m.0 = same_place t at_l.0 at_m.0 apart at_l.2 at_m.2 vars in
    sym at_l.3 ∙ ap (negated_at t) same ∙ at_m.3

-- a literal that was met before
pub HasMet-marked : (k : Staying) (h : HeldView) (b : ℕ) (s : ResolventView) (lit : Literal) (marked : List ℕ) → IsUnresolved k h b s → Contains s.marked lit.var → marked ≡ s.marked → HasMet k h b (lit ∷ []) s (record { marked = marked; pending = s.pending; lower = s.lower })
HasMet-marked k h b s lit marked u has is =
    let same : HasMet k h b (lit ∷ []) s s = record {
      unresolved = u;
      literals = λ l. (
        λ here. inl here,
        λ either. elim either [
          | inl here ↦ here
          | inr met ↦ elim (Contains-cases lit [] l met.0) [
            | inl e ↦ u.met l met.1 (subst (λ (m : Literal). Contains s.marked m.var) e has)
            | inr none ↦ absurd (let no : none.0 < 0 = none.1 in omega arith)
          ]
        ],
      );
      marked = λ v here. here;
    } in
    subst (λ (m : List ℕ). HasMet k h b (lit ∷ []) s (record { marked = m; pending = s.pending; lower = s.lower })) (sym is) same

-- a literal came in that was not met before
abbrev Adds : Trail → Literal → ResolventView → ResolventView → Type 0
Adds t lit old new = (l : Literal) → Contains (resolvent_of t new) l ↔ (Contains (resolvent_of t old) l ⊎ (lit ≡ l))

adds-met : {k : Staying} (h : HeldView) (b : ℕ) (lit : Literal) (old new : ResolventView) → IsConsistent h → IsUnresolved k h b old → IsFalse (take b h.trail) lit → new.marked ≡ old.marked ++ lit.var ∷ [] → Adds h.trail lit old new → (l : Literal) → IsFalse (take b h.trail) l → Contains new.marked l.var → Contains (resolvent_of h.trail new) l
adds-met h b lit old new ok u lit_false marked adds l l_false has =
    elim (Contains-push_cases old.marked lit.var l.var (subst (λ (m : List ℕ). Contains m l.var) marked has)) [
      | inl before ↦ (adds l).1 (inl (u.met l l_false before))
      | inr same ↦ (adds l).1 (inr (same-false b h.trail lit l ok.distinct lit_false l_false same))
    ]

adds-literals : (t : Trail) (b : ℕ) (lit : Literal) (old new : ResolventView) → IsFalse (take b t) lit → Adds t lit old new → (l : Literal) → Contains (resolvent_of t new) l ↔ (Contains (resolvent_of t old) l ⊎ (Contains (lit ∷ []) l × IsFalse (take b t) l))
adds-literals t b lit old new lit_false adds l = (
  λ here. elim ((adds l).0 here) [ inl before ↦ inl before | inr is ↦ inr (subst (Contains (lit ∷ [])) is (Contains-front lit []), subst (IsFalse (take b t)) is lit_false) ],
  λ either. (adds l).1 (elim either [
    | inl before ↦ inl before
    | inr met ↦ elim (Contains-cases lit [] l met.0) [ inl e ↦ inr e | inr none ↦ absurd (let no : none.0 < 0 = none.1 in omega arith) ]
  ]),
)

marked-more : (old new : List ℕ) (v n : ℕ) → new ≡ old ++ v ∷ [] → Contains old n → Contains new n
marked-more old new v n is has = subst (λ (m : List ℕ). Contains m n) (sym is) (Contains-append_left old (v ∷ []) n has)

marked-last : (old new : List ℕ) (v : ℕ) → new ≡ old ++ v ∷ [] → Contains new v
marked-last old new v is = subst (λ (m : List ℕ). Contains m v) (sym is) (Contains-push old v)

-- a literal of a level between stays
adds-lower : (t : Trail) (lit : Literal) (s : ResolventView) (marked : List ℕ) → Adds t lit s (record { marked = marked; pending = s.pending; lower = s.lower ++ lit ∷ [] })
adds-lower t lit s marked l =
    let new : ResolventView = record { marked = marked; pending = s.pending; lower = s.lower ++ lit ∷ [] } in (
      λ here. elim (has-cases t new l here) [
        | inl pending ↦ inl (subst (Contains (resolvent_of t s)) pending.2 (has-pending t s pending.0 pending.1))
        | inr lower ↦ elim (Contains-push_cases s.lower lit l lower) [ inl before ↦ inl (has-lower t s l before) | inr is ↦ inr is ]
      ],
      λ either. elim either [
        | inl before ↦ elim (has-cases t s l before) [
          | inl pending ↦ subst (Contains (resolvent_of t new)) pending.2 (has-pending t new pending.0 pending.1)
          | inr lower ↦ has-lower t new l (Contains-append_left s.lower (lit ∷ []) l lower)
        ]
        | inr is ↦ has-lower t new l (subst (Contains (s.lower ++ lit ∷ [])) is (Contains-push s.lower lit))
      ],
    )

pub HasMet-lower : (k : Staying) (h : HeldView) (b : ℕ) (s : ResolventView) (lit : Literal) (marked : List ℕ) → IsConsistent h → IsUnresolved k h b s → IsFalse (take b h.trail) lit → ¬ Contains s.marked lit.var → marked ≡ s.marked ++ lit.var ∷ [] → Stays k h lit → HasMet k h b (lit ∷ []) s (record { marked = marked; pending = s.pending; lower = s.lower ++ lit ∷ [] })
HasMet-lower k h b s lit marked ok u lit_false fresh is stays =
    let t : Trail = h.trail in
    let new : ResolventView = record { marked = marked; pending = s.pending; lower = s.lower ++ lit ∷ [] } in
    let adds : Adds t lit s new = adds-lower t lit s marked in
    record {
      unresolved = record {
        within = u.within;
        below = u.below;
        once = u.once;
        ends = u.ends;
        pending_marked = All-weaker (λ p. Contains s.marked (at_place t p).literal.var) (λ p. Contains marked (at_place t p).literal.var) (λ p. marked-more s.marked marked lit.var (at_place t p).literal.var is) s.pending u.pending_marked;
        lower_false = All-push (IsFalse t) s.lower lit u.lower_false (IsFalse-take b t lit lit_false);
        lower_inner = All-push (Stays k h) s.lower lit u.lower_inner stays;
        lower_apart = all_pairs_push (λ l m. l.var ≢ m.var) s.lower lit u.lower_apart (λ k d w e. fresh (subst (Contains s.marked) e (u.lower_marked k d w)));
        lower_marked = All-push (λ l. Contains marked l.var) s.lower lit (All-weaker (λ l. Contains s.marked l.var) (λ l. Contains marked l.var) (λ l. marked-more s.marked marked lit.var l.var is) s.lower u.lower_marked) (marked-last s.marked marked lit.var is);
        apart = λ p l here stay. elim (Contains-push_cases s.lower lit l stay) [
          | inl before ↦ u.apart p l here before
          | inr last ↦ λ e. fresh (subst (Contains s.marked) (ap (λ (m : Literal). m.var) (sym (last ∙ e))) (All-contains (λ q. Contains s.marked (at_place t q).literal.var) s.pending p u.pending_marked here))
        ];
        met = adds-met h b lit s new ok u lit_false is adds;
      };
      literals = adds-literals t b lit s new lit_false adds;
      marked = λ v. marked-more s.marked marked lit.var v is;
    }

-- a literal of level 0 or of the present level is pending
adds-pending : (t : Trail) (lit : Literal) (s : ResolventView) (marked pending : List ℕ) (p : ℕ) → negated_at t p ≡ lit → IsPermutation (p ∷ s.pending) pending → Adds t lit s (record { marked = marked; pending = pending; lower = s.lower })
adds-pending t lit s marked pending p is moved l =
    let new : ResolventView = record { marked = marked; pending = pending; lower = s.lower } in (
      λ here. elim (has-cases t new l here) [
        | inl there ↦ elim (Contains-cases p s.pending there.0 (Contains-permutation pending (p ∷ s.pending) there.0 (IsPermutation-sym (p ∷ s.pending) pending moved) there.1)) [
          | inl e ↦ inr (sym is ∙ ap (negated_at t) e ∙ there.2)
          | inr before ↦ inl (subst (Contains (resolvent_of t s)) there.2 (has-pending t s there.0 before))
        ]
        | inr lower ↦ inl (has-lower t s l lower)
      ],
      λ either. elim either [
        | inl before ↦ elim (has-cases t s l before) [
          | inl there ↦ subst (Contains (resolvent_of t new)) there.2 (has-pending t new there.0 (Contains-permutation (p ∷ s.pending) pending there.0 moved (Contains-later p s.pending there.0 there.1)))
          | inr lower ↦ has-lower t new l lower
        ]
        | inr e ↦ subst (Contains (resolvent_of t new)) (is ∙ e) (has-pending t new p (Contains-permutation (p ∷ s.pending) pending p moved (Contains-front p s.pending)))
      ],
    )

once-cases : (b : Bool) (x p : ℕ) (xs : List ℕ) → eqb x p ≡ b → NoneMoreThan 1 xs → count_of p xs ≡ 0 → cond b 1 0 + count_of x xs ≤ 1
once-cases true x p xs is once none = let e : x ≡ p = eqb-true x p is in let zero_x : count_of x xs ≡ 0 = ap (λ k. count_of k xs) e ∙ none in omega arith
once-cases false x p xs is once none = let le : count_of x xs ≤ 1 = once x in omega arith

-- a place that was not pending
pub once-pushed : (p : ℕ) (xs ys : List ℕ) → NoneMoreThan 1 xs → ¬ Contains xs p → IsPermutation (p ∷ xs) ys → NoneMoreThan 1 ys
once-pushed p xs ys once fresh moved x =
    let same : count_of x ys ≡ count_of x (p ∷ xs) = count_of-permutation x (p ∷ xs) ys moved in
    let sum : count_of x (p ∷ xs) ≡ cond (eqb x p) 1 0 + count_of x xs = count_of-cons x p xs in
    let le : cond (eqb x p) 1 0 + count_of x xs ≤ 1 = once-cases (eqb x p) x p xs refl once (count_of-none p xs fresh) in
    omega arith

pub HasMet-pending : (k : Staying) (h : HeldView) (b : ℕ) (s : ResolventView) (lit : Literal) (marked pending : List ℕ) (p : ℕ) → IsConsistent h → IsUnresolved k h b s → IsFalse (take b h.trail) lit → ¬ Contains s.marked lit.var → marked ≡ s.marked ++ lit.var ∷ [] → p < length h.trail → slice_get h.trail p ≡ entry_of h.trail lit.var → ((e : TrailEntry) → entry_of h.trail lit.var ≡ Some e → IsResolvedOn k h e) → IsPermutation (p ∷ s.pending) pending → HasMet k h b (lit ∷ []) s (record { marked = marked; pending = pending; lower = s.lower })
HasMet-pending k h b s lit marked pending p ok u lit_false fresh is p_within found end moved =
    let t : Trail = h.trail in
    let new : ResolventView = record { marked = marked; pending = pending; lower = s.lower } in
    let at = false-within b t lit lit_false in
    let here : p ≡ at.0 = place-one t lit at.0 p ok.distinct at.2 p_within at.3 found in
    let negated : negated_at t p ≡ lit = ap (negated_at t) here ∙ at.3 in
    let var : (at_place t p).literal.var ≡ lit.var = ap (λ (l : Literal). l.var) negated in
    let low : p < b = let w = at.1 in omega arith in
    let resolved : IsResolvedOn k h (at_place t p) = end (at_place t p) (sym found ∙ slice_get-get_or t p any_entry p_within) in
    let not_there : ¬ Contains s.pending p = λ there. fresh (subst (Contains s.marked) var (All-contains (λ q. Contains s.marked (at_place t q).literal.var) s.pending p u.pending_marked there)) in
    let adds : Adds t lit s new = adds-pending t lit s marked pending p negated moved in
    record {
      unresolved = record {
        within = u.within;
        below = All-permutation (λ q. q < b) (p ∷ s.pending) pending moved (All-cons (λ q. q < b) p s.pending low u.below);
        once = once-pushed p s.pending pending u.once not_there moved;
        ends = All-permutation (λ q. IsResolvedOn k h (at_place t q)) (p ∷ s.pending) pending moved (All-cons (λ q. IsResolvedOn k h (at_place t q)) p s.pending resolved u.ends);
        pending_marked = All-permutation (λ q. Contains marked (at_place t q).literal.var) (p ∷ s.pending) pending moved (All-cons (λ q. Contains marked (at_place t q).literal.var) p s.pending (subst (Contains marked) (sym var) (marked-last s.marked marked lit.var is)) (All-weaker (λ q. Contains s.marked (at_place t q).literal.var) (λ q. Contains marked (at_place t q).literal.var) (λ q. marked-more s.marked marked lit.var (at_place t q).literal.var is) s.pending u.pending_marked));
        lower_false = u.lower_false;
        lower_inner = u.lower_inner;
        lower_apart = u.lower_apart;
        lower_marked = All-weaker (λ l. Contains s.marked l.var) (λ l. Contains marked l.var) (λ l. marked-more s.marked marked lit.var l.var is) s.lower u.lower_marked;
        apart = λ q l here stay. elim (Contains-cases p s.pending q (Contains-permutation pending (p ∷ s.pending) q (IsPermutation-sym (p ∷ s.pending) pending moved) here)) [
          | inl same ↦ λ e. fresh (subst (Contains s.marked) (ap (λ (m : Literal). m.var) (e ∙ ap (negated_at t) (sym same) ∙ negated)) (All-contains (λ m. Contains s.marked m.var) s.lower l u.lower_marked stay))
          | inr before ↦ u.apart q l before stay
        ];
        met = adds-met h b lit s new ok u lit_false is adds;
      };
      literals = adds-literals t b lit s new lit_false adds;
      marked = λ v. marked-more s.marked marked lit.var v is;
    }

-- no literal came in, and one after others
pub Meets-none : {k : Staying} (h : HeldView) (s : ResolventView) → Meets k h [] s s
Meets-none h s b u may = record {
  unresolved = u;
  literals = λ l. (λ here. inl here, λ either. elim either [ inl here ↦ here | inr none ↦ absurd (let no : none.0.0 < 0 = none.0.1 in omega arith) ]);
  marked = λ v here. here;
}

may-still : {k : Staying} (h : HeldView) (b : ℕ) (c : Clause) (old new : ResolventView) (l : Literal) → HasMet k h b c old new → MayBeMet h.trail b old l → MayBeMet h.trail b new l
may-still h b c old new l met may = elim may [ inl falsified ↦ inl falsified | inr marked ↦ inr (met.marked l.var marked) ]

HasMet-twice : {k : Staying} (h : HeldView) (b : ℕ) (c : Clause) (lit : Literal) (old mid new : ResolventView) → HasMet k h b c old mid → HasMet k h b (lit ∷ []) mid new → HasMet k h b (c ++ lit ∷ []) old new
HasMet-twice h b c lit old mid new one two = record {
  unresolved = two.unresolved;
  literals = λ l. (
    λ here. elim ((two.literals l).0 here) [
      | inl in_mid ↦ elim ((one.literals l).0 in_mid) [ inl in_old ↦ inl in_old | inr in_c ↦ inr (Contains-append_left c (lit ∷ []) l in_c.0, in_c.1) ]
      | inr last ↦ inr (Contains-append_right c (lit ∷ []) l last.0, last.1)
    ],
    λ either. (two.literals l).1 (elim either [
      | inl in_old ↦ inl ((one.literals l).1 (inl in_old))
      | inr met ↦ elim (Contains-append_cases c (lit ∷ []) l met.0) [ inl in_c ↦ inl ((one.literals l).1 (inr (in_c, met.1))) | inr last ↦ inr (last, met.1) ]
    ]),
  );
  marked = λ v has. two.marked v (one.marked v has);
}

pub Meets-push : (k : Staying) (h : HeldView) (c : Clause) (lit : Literal) (old mid new : ResolventView) → Meets k h c old mid → Meets k h (lit ∷ []) mid new → Meets k h (c ++ lit ∷ []) old new
Meets-push k h c lit old mid new one two b u may =
    let first : All (MayBeMet h.trail b old) c = λ k d w. subst (MayBeMet h.trail b old) (get_or_append_left c (lit ∷ []) d k w) (may k d (omega (arith, length_push c lit))) in
    let last : MayBeMet h.trail b old lit = All-contains (MayBeMet h.trail b old) (c ++ lit ∷ []) lit may (Contains-push c lit) in
    let met : HasMet k h b c old mid = one b u first in
    HasMet-twice h b c lit old mid new met (two b met.unresolved (All-cons (MayBeMet h.trail b mid) lit [] (may-still h b c old mid lit met last) (λ k d w. absurd (omega arith))))

-- of a literal that is not marked the premise says that it is false
may-false : (h : HeldView) (b : ℕ) (s : ResolventView) (lit : Literal) → ¬ Contains s.marked lit.var → All (MayBeMet h.trail b s) (lit ∷ []) → IsFalse (take b h.trail) lit
may-false h b s lit fresh may =
    elim (All-head (MayBeMet h.trail b s) lit [] may) [ inl falsified ↦ falsified | inr marked ↦ absurd (fresh marked) ]

pub Meets-marked : (k : Staying) (h : HeldView) (s : ResolventView) (lit : Literal) (marked : List ℕ) → Contains s.marked lit.var × (marked ≡ s.marked) → Meets k h (lit ∷ []) s (record { marked = marked; pending = s.pending; lower = s.lower })
Meets-marked k h s lit marked (has, is) b u may = HasMet-marked k h b s lit marked u has is

pub Meets-lower : (k : Staying) (h : HeldView) (s : ResolventView) (lit : Literal) (marked : List ℕ) → IsConsistent h → (¬ Contains s.marked lit.var) × (marked ≡ s.marked ++ lit.var ∷ []) → (IsFalse h.trail lit → Stays k h lit) → Meets k h (lit ∷ []) s (record { marked = marked; pending = s.pending; lower = s.lower ++ lit ∷ [] })
Meets-lower k h s lit marked ok (fresh, is) stays b u may = HasMet-lower k h b s lit marked ok u (may-false h b s lit fresh may) fresh is (stays (IsFalse-take b h.trail lit (may-false h b s lit fresh may)))

pub Meets-pending : (k : Staying) (h : HeldView) (s : ResolventView) (lit : Literal) (marked pending : List ℕ) (p : ℕ) → IsConsistent h → (¬ Contains s.marked lit.var) × (marked ≡ s.marked ++ lit.var ∷ []) → p < length h.trail → slice_get h.trail p ≡ entry_of h.trail lit.var → ((e : TrailEntry) → entry_of h.trail lit.var ≡ Some e → IsResolvedOn k h e) → IsPermutation (p ∷ s.pending) pending → Meets k h (lit ∷ []) s (record { marked = marked; pending = pending; lower = s.lower })
Meets-pending k h s lit marked pending p ok (fresh, is) within found end moved b u may = HasMet-pending k h b s lit marked pending p ok u (may-false h b s lit fresh may) fresh is within found end moved
