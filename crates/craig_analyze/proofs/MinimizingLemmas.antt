-- Literals that follow from others are set aside and resolved on.
use Rattle.std.proofs.Common.{◌≡◌, ◌≢◌, ◌⊎◌, inl, inr, ℕ, ◌<◌, ◌≤◌, true, List, [], ◌∷◌, ◌++◌, length, get_or, take, All, Contains, Some, refl, sym, ap, subst, ◌∙◌, arith}
use Rattle.std.specs.List.{remove, slice_get}
use Rattle.std.specs.List.Sorted.{IsPermutation}
use Rattle.std.specs.Option.{is_some, option_map}
use Rattle.std.proofs.lemmas.Bool.{cases_lt}
use Rattle.std.proofs.lemmas.List.{get_or_default}
use Rattle.std.proofs.lemmas.List.Elements.{All-cons, All-contains, All-nil, All-weaker, Contains-get_or}
use Rattle.std.proofs.lemmas.List.Quantifiers.{all_pairs_remove}
use Rattle.std.proofs.lemmas.List.Sorted.{All-permutation, Contains-permutation, IsPermutation-sym}
use Rattle.std.proofs.lemmas.Option.{slice_get-get_or}
use Rattle.craig_spec.specs.Literal.{Literal, Clause, negation}
use Rattle.craig_spec.specs.Chain.{ChainStep, SameLiterals}
use Rattle.craig_spec.proofs.ClauseLemmas.{SameLiterals-refl, SameLiterals-trans}
use Rattle.craig_spec.proofs.MemberLemmas.{Contains-cases, Contains-front, Contains-later}
use Rattle.craig_proof.specs.NeededSteps.{bound_of}
use Rattle.craig_watch.specs.Trail.{Trail, any_entry, entry_of, IsAssigned, IsFalse, level_at}
use Rattle.craig_watch.specs.Held.{HeldView, IsConsistent, held_clause}
use Rattle.craig_analyze.specs.declared.staying.Staying.TheVariants.{InnerLevels, Irredundant}
use Rattle.craig_analyze.specs.Resolvent.{AreApart, HasForced, HasFound, HasMinimized, IsResolvedOn, IsSetAside, IsUnresolved, ResolventView, Stays, at_place, negated_at, resolvent_of}
use Rattle.craig_analyze.proofs.ChainLemmas.{IsChain-same}
use Rattle.craig_analyze.proofs.LearntLemmas.{found-false, found-level}
use Rattle.craig_analyze.proofs.LevelLemmas.{level-le, reason-first, reason_of-cases}
use Rattle.craig_analyze.proofs.LoopLemmas.{SameLiterals-behind}
use Rattle.craig_analyze.proofs.PlaceLemmas.{false-assigned, false-place, false-within, level_at-place, place-one}
use Rattle.craig_analyze.proofs.RedundancyLemmas.{All-remove, remove-kept, remove-member, removed-apart}
use Rattle.craig_analyze.proofs.ResolventLemmas.{has-cases, has-lower, has-pending, once-pushed}
use Rattle.craig_analyze.proofs.WalkLemmas.{not-before}

pub assigned-false : (t : Trail) (c : Clause) → All (IsFalse t) c → All (λ l. IsAssigned t l.var) c
assigned-false t c all = All-weaker (IsFalse t) (λ l. IsAssigned t l.var) (λ l. false-assigned t l) c all

-- nothing was set aside
pub IsSetAside-none : (h : HeldView) (s : ResolventView) → IsSetAside h s s
IsSetAside-none h s = record { unresolved = λ bound within level low u. u; same = SameLiterals-refl (resolvent_of h.trail s); fewer = λ l here. here }

-- one after the other
pub IsSetAside-both : (h : HeldView) (a b c : ResolventView) → IsSetAside h a b → IsSetAside h b c → IsSetAside h a c
IsSetAside-both h a b c one two = record {
  unresolved = λ bound within level low u.
      let still : All (λ l. level_at h.trail l < h.level) b.lower = λ k d w. All-contains (λ l. level_at h.trail l < h.level) a.lower (get_or b.lower k d) low (one.fewer (get_or b.lower k d) (Contains-get_or b.lower k d w)) in
      two.unresolved bound within level still (one.unresolved bound within level low u);
  same = SameLiterals-trans (resolvent_of h.trail a) (resolvent_of h.trail b) (resolvent_of h.trail c) one.same two.same;
  fewer = λ l here. one.fewer l (two.fewer l here);
}

pub still-false : (h : HeldView) (old new : ResolventView) → IsSetAside h old new → All (IsFalse h.trail) old.lower → All (IsFalse h.trail) new.lower
still-false h old new aside all k d w = All-contains (IsFalse h.trail) old.lower (get_or new.lower k d) all (aside.fewer (get_or new.lower k d) (Contains-get_or new.lower k d w))

-- one literal was set aside
module _ (h : HeldView) (s : ResolventView) (n p : ℕ) (lit : Literal) (pending : List ℕ) (ok : IsConsistent h) (falsified : All (IsFalse h.trail) s.lower) (inside : n < length s.lower) (read : lit ≡ get_or s.lower n lit) (within : p < length h.trail) (found : slice_get h.trail p ≡ entry_of h.trail lit.var) (moved : IsPermutation (p ∷ s.pending) pending) where
  aside : ResolventView
  aside = record { marked = s.marked; pending = pending; lower = remove s.lower n }

  in-lower : Contains s.lower lit
  in-lower = (n, inside, sym read)

  at-place : negated_at h.trail p ≡ lit
  at-place =
      let at = false-place h.trail lit (All-contains (IsFalse h.trail) s.lower lit falsified in-lower) in
      let same : p ≡ at.0 = place-one h.trail lit at.0 p ok.distinct at.1 within at.2 found in
      ap (negated_at h.trail) same ∙ at.2

  at-var : (at_place h.trail p).literal.var ≡ lit.var
  at-var = ap (λ (l : Literal). l.var) at-place

  back : (q : ℕ) → Contains pending q → (p ≡ q) ⊎ Contains s.pending q
  back q here = Contains-cases p s.pending q (Contains-permutation pending (p ∷ s.pending) q (IsPermutation-sym (p ∷ s.pending) pending moved) here)

  forth : (q : ℕ) → (p ≡ q) ⊎ Contains s.pending q → Contains pending q
  forth q either = Contains-permutation (p ∷ s.pending) pending q moved (elim either [ inl same ↦ subst (Contains (p ∷ s.pending)) same (Contains-front p s.pending) | inr before ↦ Contains-later p s.pending q before ])

  aside-same : SameLiterals (resolvent_of h.trail s) (resolvent_of h.trail (record { marked = s.marked; pending = pending; lower = remove s.lower n }))
  aside-same l =
      let new : ResolventView = record { marked = s.marked; pending = pending; lower = remove s.lower n } in (
        λ here. elim (has-cases h.trail s l here) [
          | inl there ↦ subst (Contains (resolvent_of h.trail new)) there.2 (has-pending h.trail new there.0 (forth there.0 (inr there.1)))
          | inr lower ↦ elim (remove-kept s.lower n l inside lower) [
            | inl is ↦ subst (Contains (resolvent_of h.trail new)) (at-place ∙ read ∙ get_or_default s.lower n lit l inside ∙ is) (has-pending h.trail new p (forth p (inl refl)))
            | inr kept ↦ has-lower h.trail new l kept
          ]
        ],
        λ here. elim (has-cases h.trail new l here) [
          | inl there ↦ elim (back there.0 there.1) [
            | inl same ↦ has-lower h.trail s l (subst (Contains s.lower) (sym at-place ∙ ap (negated_at h.trail) same ∙ there.2) in-lower)
            | inr before ↦ subst (Contains (resolvent_of h.trail s)) there.2 (has-pending h.trail s there.0 before)
          ]
          | inr lower ↦ has-lower h.trail s l (remove-member s.lower n l inside lower)
        ],
      )

  aside-below : (bound : ℕ) → bound < length h.trail → (at_place h.trail bound).level ≡ h.level → All (λ l. level_at h.trail l < h.level) s.lower → p < bound
  aside-below bound on level low =
      let less : level_at h.trail lit < h.level = All-contains (λ l. level_at h.trail l < h.level) s.lower lit low in-lower in
      let is : level_at h.trail lit ≡ (at_place h.trail p).level = ap (level_at h.trail) (sym at-place) ∙ level_at-place h.trail p ok.distinct within in
      elim (cases_lt p bound) [
        | inl below ↦ below
        | inr above ↦ absurd (let up : (at_place h.trail bound).level ≤ (at_place h.trail p).level = level-le h.trail bound p ok.levels above within in omega arith)
      ]

  pub IsSetAside-one : option_map (λ e. is_some e.reason) (entry_of h.trail lit.var) ≡ Some true → IsSetAside h s (record { marked = s.marked; pending = pending; lower = remove s.lower n })
  IsSetAside-one told = record {
    same = aside-same;
    fewer = λ l here. remove-member s.lower n l inside here;
    unresolved = λ bound on level low u. record {
      within = u.within;
      below = All-permutation (λ q. q < bound) (p ∷ s.pending) pending moved (All-cons (λ q. q < bound) p s.pending (aside-below bound on level low) u.below);
      once = once-pushed p s.pending pending u.once (λ there. u.apart p lit there in-lower (sym at-place)) moved;
      ends = All-permutation (λ q. IsResolvedOn Irredundant h (at_place h.trail q)) (p ∷ s.pending) pending moved (All-cons (λ q. IsResolvedOn Irredundant h (at_place h.trail q)) p s.pending (sym (reason_of-cases (entry_of h.trail lit.var) true (λ e. is_some e.reason) (at_place h.trail p) (sym found ∙ slice_get-get_or h.trail p any_entry within) told)) u.ends);
      pending_marked = All-permutation (λ q. Contains s.marked (at_place h.trail q).literal.var) (p ∷ s.pending) pending moved (All-cons (λ q. Contains s.marked (at_place h.trail q).literal.var) p s.pending (subst (Contains s.marked) (sym at-var) (All-contains (λ l. Contains s.marked l.var) s.lower lit u.lower_marked in-lower)) u.pending_marked);
      lower_false = All-remove (IsFalse h.trail) s.lower n inside u.lower_false;
      lower_inner = All-remove (Stays Irredundant h) s.lower n inside u.lower_inner;
      lower_apart = all_pairs_remove (λ a b. a.var ≢ b.var) s.lower n inside u.lower_apart;
      lower_marked = All-remove (λ l. Contains s.marked l.var) s.lower n inside u.lower_marked;
      apart = λ q l here stay. elim (back q here) [
        | inl same ↦ λ e. removed-apart s.lower n lit l inside u.lower_apart stay (ap (λ (m : Literal). m.var) (e ∙ ap (negated_at h.trail) (sym same) ∙ at-place ∙ read))
        | inr before ↦ u.apart q l before (remove-member s.lower n l inside stay)
      ];
      met = λ l false_below marked. (aside-same l).0 (u.met l false_below marked);
    };
  }

bound_of-has : (ns : List ℕ) (n : ℕ) → n < bound_of ns → (q : ℕ) × Contains ns q × (n ≤ q)
bound_of-has [] n low = absurd (omega (arith, low))
bound_of-has (m ∷ ns) n low = elim (cases_lt m n) [
  | inl above ↦ let q = bound_of-has ns n (omega (arith, low, above)) in (q.0, Contains-later m ns q.0 q.1, q.2)
  | inr below ↦ (m, Contains-front m ns, below)
]

-- the minimization of a clause whose asserting literal was found
module _ (h : HeldView) (first : Literal) (begin mid : List ChainStep) (s0 s1 : ResolventView) (ok : IsConsistent h) (above : 0 < h.level) (f : HasFound h first begin mid s0 s1) where
  pub irredundant-found : IsUnresolved Irredundant h f.place s1
  irredundant-found = record {
    within = f.unresolved.within;
    below = f.unresolved.below;
    once = f.unresolved.once;
    ends = λ k d w. (
        let p : ℕ = get_or s1.pending k d in
        let low : p < f.place = f.unresolved.below k d w in
        let on : f.place < length h.trail = f.within in
        reason-first h.trail p ok.levels (omega arith) (inl (f.root k d w)));
    pending_marked = f.unresolved.pending_marked;
    lower_false = f.unresolved.lower_false;
    lower_inner = λ k d w. (f.unresolved.lower_inner k d w).0;
    lower_apart = f.unresolved.lower_apart;
    lower_marked = f.unresolved.lower_marked;
    apart = f.unresolved.apart;
    met = f.unresolved.met;
  }

  pub found-lower : All (λ l. level_at h.trail l < h.level) s1.lower
  found-lower k d w = (f.unresolved.lower_inner k d w).1

  found-levels : (l : Literal) → Contains (resolvent_of h.trail s1) l → level_at h.trail l < h.level
  found-levels l here = elim (has-cases h.trail s1 l here) [
    | inl there ↦
        let p : ℕ = there.0 in
        let low : p < f.place = All-contains (λ q. q < f.place) s1.pending p f.unresolved.below there.1 in
        let on : f.place < length h.trail = f.within in
        let level : level_at h.trail (negated_at h.trail p) ≡ (at_place h.trail p).level = level_at-place h.trail p ok.distinct (omega arith) in
        let root : (at_place h.trail p).level ≡ 0 = All-contains (λ q. (at_place h.trail q).level ≡ 0) s1.pending p f.root there.1 in
        let same : level_at h.trail (negated_at h.trail p) ≡ level_at h.trail l = ap (level_at h.trail) there.2 in
        omega (arith, level, root, same, above)
    | inr lower ↦ All-contains (λ l. level_at h.trail l < h.level) s1.lower l found-lower lower
  ]

  module _ (end : List ChainStep) (s2 s3 : ResolventView) (aside : IsSetAside h s1 s2) where
    pub aside-unresolved : IsUnresolved Irredundant h f.place s2
    aside-unresolved = aside.unresolved f.place f.within f.level found-lower irredundant-found

    aside-levels : (l : Literal) → Contains (resolvent_of h.trail s2) l → level_at h.trail l < h.level
    aside-levels l here = found-levels l ((aside.same l).1 here)

    -- what stands below what is pending is of lower levels
    bound-levels : (p : ℕ) → p < bound_of s2.pending → (p < length h.trail) × ((at_place h.trail p).level < h.level)
    bound-levels p low =
        let q = bound_of-has s2.pending p low in
        let under : q.0 < f.place = All-contains (λ k. k < f.place) s2.pending q.0 aside-unresolved.below q.1 in
        let on : f.place < length h.trail = f.within in
        let le : p ≤ q.0 = q.2 in
        let inside : q.0 < length h.trail = omega arith in
        let less : level_at h.trail (negated_at h.trail q.0) < h.level = aside-levels (negated_at h.trail q.0) (has-pending h.trail s2 q.0 q.1) in
        let is : level_at h.trail (negated_at h.trail q.0) ≡ (at_place h.trail q.0).level = level_at-place h.trail q.0 ok.distinct inside in
        let up : (at_place h.trail p).level ≤ (at_place h.trail q.0).level = level-le h.trail p q.0 ok.levels le inside in
        (omega arith, omega arith)

    first-apart : (p : ℕ) → p < bound_of s2.pending → AreApart h p (first ∷ [])
    first-apart p low =
        let b = bound-levels p low in
        All-cons (λ l. (¬ IsFalse (take p h.trail) (negation l)) × (l ≢ negated_at h.trail p)) first [] (
          not-before h.trail p first ok.distinct (found-false h first begin mid s0 s1 ok f),
          λ e. (
              let present : level_at h.trail first ≡ h.level = found-level h first begin mid s0 s1 ok f in
              let is : level_at h.trail (negated_at h.trail p) ≡ (at_place h.trail p).level = level_at-place h.trail p ok.distinct b.0 in
              let same : level_at h.trail first ≡ level_at h.trail (negated_at h.trail p) = ap (level_at h.trail) e in
              let less : (at_place h.trail p).level < h.level = b.1 in
              omega arith),
        ) (All-nil (λ l. (¬ IsFalse (take p h.trail) (negation l)) × (l ≢ negated_at h.trail p)))

    module _ (r : HasForced Irredundant h mid end s2 s3) where
      minimized-levels : (l : Literal) → Contains s3.lower l → level_at h.trail l < h.level
      minimized-levels l here = elim (r.earlier l (has-lower h.trail s3 l here)) [
        | inl before ↦ aside-levels l before
        | inr came ↦
            let at = false-within (bound_of s2.pending) h.trail l came in
            let b = bound-levels at.0 at.1 in
            let is : level_at h.trail (negated_at h.trail at.0) ≡ (at_place h.trail at.0).level = level_at-place h.trail at.0 ok.distinct at.2 in
            let same : level_at h.trail (negated_at h.trail at.0) ≡ level_at h.trail l = ap (level_at h.trail) at.3 in
            let less : (at_place h.trail at.0).level < h.level = b.1 in
            omega arith
      ]

      pub HasMinimized-forced : HasMinimized h first mid end s1 s3
      HasMinimized-forced = record {
        bound = r.bound;
        none = r.none;
        unresolved = record {
          within = r.unresolved.within;
          below = r.unresolved.below;
          once = r.unresolved.once;
          ends = subst (λ (ps : List ℕ). All (λ p. IsResolvedOn InnerLevels h (at_place h.trail p)) ps) (sym r.none) (All-nil (λ p. IsResolvedOn InnerLevels h (at_place h.trail p)));
          pending_marked = r.unresolved.pending_marked;
          lower_false = r.unresolved.lower_false;
          lower_inner = λ k d w. (r.unresolved.lower_inner k d w, minimized-levels (get_or s3.lower k d) (Contains-get_or s3.lower k d w));
          lower_apart = r.unresolved.lower_apart;
          lower_marked = r.unresolved.lower_marked;
          apart = r.unresolved.apart;
          met = r.unresolved.met;
        };
        chain = λ start leads. r.chain start (first ∷ []) first-apart (IsChain-same (held_clause h.arena) start mid ((first ∷ []) ++ resolvent_of h.trail s1) ((first ∷ []) ++ resolvent_of h.trail s2) leads (SameLiterals-behind (first ∷ []) (resolvent_of h.trail s1) (resolvent_of h.trail s2) aside.same));
      }
