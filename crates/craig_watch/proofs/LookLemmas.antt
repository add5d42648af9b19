-- Looks at clauses that wait.
use Rattle.std.proofs.Common.{◌≡◌, ◌≢◌, ◌⊎◌, inl, inr, ℕ, ◌+◌, ◌<◌, ◌≤◌, [], ◌∷◌, ◌++◌, length, get_or, swap, Contains, Some, None, refl, sym, ap, subst, ◌∙◌, arith}
use Rattle.std.proofs.lemmas.Bool.Decides.{leb_tells}
use Rattle.std.proofs.lemmas.List.{get_or_default}
use Rattle.std.proofs.lemmas.List.Edits.{length-swap}
use Rattle.craig_spec.specs.Literal.{Literal, Clause}
use Rattle.craig_spec.proofs.LiteralLemmas.{same_or_not}
use Rattle.craig_base.specs.declared.clause_id.ClauseId.{ClauseId}
use Rattle.craig_base.specs.Arena.{IsLive, literals_at}
use Rattle.craig_base.proofs.LookUpLemmas.{literals_at-found}
use Rattle.craig_watch.specs.declared.trail_entry.TrailEntry.{TrailEntry}
use Rattle.craig_watch.specs.declared.value.Value.{Value}
use Rattle.craig_watch.specs.declared.value.Value.TheVariants.{True, False, Free}
use Rattle.craig_watch.specs.declared.watched.Watched.{Watched}
use Rattle.craig_watch.specs.Trail.{Trail, entry_of, value_under, IsFalse, level_at, part_up_to, decisions}
use Rattle.craig_watch.specs.Held.{HeldView, held_clause, IsSettled, IsConsistent, IsFalsified}
use Rattle.craig_watch.specs.Watches.{IsWatch, HasTrueUpTo}
use Rattle.craig_watch.specs.WatchedState.{Exchanges, HasLookedAt, IsForcedBy, IsRanked, IsSound, ids_of, rank_by, rank_of, shown, with_forced}
use Rattle.craig_watch.specs.Assigned.{AssignedView}
use Rattle.craig_watch.proofs.TrailLemmas.{levels-bounded, value_under-part}
use Rattle.craig_watch.proofs.PlacesLemmas.{entry-true, entry-false, place-found, true-entry}
use Rattle.craig_watch.proofs.LevelsLemmas.{level_at-entry, value_under-part_kept, value_under-part_above}
use Rattle.craig_watch.proofs.AssignedLemmas.{found-last}
use Rattle.craig_watch.proofs.HeldLemmas.{IsConsistent-forced, forced, level-bounded}
use Rattle.craig_watch.proofs.SwapLemmas.{exchanged, exchanged-cases, exchanged-within, swap-at}
use Rattle.craig_watch.proofs.SettledLemmas.{true≢free, false≢free, level_at-longer}
use Rattle.craig_watch.proofs.StateLemmas.{live-literals_at}
use Rattle.craig_watch.proofs.VisitLemmas.{level-low}

-- the ranks of literals
rank-false : (t : Trail) (l : Literal) → IsFalse t l → rank_of t l ≡ level_at t l
rank-false t l is = ap (λ (v : Value). rank_by v (level_at t l)) is

rank-cases : (v : Value) (n m : ℕ) → rank_by v n ≤ m → m < 4294967295 → (v ≡ False) × (n ≤ m)
rank-cases True n m low high = absurd (omega arith)
rank-cases False n m low high = (refl, low)
rank-cases Free n m low high = absurd (omega arith)

-- what is no later than a false literal is false, at no higher level
no-later : (t : Trail) (l m : Literal) → rank_of t m ≤ rank_of t l → IsFalse t l → level_at t l < 4294967295 → IsFalse t m × (level_at t m ≤ level_at t l)
no-later t l m low is high =
    let same : rank_of t l ≡ level_at t l = rank-false t l is in
    rank-cases (value_under t m) (level_at t m) (level_at t l) (omega arith) high

-- levels fit
level-high : (h : HeldView) (l : Literal) → IsConsistent h → IsFalse h.trail l → (level_at h.trail l ≤ decisions h.trail) × (level_at h.trail l < 4294967295)
level-high h l ok is =
    let e = entry-false h.trail l is in
    let p = place-found h.trail l.var e.0 e.1 in
    let at : level_at h.trail l ≡ e.0.level = level_at-entry h.trail l e.0 e.1 in
    let same : (get_or h.trail p.0 e.0).level ≡ e.0.level = ap (λ (f : TrailEntry). f.level) (p.3 e.0) in
    let low : (get_or h.trail p.0 e.0).level ≤ decisions h.trail = levels-bounded h.trail ok.levels p.0 e.0 p.1 in
    let bounded : h.level ≤ h.vars = level-bounded h ok in
    let is : h.level ≡ decisions h.trail = ok.level in
    let few = ok.few in
    (omega arith, omega arith)

-- where all literals but one are false up to a level, that one is true up to it or the level is the present one
not-true : (t : Trail) (n : ℕ) (m : Literal) → IsFalse t m → value_under (part_up_to n t) m ≢ True
not-true t n m falsified is =
    elim (value_under-part n t m) [
      | inl free ↦ true≢free (sym is ∙ free)
      | inr same ↦ (let no : True ≡ False = sym is ∙ same ∙ falsified in cc)
    ]

not-free : (h : HeldView) (n : ℕ) (m : Literal) → IsConsistent h → IsFalse h.trail m → level_at h.trail m ≤ n → value_under (part_up_to n h.trail) m ≢ Free
not-free h n m ok falsified low free =
    let e = entry-false h.trail m falsified in
    let at : level_at h.trail m ≡ e.0.level = level_at-entry h.trail m e.0 e.1 in
    false≢free (sym falsified ∙ sym (value_under-part_kept n h.trail m e.0 ok.levels e.1 (omega arith)) ∙ free)

true-part : (t : Trail) (n : ℕ) (m : Literal) → value_under (part_up_to n t) m ≡ True → (value_under t m ≡ True) × (level_at t m ≤ n)
true-part t n m is =
    let was : value_under t m ≡ True = elim (value_under-part n t m) [ inl free ↦ absurd (true≢free (sym is ∙ free)) | inr same ↦ sym same ∙ is ] in
    let e = entry-true t m was in
    let at : level_at t m ≡ e.0.level = level_at-entry t m e.0 e.1 in (
      was,
      elim (leb_tells e.0.level n) [
        | inl low ↦ let le : e.0.level ≤ n = low.1 in omega arith
        | inr high ↦ absurd (true≢free (sym is ∙ value_under-part_above n t m e.0 e.1 high.1))
      ],
    )

settled-one : (h : HeldView) (c : Clause) (first : Literal) (n : ℕ) → IsConsistent h → ((m : Literal) → Contains c m → m ≢ first → IsFalse h.trail m × (level_at h.trail m ≤ n)) → IsSettled (part_up_to n h.trail) c → (value_under h.trail first ≡ True) × (level_at h.trail first ≤ n)
settled-one h c first n ok others (inl (m, has, is)) =
    elim (same_or_not m first) [
      | inl same ↦ subst (λ (x : Literal). (value_under h.trail x ≡ True) × (level_at h.trail x ≤ n)) same (true-part h.trail n m is)
      | inr differ ↦ absurd (not-true h.trail n m (others m has differ).0 is)
    ]
settled-one h c first n ok others (inr (l, m, has_l, has_m, differ, free_l, free_m)) =
    elim (same_or_not l first) [
      | inl same ↦ let o = others m has_m (λ e. differ (same ∙ sym e)) in absurd (not-free h n m ok o.0 o.1 free_m)
      | inr other ↦ let o = others l has_l other in absurd (not-free h n l ok o.0 o.1 free_l)
    ]

settled-level : (h : HeldView) (id : ℕ) (c : Clause) (first : Literal) (n : ℕ) → IsConsistent h → held_clause h.arena id ≡ Some c → ((m : Literal) → Contains c m → m ≢ first → IsFalse h.trail m × (level_at h.trail m ≤ n)) → ((value_under h.trail first ≡ True) × (level_at h.trail first ≤ n)) ⊎ (decisions h.trail ≤ n)
settled-level h id c first n ok held others =
    elim (leb_tells (decisions h.trail) n) [
      | inl low ↦ inr low.1
      | inr high ↦ inl (settled-one h c first n ok others (ok.complete n (let p : n < decisions h.trail = high.1 in let is = ok.level in omega arith) id c held))
    ]

-- of a clause whose first two literals are well chosen, where the second is false, so are all behind it
behind : (h : HeldView) (c : Clause) (n : ℕ) → IsConsistent h → IsRanked h.trail c n → (i : ℕ) (l : Literal) → i < n → get_or c i l ≡ l → IsFalse h.trail l → (k : ℕ) (d : Literal) → i ≤ k → k < length c → IsFalse h.trail (get_or c k d) × (level_at h.trail (get_or c k d) ≤ level_at h.trail l)
behind h c n ok ranked i l low at falsified k d le within =
    no-later h.trail l (get_or c k d) (subst (λ (x : Literal). rank_of h.trail (get_or c k d) ≤ rank_of h.trail x) at (ranked i k d l low le within)) falsified (level-high h l ok falsified).1

others-behind : (h : HeldView) (c : Clause) (first l : Literal) → IsConsistent h → IsRanked h.trail c 2 → 1 < length c → get_or c 0 first ≡ first → get_or c 1 l ≡ l → IsFalse h.trail l → (m : Literal) → Contains c m → m ≢ first → IsFalse h.trail m × (level_at h.trail m ≤ level_at h.trail l)
others-behind h c first l ok ranked long at_first at_l falsified m (k, within, at) ne =
    elim (leb_tells k 0) [
      | inl none ↦ let p : k ≤ 0 = none.1 in let is : k ≡ 0 = omega arith in
          absurd (ne (sym at ∙ ap (λ (j : ℕ). get_or c j m) is ∙ get_or_default c 0 m first (omega arith) ∙ at_first))
      | inr some ↦ subst (λ (x : Literal). IsFalse h.trail x × (level_at h.trail x ≤ level_at h.trail l)) at (behind h c 2 ok ranked 1 l (omega arith) at_l falsified k m (let p : 0 < k = some.1 in omega arith) within)
    ]

-- which of the first two a watch is
pub watch-cases : (c : Clause) (first l : Literal) → IsWatch c l → get_or c 0 first ≡ first → (l ≡ first) ⊎ (get_or c 1 l ≡ l)
watch-cases c first l w at_first =
    let f = w.first in
    let long = w.long in
    elim (leb_tells w.place 0) [
      | inl none ↦ let p : w.place ≤ 0 = none.1 in let is : w.place ≡ 0 = omega arith in
          inl (sym w.at ∙ ap (λ (j : ℕ). get_or c j l) is ∙ get_or_default c 0 l first (omega arith) ∙ at_first)
      | inr some ↦ let p : 0 < w.place = some.1 in let is : w.place ≡ 1 = omega arith in
          inr (ap (λ (j : ℕ). get_or c j l) (sym is) ∙ w.at)
    ]

-- a clause of one literal has no others
no-others : (c : Clause) (first : Literal) (t : Trail) → length c < 2 → get_or c 0 first ≡ first → (m : Literal) → Contains c m → m ≢ first → IsFalse t m × (level_at t m ≤ 0)
no-others c first t short at_first m (k, within, at) ne =
    let is : k ≡ 0 = omega arith in
    absurd (ne (sym at ∙ ap (λ (j : ℕ). get_or c j m) is ∙ get_or_default c 0 m first (omega arith) ∙ at_first))

-- its first literal is true
looked-true : (s : Watched) (id : ℕ) (c d : Clause) (first : Literal) → IsSound s → held_clause s.arena id ≡ Some c → IsRanked s.assigned.trail c 2 → 0 < length c → get_or c 0 first ≡ first → value_under s.assigned.trail first ≡ True → (n : ℕ) → ((m : Literal) → Contains c m → m ≢ first → IsFalse s.assigned.trail m × (level_at s.assigned.trail m ≤ n)) → c ≡ d → HasTrueUpTo s.assigned.trail d n
looked-true s id c d first ok held ranked some at_first is n others same = record {
  true_one = first;
  has = subst (λ (x : Clause). Contains x first) same (0, some, at_first);
  is_true = is;
  low = elim (settled-level (shown s) id c first n ok.consistent held others) [
    | inl low ↦ low.1
    | inr high ↦ let here = level-low (shown s) first ok.consistent is in omega arith
  ];
}

pub looked-at_true : (s : Watched) (id : ℕ) (lits : Clause) (first : Literal) → IsSound s → IsLive s.arena id → IsRanked s.assigned.trail (literals_at s.arena id) 2 → lits ≡ literals_at s.arena id → 0 < length lits → first ≡ get_or lits 0 first → value_under s.assigned.trail first ≡ True → HasLookedAt s id None
looked-at_true s id lits first ok live ranked same some at is =
    let c : Clause = literals_at s.arena id in
    let held : held_clause s.arena id ≡ Some c = live-literals_at s.arena id live in
    let here : get_or c 0 first ≡ first = ap (λ (ys : Clause). get_or ys 0 first) (sym same) ∙ sym at in
    let some_too : 0 < length c = subst (λ (ys : Clause). 0 < length ys) same some in (
      λ d l now w falsified.
          let one : c ≡ d = literals_at-found s.arena id d now in
          let v : IsWatch c l = subst (λ (x : Clause). IsWatch x l) (sym one) w in
          elim (watch-cases c first l v here) [
            | inl first_is ↦ absurd (let no : True ≡ False = sym is ∙ ap (value_under s.assigned.trail) (sym first_is) ∙ falsified in cc)
            | inr second ↦ looked-true s id c d first ok held ranked some_too here is (level_at s.assigned.trail l) (others-behind (shown s) c first l ok.consistent ranked v.long here second falsified) one
          ],
      λ d now short.
          let one : c ≡ d = literals_at-found s.arena id d now in
          let long = ap length one in
          looked-true s id c d first ok held ranked some_too here is 0 (no-others c first s.assigned.trail (omega arith) here) one,
    )

-- its first two aren't false
pub looked-at_open : (s : Watched) (id : ℕ) (lits : Clause) (first second : Literal) → IsLive s.arena id → lits ≡ literals_at s.arena id → 1 < length lits → first ≡ get_or lits 0 first → second ≡ get_or lits 1 second → value_under s.assigned.trail first ≡ Free → value_under s.assigned.trail second ≢ False → HasLookedAt s id None
looked-at_open s id lits first second live same long at_first at_second free kept_open =
    let c : Clause = literals_at s.arena id in
    let here : get_or c 0 first ≡ first = ap (λ (ys : Clause). get_or ys 0 first) (sym same) ∙ sym at_first in
    let there : get_or c 1 second ≡ second = ap (λ (ys : Clause). get_or ys 1 second) (sym same) ∙ sym at_second in
    let long_too : 1 < length c = subst (λ (ys : Clause). 1 < length ys) same long in (
      λ d l now w falsified.
          let one : c ≡ d = literals_at-found s.arena id d now in
          elim (watch-cases c first l (subst (λ (x : Clause). IsWatch x l) (sym one) w) here) [
            | inl first_is ↦ absurd (false≢free (sym falsified ∙ ap (value_under s.assigned.trail) first_is ∙ free))
            | inr is ↦ absurd (kept_open (ap (value_under s.assigned.trail) (sym there ∙ get_or_default c 1 second l long_too ∙ is) ∙ falsified))
          ],
      λ d now short. let one : c ≡ d = literals_at-found s.arena id d now in let same_long = ap length one in absurd (omega arith),
    )

-- its first is false, and so all are
pub looked-at_false : (s : Watched) (id : ℕ) (lits : Clause) (first : Literal) → IsSound s → IsLive s.arena id → IsRanked s.assigned.trail (literals_at s.arena id) 2 → lits ≡ literals_at s.arena id → first ≡ get_or lits 0 first → value_under s.assigned.trail first ≡ False → IsFalsified (shown s) id
looked-at_false s id lits first ok live ranked same at is =
    let c : Clause = literals_at s.arena id in
    let here : get_or c 0 first ≡ first = ap (λ (ys : Clause). get_or ys 0 first) (sym same) ∙ sym at in
    (c, live-literals_at s.arena id live, λ k d low. (behind (shown s) c 2 ok.consistent ranked 0 first (omega arith) here is k d (omega arith) low).0)

-- where the second is false or there is none, the first is forced
pub looked-forced : (s : Watched) (id : ℕ) (lits : Clause) (first : Literal) → IsLive s.arena id → lits ≡ literals_at s.arena id → 0 < length lits → first ≡ get_or lits 0 first → value_under s.assigned.trail first ≡ Free → ((m : Literal) → Contains (literals_at s.arena id) m → m ≢ first → IsFalse s.assigned.trail m) → IsForcedBy s first id
looked-forced s id lits first live same some at free others = record {
  clause = literals_at s.arena id;
  held = live-literals_at s.arena id live;
  forces = record {
    has = (0, subst (λ (ys : Clause). 0 < length ys) same some, ap (λ (ys : Clause). get_or ys 0 first) (sym same) ∙ sym at);
    others = others;
  };
  free = free;
}

-- and then its first is true at the present level
forced-looked : (s : Watched) (id : ClauseId) (c d : Clause) (first : Literal) → IsSound s → IsForcedBy s first id.0 → held_clause s.arena id.0 ≡ Some c → 0 < length c → get_or c 0 first ≡ first → (n : ℕ) → ((m : Literal) → Contains c m → m ≢ first → IsFalse s.assigned.trail m × (level_at s.assigned.trail m ≤ n)) → c ≡ d → HasTrueUpTo (with_forced s first id).assigned.trail d n
forced-looked s id c d first ok f held some here n others same =
    let e : TrailEntry = forced first (decisions s.assigned.trail) id in
    let t : Trail = s.assigned.trail ++ e ∷ [] in
    let next = IsConsistent-forced (shown s) first (decisions s.assigned.trail) id f.clause ok.consistent f.held f.forces f.free refl in
    let found : entry_of t first.var ≡ Some e = found-last s.assigned.trail e next.distinct in
    record {
      true_one = first;
      has = subst (λ (x : Clause). Contains x first) same (0, some, here);
      is_true = true-entry t first e found refl;
      low = let at : level_at t first ≡ decisions s.assigned.trail = level_at-entry t first e found in
          elim (settled-level (shown s) id.0 c first n ok.consistent held others) [
            | inl was ↦ absurd (true≢free (sym was.0 ∙ f.free))
            | inr high ↦ omega arith
          ];
    }

pub looked-at_forced : (s : Watched) (id : ClauseId) (lits : Clause) (first : Literal) → IsSound s → IsLive s.arena id.0 → IsForcedBy s first id.0 → IsRanked s.assigned.trail (literals_at s.arena id.0) 2 → lits ≡ literals_at s.arena id.0 → 0 < length lits → first ≡ get_or lits 0 first → ((l : Literal) → 1 < length lits → get_or (literals_at s.arena id.0) 1 l ≡ l → IsFalse s.assigned.trail l) → HasLookedAt (with_forced s first id) id.0 None
looked-at_forced s id lits first ok live f ranked same some at second_false =
    let c : Clause = literals_at s.arena id.0 in
    let held : held_clause s.arena id.0 ≡ Some c = live-literals_at s.arena id.0 live in
    let here : get_or c 0 first ≡ first = ap (λ (ys : Clause). get_or ys 0 first) (sym same) ∙ sym at in
    let long_same : length lits ≡ length c = ap length same in
    let e : TrailEntry = forced first (decisions s.assigned.trail) id in
    let next = IsConsistent-forced (shown s) first (decisions s.assigned.trail) id f.clause ok.consistent f.held f.forces f.free refl in
    let found = found-last s.assigned.trail e next.distinct in (
      λ d l now w falsified.
          let one : c ≡ d = literals_at-found s.arena id.0 d now in
          let v : IsWatch c l = subst (λ (x : Clause). IsWatch x l) (sym one) w in
          let long = v.long in
          elim (watch-cases c first l v here) [
            | inl first_is ↦ absurd (let no : True ≡ False = sym (true-entry (s.assigned.trail ++ e ∷ []) first e found refl) ∙ ap (value_under (s.assigned.trail ++ e ∷ [])) (sym first_is) ∙ falsified in cc)
            | inr second ↦
                let was : IsFalse s.assigned.trail l = second_false l (omega arith) second in
                let level : level_at (s.assigned.trail ++ e ∷ []) l ≡ level_at s.assigned.trail l = level_at-longer s.assigned.trail (e ∷ []) l False was false≢free in
                subst (HasTrueUpTo (s.assigned.trail ++ e ∷ []) d) (sym level) (forced-looked s id c d first ok f held (omega arith) here (level_at s.assigned.trail l) (others-behind (shown s) c first l ok.consistent ranked v.long here second was) one)
          ],
      λ d now short.
          let one : c ≡ d = literals_at-found s.arena id.0 d now in
          let same_long = ap length one in
          forced-looked s id c d first ok f held (omega arith) here 0 (no-others c first s.assigned.trail (omega arith) here) one,
    )

-- the others of a clause of one literal, or whose second is false
pub others-short : (s : Watched) (id : ℕ) (lits : Clause) (first : Literal) → lits ≡ literals_at s.arena id → length lits < 2 → first ≡ get_or lits 0 first → (m : Literal) → Contains (literals_at s.arena id) m → m ≢ first → IsFalse s.assigned.trail m
others-short s id lits first same short at m has ne =
    let c : Clause = literals_at s.arena id in
    let long_same : length lits ≡ length c = ap length same in
    (no-others c first s.assigned.trail (omega arith) (ap (λ (ys : Clause). get_or ys 0 first) (sym same) ∙ sym at) m has ne).0

pub others-false : (s : Watched) (id : ℕ) (lits : Clause) (first second : Literal) → IsSound s → IsRanked s.assigned.trail (literals_at s.arena id) 2 → lits ≡ literals_at s.arena id → 1 < length lits → first ≡ get_or lits 0 first → second ≡ get_or lits 1 second → IsFalse s.assigned.trail second → (m : Literal) → Contains (literals_at s.arena id) m → m ≢ first → IsFalse s.assigned.trail m
others-false s id lits first second ok ranked same long at_first at_second falsified m has ne =
    let c : Clause = literals_at s.arena id in
    let long_same : length lits ≡ length c = ap length same in
    (others-behind (shown s) c first second ok.consistent ranked (omega arith) (ap (λ (ys : Clause). get_or ys 0 first) (sym same) ∙ sym at_first) (ap (λ (ys : Clause). get_or ys 1 second) (sym same) ∙ sym at_second) falsified m has ne).0

behind-place : (place best k : ℕ) → place ≤ k → place < best → place ≤ exchanged place best k
behind-place place best k le less =
    elim (exchanged-cases place best k) [
      | inl a ↦ (let x = a.1 in omega arith)
      | inr rest ↦ elim rest [ inl b ↦ (let x = b.1 in omega arith) | inr c ↦ (let x = c.2 in omega arith) ]
    ]

up-to : (place best k i : ℕ) → i ≤ k → i < place → place < best → i ≤ exchanged place best k
up-to place best k i le before less =
    elim (exchanged-cases place best k) [
      | inl a ↦ (let x = a.1 in omega arith)
      | inr rest ↦ elim rest [ inl b ↦ (let x = b.1 in omega arith) | inr c ↦ (let x = c.2 in omega arith) ]
    ]

-- the best of the literals from a place on comes to the place
pub ranked-swap : (t : Trail) (c : Clause) (place best : ℕ) → IsRanked t c place → place < best → best < length c → ((k : ℕ) (d e : Literal) → place ≤ k → k < length c → rank_of t (get_or c k d) ≤ rank_of t (get_or c best e)) → IsRanked t (swap c place best) (place + 1)
ranked-swap t c place best ranked less within last i k d e low le short =
    let long : length (swap c place best) ≡ length c = length-swap c place best in
    let low_k : k < length c = omega arith in
    let at_i : get_or (swap c place best) i e ≡ get_or c (exchanged place best i) e = swap-at c place best i e (omega arith) within (omega arith) in
    let at_k : get_or (swap c place best) k d ≡ get_or c (exchanged place best k) d = swap-at c place best k d (omega arith) within low_k in
    let inside : exchanged place best k < length c = exchanged-within place best k (length c) (omega arith) within low_k in
    subst (λ (x : Literal). rank_of t x ≤ rank_of t (get_or (swap c place best) i e)) (sym at_k)
    (subst (λ (y : Literal). rank_of t (get_or c (exchanged place best k) d) ≤ rank_of t y) (sym at_i)
    (elim (exchanged-cases place best i) [
      | inl here ↦ subst (λ (j : ℕ). rank_of t (get_or c (exchanged place best k) d) ≤ rank_of t (get_or c j e)) (sym here.1) (last (exchanged place best k) d e (let a = here.0 in behind-place place best k (omega arith) less) inside)
      | inr rest ↦ elim rest [
        | inl there ↦ absurd (let a = there.0 in omega arith)
        | inr same ↦
            let before : i < place = (let ne = same.0 in omega (arith, ne)) in
            subst (λ (j : ℕ). rank_of t (get_or c (exchanged place best k) d) ≤ rank_of t (get_or c j e)) (sym same.2) (ranked i (exchanged place best k) d e before (up-to place best k i le before less) inside)
      ]
    ]))

-- the same of the clause that is held
pub ranked-exchanged : (s new : Watched) (id : ClauseId) (place best i j : ℕ) → Exchanges s new id i j → place ≡ i → best ≡ j → IsRanked s.assigned.trail (literals_at s.arena id.0) place → place < best → best < length (literals_at s.arena id.0) → ((k : ℕ) (d e : Literal) → place ≤ k → k < length (literals_at s.arena id.0) → rank_of s.assigned.trail (get_or (literals_at s.arena id.0) k d) ≤ rank_of s.assigned.trail (get_or (literals_at s.arena id.0) best e)) → IsRanked new.assigned.trail (literals_at new.arena id.0) (place + 1)
ranked-exchanged s new id place best i j x is_i is_j ranked less within last =
    let c : Clause = literals_at s.arena id.0 in
    let here : IsRanked s.assigned.trail (swap c place best) (place + 1) = ranked-swap s.assigned.trail c place best ranked less within last in
    let literals : literals_at new.arena id.0 ≡ swap c place best = x.literals ∙ ap (λ (n : ℕ). swap c n j) (sym is_i) ∙ ap (λ (n : ℕ). swap c place n) (sym is_j) in
    subst (λ (a : AssignedView). IsRanked a.trail (literals_at new.arena id.0) (place + 1)) (sym x.assigned)
    (subst (λ (d : Clause). IsRanked s.assigned.trail d (place + 1)) (sym literals) here)

-- a literal at one of the first two places watches the clause
pub place-watched : (s : Watched) (id : ClauseId) (lits : Clause) (place : ℕ) (x : Literal) → IsSound s → IsLive s.arena id.0 → lits ≡ literals_at s.arena id.0 → x ≡ get_or lits place x → place < 2 → 1 < length (literals_at s.arena id.0) → Contains (ids_of s x) id
place-watched s id lits place x ok live same at first long =
    ((ok.watched.listed.watchers x).exact id).1 (record {
      clause = literals_at s.arena id.0;
      held = live-literals_at s.arena id.0 live;
      watch = record { long = long; place = place; first = first; at = ap (λ (ys : Clause). get_or ys place x) (sym same) ∙ sym at };
    })

pub second-false : (t : Trail) (lits c : Clause) (x l : Literal) → lits ≡ c → 1 < length lits → x ≡ get_or lits 1 x → get_or c 1 l ≡ l → IsFalse t x → IsFalse t l
second-false t lits c x l same long at is falsified =
    let one : get_or lits 1 l ≡ l = ap (λ (ys : Clause). get_or ys 1 l) same ∙ is in
    subst (IsFalse t) (at ∙ get_or_default lits 1 x l long ∙ one) falsified
