-- Each watch that is false was walked, is pending, or its clause waits: what the changes of the trail keep of it.
use Rattle.std.proofs.Common.{◌≡◌, ◌≢◌, ◌⊎◌, inl, inr, ℕ, suc, zero, ◌+◌, ◌<◌, ◌≤◌, Bool, true, false, cond, [], ◌∷◌, ◌++◌, length, get_or, take, All, AllPairs, Contains, Some, refl, sym, ap, subst, ◌∙◌, arith, leb, leb-true}
use Rattle.std.proofs.lemmas.Bool.Decides.{leb_tells}
use Rattle.std.proofs.lemmas.List.{length_push, get_or_append_left, length-take-le, get_or-take}
use Rattle.craig_spec.specs.Literal.{Literal, Clause, negation}
use Rattle.craig_spec.specs.Chain.{SameLiterals}
use Rattle.craig_spec.proofs.LiteralLemmas.{negation_twice}
use Rattle.craig_base.specs.Arena.{ArenaView}
use Rattle.craig_base.proofs.LookUpLemmas.{held-below}
use Rattle.craig_watch.specs.declared.trail_entry.TrailEntry.{TrailEntry}
use Rattle.craig_watch.specs.declared.value.Value.{Value}
use Rattle.craig_watch.specs.declared.value.Value.TheVariants.{True, False, Free}
use Rattle.craig_watch.specs.Trail.{Trail, any_entry, entry_of, value_under, IsFalse, level_at, part_up_to, decisions, AreDistinct, AreLevels}
use Rattle.craig_watch.specs.Held.{HeldView, held_clause, HasTrue, IsSettled, IsComplete, IsConsistent}
use Rattle.craig_watch.proofs.ReorderedLemmas.{Reorders}
use Rattle.craig_watch.specs.Watches.{IsWatch, Watches, HasTrueUpTo, IsPending, AreSettled}
use Rattle.craig_watch.proofs.TrailLemmas.{get_or-last, entry_of-at}
use Rattle.craig_watch.proofs.PlacesLemmas.{entry-true, entry-false, entry-valued, entry_of-longer, value_under-longer, true-entry}
use Rattle.craig_watch.proofs.LevelsLemmas.{level_at-entry, entry_of-part_kept, value_under-part_above, part_up_to-take}
use Rattle.craig_watch.proofs.TrailLemmas.{value_under-part}
use Rattle.craig_watch.proofs.AssignedLemmas.{three_ways, value_under-other, found-last}

pub true≢free : True ≢ Free
true≢free e = let no : True ≡ Free = e in cc

pub false≢free : False ≢ Free
false≢free e = let no : False ≡ Free = e in cc

-- what is assigned keeps its level when the trail gets longer
pub level_at-longer : (t u : Trail) (l : Literal) (v : Value) → value_under t l ≡ v → v ≢ Free → level_at (t ++ u) l ≡ level_at t l
level_at-longer t u l v is ne =
    let e = entry-valued t l v is ne in
    level_at-entry (t ++ u) l e.0 (entry_of-longer t u l.var e.0 e.1) ∙ sym (level_at-entry t l e.0 e.1)

pub kept-value : (t u : Trail) (l : Literal) (v : Value) → value_under t l ≡ v → v ≢ Free → value_under (t ++ u) l ≡ v
kept-value t u l v is ne = value_under-longer t u l (λ free. ne (sym is ∙ free)) ∙ is

pub HasTrueUpTo-longer : (t u : Trail) (c : Clause) (n : ℕ) → HasTrueUpTo t c n → HasTrueUpTo (t ++ u) c n
HasTrueUpTo-longer t u c n h = record {
  true_one = h.true_one;
  has = h.has;
  is_true = kept-value t u h.true_one True h.is_true true≢free;
  low = let same : level_at (t ++ u) h.true_one ≡ level_at t h.true_one = level_at-longer t u h.true_one True h.is_true true≢free in let low = h.low in omega arith;
}

pub HasTrueUpTo-same : (t : Trail) (c d : Clause) (n : ℕ) → SameLiterals c d → HasTrueUpTo t c n → HasTrueUpTo t d n
HasTrueUpTo-same t c d n same h = record { true_one = h.true_one; has = (same h.true_one).0 h.has; is_true = h.is_true; low = h.low }

pub HasTrueUpTo-level : (t : Trail) (c : Clause) (n m : ℕ) → n ≤ m → HasTrueUpTo t c n → HasTrueUpTo t c m
HasTrueUpTo-level t c n m le h = record { true_one = h.true_one; has = h.has; is_true = h.is_true; low = let low = h.low in omega arith }

-- a part up to a level that isn't lower keeps it
HasTrueUpTo-part : (t : Trail) (c : Clause) (n level : ℕ) → AreLevels t → n ≤ level → HasTrueUpTo t c n → HasTrueUpTo (part_up_to level t) c n
HasTrueUpTo-part t c n level levels le h =
    let e = entry-true t h.true_one h.is_true in
    let at : level_at t h.true_one ≡ e.0.level = level_at-entry t h.true_one e.0 e.1 in
    let low = h.low in
    let kept : entry_of (part_up_to level t) h.true_one.var ≡ Some e.0 = entry_of-part_kept level t h.true_one.var e.0 levels e.1 (omega arith) in
    record {
      true_one = h.true_one;
      has = h.has;
      is_true = true-entry (part_up_to level t) h.true_one e.0 kept e.2;
      low = let same : level_at (part_up_to level t) h.true_one ≡ e.0.level = level_at-entry (part_up_to level t) h.true_one e.0 kept in omega arith;
    }

-- a literal that is false under one entry more was false, or the entry made it so
pub false-push : (t : Trail) (e : TrailEntry) (l : Literal) → AreDistinct (t ++ e ∷ []) → IsFalse (t ++ e ∷ []) l → (IsFalse t l) ⊎ (e.literal ≡ negation l)
false-push t e l apart falsified =
    elim (three_ways l e.literal) [
      | inl same ↦ absurd (let no : True ≡ False = sym (true-entry (t ++ e ∷ []) e.literal e (found-last t e apart) refl) ∙ ap (value_under (t ++ e ∷ [])) (sym same) ∙ falsified in cc)
      | inr rest ↦ elim rest [
        | inl negated ↦ inr (sym (negation_twice e.literal) ∙ ap negation (sym negated))
        | inr other ↦ inl (sym (value_under-other t e l other) ∙ falsified)
      ]
    ]

-- what is pending stays so
IsPending-push : (t : Trail) (e : TrailEntry) (walked : ℕ) (l : Literal) → IsPending t walked l → IsPending (t ++ e ∷ []) walked l
IsPending-push t e walked l h =
    let long : length (t ++ e ∷ []) ≡ length t + 1 = length_push t e in
    let w = h.within in
    record {
      place = h.place;
      behind = h.behind;
      within = omega arith;
      negates = λ d. ap (λ (f : TrailEntry). f.literal) (get_or_append_left t (e ∷ []) d h.place h.within) ∙ h.negates d;
    }

-- the last one is pending
IsPending-last : (t : Trail) (e : TrailEntry) (walked : ℕ) (l : Literal) → walked ≤ length t → e.literal ≡ negation l → IsPending (t ++ e ∷ []) walked l
IsPending-last t e walked l le is =
    let long : length (t ++ e ∷ []) ≡ length t + 1 = length_push t e in
    record { place = length t; behind = le; within = omega arith; negates = λ d. ap (λ (f : TrailEntry). f.literal) (get_or-last t e (length t) d refl) ∙ is }

-- one entry more on the trail
pub AreSettled-push : (a : ArenaView) (t : Trail) (e : TrailEntry) (looked walked : ℕ) → AreSettled a t looked walked → AreDistinct (t ++ e ∷ []) → e.level ≡ decisions (t ++ e ∷ []) → ((k : ℕ) (d : TrailEntry) → walked ≤ k → k < length t → (get_or t k d).level ≡ decisions (t ++ e ∷ [])) → AreSettled a (t ++ e ∷ []) looked walked
AreSettled-push a t e looked walked h apart level present =
    let long : length (t ++ e ∷ []) ≡ length t + 1 = length_push t e in
    let within = h.within in
    record {
      given = h.given;
      within = omega arith;
      present = λ k d behind w. elim (leb_tells (suc k) (length t)) [
        | inl here ↦ ap (λ (f : TrailEntry). f.level) (get_or_append_left t (e ∷ []) d k here.1) ∙ present k d behind here.1
        | inr gone ↦ let past : length t < suc k = gone.1 in let is : k ≡ length t = omega arith in ap (λ (f : TrailEntry). f.level) (get_or-last t e k d is) ∙ level
      ];
      walked_pending_or_waiting = λ id c l held watch falsified. elim (false-push t e l apart falsified) [
        | inl old ↦ elim (h.walked_pending_or_waiting id c l held watch old) [
          | inl was ↦ inl (subst (HasTrueUpTo (t ++ e ∷ []) c) (sym (level_at-longer t (e ∷ []) l False old false≢free)) (HasTrueUpTo-longer t (e ∷ []) c (level_at t l) was))
          | inr rest ↦ elim rest [ inl pending ↦ inr (inl (IsPending-push t e walked l pending)) | inr waits ↦ inr (inr waits) ]
        ]
        | inr new ↦ inr (inl (IsPending-last t e walked l h.within new))
      ];
      short = λ id c held few. elim (h.short id c held few) [ inl was ↦ inl (HasTrueUpTo-longer t (e ∷ []) c 0 was) | inr waits ↦ inr waits ];
    }

-- the level of a literal whose negation stands at a place
pub level-place : (t : Trail) (k : ℕ) (d : TrailEntry) (l : Literal) → AreDistinct t → k < length t → (get_or t k d).literal ≡ negation l → level_at t l ≡ (get_or t k d).level
level-place t k d l apart within is =
    let var : (get_or t k d).literal.var ≡ l.var = ap (λ (m : Literal). m.var) is in
    level_at-entry t l (get_or t k d) (subst (λ (v : ℕ). entry_of t v ≡ Some (get_or t k d)) var (entry_of-at t k d apart within))

-- two literals with the same negation are the same
same-negation : (e l m : Literal) → e ≡ negation l → e ≡ negation m → l ≡ m
same-negation e l m one two = sym (negation_twice l) ∙ ap negation (sym one ∙ two) ∙ negation_twice m

pending-walked : (a : ArenaView) (t : Trail) (looked walked : ℕ) (m : Literal) (id : ℕ) (c : Clause) (l : Literal) → ((d : TrailEntry) → (get_or t walked d).literal ≡ negation m) → ((id : ℕ) (c : Clause) → held_clause a id ≡ Some c → IsWatch c m → HasTrueUpTo t c (level_at t m)) → held_clause a id ≡ Some c → IsWatch c l → IsPending t walked l → HasTrueUpTo t c (level_at t l) ⊎ (IsPending t (walked + 1) l ⊎ (looked ≤ id))
pending-walked a t looked walked m id c l at done held watch pending =
    elim (leb_tells (suc walked) pending.place) [
      | inl later ↦ let p : suc walked ≤ pending.place = later.1 in inr (inl (record { place = pending.place; behind = omega arith; within = pending.within; negates = pending.negates }))
      | inr here ↦
          let p : pending.place < suc walked = here.1 in
          let b = pending.behind in
          let is : pending.place ≡ walked = omega arith in
          let same : m ≡ l = same-negation (get_or t walked any_entry).literal m l (at any_entry) (subst (λ (k : ℕ). (get_or t k any_entry).literal ≡ negation l) is (pending.negates any_entry)) in
          inl (subst (λ (x : Literal). HasTrueUpTo t c (level_at t x)) same (done id c held (subst (IsWatch c) (sym same) watch)))
    ]

-- one list more was walked
pub AreSettled-walked : (a : ArenaView) (t : Trail) (looked walked : ℕ) (m : Literal) → AreSettled a t looked walked → walked < length t → ((d : TrailEntry) → (get_or t walked d).literal ≡ negation m) → ((id : ℕ) (c : Clause) → held_clause a id ≡ Some c → IsWatch c m → HasTrueUpTo t c (level_at t m)) → AreSettled a t looked (walked + 1)
AreSettled-walked a t looked walked m h more at done = record {
  given = h.given;
  within = omega arith;
  present = λ k d behind w. h.present k d (omega arith) w;
  walked_pending_or_waiting = λ id c l held watch falsified. elim (h.walked_pending_or_waiting id c l held watch falsified) [
    | inl was ↦ inl was
    | inr rest ↦ elim rest [
      | inl pending ↦ pending-walked a t looked walked m id c l at done held watch pending
      | inr waits ↦ inr (inr waits)
    ]
  ];
  short = h.short;
}

-- one clause more was looked at
pub AreSettled-looked : (a : ArenaView) (t : Trail) (looked walked : ℕ) → AreSettled a t looked walked → looked < a.given → ((c : Clause) (l : Literal) → held_clause a looked ≡ Some c → IsWatch c l → IsFalse t l → HasTrueUpTo t c (level_at t l)) → ((c : Clause) → held_clause a looked ≡ Some c → length c < 2 → HasTrueUpTo t c 0) → AreSettled a t (looked + 1) walked
AreSettled-looked a t looked walked h more done done_short = record {
  given = omega arith;
  within = h.within;
  present = h.present;
  walked_pending_or_waiting = λ id c l held watch falsified. elim (h.walked_pending_or_waiting id c l held watch falsified) [
    | inl was ↦ inl was
    | inr rest ↦ elim rest [
      | inl pending ↦ inr (inl pending)
      | inr waits ↦ elim (leb_tells (suc looked) id) [
        | inl later ↦ inr (inr (let p : suc looked ≤ id = later.1 in omega arith))
        | inr here ↦ let p : id < suc looked = here.1 in let is : id ≡ looked = omega arith in inl (done c l (subst (λ (n : ℕ). held_clause a n ≡ Some c) is held) watch falsified)
      ]
    ]
  ];
  short = λ id c held few. elim (h.short id c held few) [
    | inl was ↦ inl was
    | inr waits ↦ elim (leb_tells (suc looked) id) [
      | inl later ↦ inr (let p : suc looked ≤ id = later.1 in omega arith)
      | inr here ↦ let p : id < suc looked = here.1 in let is : id ≡ looked = omega arith in inl (done_short c (subst (λ (n : ℕ). held_clause a n ≡ Some c) is held) few)
    ]
  ];
}

low-cases : (b : Bool) (level : ℕ) (e : TrailEntry) (t : Trail) → leb e.level level ≡ b → All (λ f. f.level ≤ level) (part_up_to level t) → All (λ f. f.level ≤ level) (cond b (e ∷ part_up_to level t) [])
low-cases true level e t is rest zero d w = leb-true e.level level is
low-cases true level e t is rest (suc k) d w = rest k d (omega arith)
low-cases false level e t is rest k d w = absurd (omega arith)

part-low : (level : ℕ) (t : Trail) → All (λ f. f.level ≤ level) (part_up_to level t)
part-low level [] = λ k d w. absurd (omega arith)
part-low level (e ∷ t) = low-cases (leb e.level level) level e t refl (part-low level t)

pub part-at : (level : ℕ) (t : Trail) (k : ℕ) (d : TrailEntry) → k < length (part_up_to level t) → (k < length t) × (get_or (part_up_to level t) k d ≡ get_or t k d)
part-at level t k d w =
    let p = part_up_to-take level t in
    let long : length (part_up_to level t) ≡ length (take p.0 t) = ap length p.2 in
    let same : length (take p.0 t) ≡ p.0 = length-take-le p.0 t p.1 in
    let le = p.1 in
    (omega arith, ap (λ (u : Trail). get_or u k d) p.2 ∙ get_or-take p.0 t k d (omega arith))

back-present : (t : Trail) (walked level n : ℕ) → ((k : ℕ) (d : TrailEntry) → walked ≤ k → k < length t → (get_or t k d).level ≡ decisions t) → level < decisions t → (walked ≤ n) ⊎ (length (part_up_to level t) ≤ n) → (k : ℕ) (d : TrailEntry) → n ≤ k → k < length (part_up_to level t) → ⊥
back-present t walked level n present below (inl behind) k d le w =
    let at = part-at level t k d w in
    let high : (get_or t k d).level ≡ decisions t = present k d (omega arith) at.0 in
    let low : (get_or (part_up_to level t) k d).level ≤ level = part-low level t k d w in
    let same : (get_or (part_up_to level t) k d).level ≡ (get_or t k d).level = ap (λ (f : TrailEntry). f.level) at.1 in
    omega arith
back-present t walked level n present below (inr all) k d le w = omega arith

pending-level : (t : Trail) (walked : ℕ) (l : Literal) → AreDistinct t → ((k : ℕ) (d : TrailEntry) → walked ≤ k → k < length t → (get_or t k d).level ≡ decisions t) → IsPending t walked l → level_at t l ≡ decisions t
pending-level t walked l apart present h = level-place t h.place any_entry l apart h.within (h.negates any_entry) ∙ present h.place any_entry h.behind h.within

low-same : (t : Trail) (level : ℕ) (l : Literal) (e f : TrailEntry) → AreLevels t → entry_of t l.var ≡ Some e → e.level ≤ level → level_at (part_up_to level t) l ≡ level_at t l
low-same t level l e f levels found le = level_at-entry (part_up_to level t) l e (entry_of-part_kept level t l.var e levels found le) ∙ sym (level_at-entry t l e found)

-- what is false in a part was false, and at no higher level
false-part : (t : Trail) (level : ℕ) (l : Literal) → AreLevels t → IsFalse (part_up_to level t) l → IsFalse t l × (level_at t l ≤ level) × (level_at (part_up_to level t) l ≡ level_at t l)
false-part t level l levels falsified =
    let was : IsFalse t l = elim (value_under-part level t l) [ inl free ↦ absurd (false≢free (sym falsified ∙ free)) | inr same ↦ sym same ∙ falsified ] in
    let e = entry-false t l was in
    let at : level_at t l ≡ e.0.level = level_at-entry t l e.0 e.1 in
    elim (leb_tells e.0.level level) [
      | inl low ↦ (was, let le : e.0.level ≤ level = low.1 in omega arith, low-same t level l e.0 e.0 levels e.1 low.1)
      | inr high ↦ absurd (false≢free (sym falsified ∙ value_under-part_above level t l e.0 e.1 high.1))
    ]

-- going back below the present level
pub AreSettled-back : (a : ArenaView) (t : Trail) (looked walked level n : ℕ) → AreSettled a t looked walked → AreLevels t → AreDistinct t → level < decisions t → n ≤ walked → n ≤ length (part_up_to level t) → (walked ≤ n) ⊎ (length (part_up_to level t) ≤ n) → AreSettled a (part_up_to level t) looked n
AreSettled-back a t looked walked level n h levels apart below le within all = record {
  given = h.given;
  within = within;
  present = λ k d behind w. absurd (back-present t walked level n h.present below all k d behind w);
  walked_pending_or_waiting = λ id c l held watch falsified.
      let was = false-part t level l levels falsified in
      elim (h.walked_pending_or_waiting id c l held watch was.0) [
        | inl done ↦ inl (subst (HasTrueUpTo (part_up_to level t) c) (sym was.2) (HasTrueUpTo-part t c (level_at t l) level levels was.1 done))
        | inr rest ↦ elim rest [
          | inl pending ↦ absurd (let high : level_at t l ≡ decisions t = pending-level t walked l apart h.present pending in let low = was.1 in omega arith)
          | inr waits ↦ inr (inr waits)
        ]
      ];
  short = λ id c held few. elim (h.short id c held few) [ inl was ↦ inl (HasTrueUpTo-part t c 0 level levels (omega arith) was) | inr waits ↦ inr waits ];
}

-- once every list was walked and every clause looked at, propagation is complete
two-watches : (t : Trail) (c : Clause) (l m : Literal) (rest : Clause) → c ≡ l ∷ m ∷ rest → l ≢ m → ((x : Literal) → IsWatch c x → IsFalse t x → HasTrue t c) → IsSettled t c
two-watches t c l m rest is differ done =
    let first : IsWatch c l = subst (λ (d : Clause). IsWatch d l) (sym is) (record { long = omega arith; place = 0; first = omega arith; at = refl }) in
    let second : IsWatch c m = subst (λ (d : Clause). IsWatch d m) (sym is) (record { long = omega arith; place = 1; first = omega arith; at = refl }) in
    let has_l : Contains c l = subst (λ (d : Clause). Contains d l) (sym is) (0, omega arith, refl) in
    let has_m : Contains c m = subst (λ (d : Clause). Contains d m) (sym is) (1, omega arith, refl) in
    elim (value_under t l) as (λ v. value_under t l ≡ v → IsSettled t c) [
      | True ↦ λ v. inl (l, has_l, v)
      | False ↦ λ v. inl (done l first v)
      | Free ↦ λ v. elim (value_under t m) as (λ w. value_under t m ≡ w → IsSettled t c) [
        | True ↦ λ w. inl (m, has_m, w)
        | False ↦ λ w. inl (done m second w)
        | Free ↦ λ w. inr (l, m, has_l, has_m, differ, v, w)
      ] refl
    ] refl

true-up_to : (t : Trail) (c : Clause) (n : ℕ) → HasTrueUpTo t c n → HasTrue t c
true-up_to t c n h = (h.true_one, h.has, h.is_true)

settled-clause : (h : HeldView) (id : ℕ) (c d : Clause) → AreSettled h.arena h.trail h.arena.given (length h.trail) → IsConsistent h → held_clause h.arena id ≡ Some c → id < h.arena.given → d ≡ c → IsSettled h.trail d
settled-clause h id c [] settled ok held below is = elim (settled.short id c held (let long = ap length is in omega arith)) [ inl was ↦ inl (subst (HasTrue h.trail) (sym is) (true-up_to h.trail c 0 was)) | inr waits ↦ absurd (omega arith) ]
settled-clause h id c (l ∷ []) settled ok held below is = elim (settled.short id c held (let long = ap length is in omega arith)) [ inl was ↦ inl (subst (HasTrue h.trail) (sym is) (true-up_to h.trail c 0 was)) | inr waits ↦ absurd (omega arith) ]
settled-clause h id c (l ∷ m ∷ rest) settled ok held below is =
    subst (IsSettled h.trail) (sym is)
    (two-watches h.trail c l m rest (sym is) (let apart = (ok.clauses id c held).0.distinct in subst (λ (d : Clause). AllPairs (λ x y. x ≢ y) d) (sym is) apart 0 1 l (omega arith) (omega arith))
    (λ x watch falsified. elim (settled.walked_pending_or_waiting id c x held watch falsified) [
      | inl was ↦ true-up_to h.trail c (level_at h.trail x) was
      | inr rest ↦ elim rest [ inl pending ↦ absurd (let b = pending.behind in let w = pending.within in omega arith) | inr waits ↦ absurd (omega arith) ]
    ]))

pub IsComplete-settled : (h : HeldView) → AreSettled h.arena h.trail h.arena.given (length h.trail) → IsConsistent h → IsComplete h.arena h.trail
IsComplete-settled h settled ok id c held = settled-clause h id c c settled ok held (held-below h.arena id c ok.arena held) refl

-- before a decision: what was pending waits
pub AreSettled-reset : (a : ArenaView) (t : Trail) (looked walked : ℕ) → AreSettled a t looked walked → AreSettled a t 0 (length t)
AreSettled-reset a t looked walked h = record {
  given = omega arith;
  within = omega arith;
  present = λ k d behind w. absurd (omega arith);
  walked_pending_or_waiting = λ id c l held watch falsified. inr (inr (omega arith));
  short = λ id c held few. inr (omega arith);
}

-- clauses change the order of their literals, and a new watch isn't false or its clause waits
pub AreSettled-reordered : (a b : ArenaView) (t : Trail) (looked walked : ℕ) → AreSettled a t looked walked → Reorders a b → ((id : ℕ) (l : Literal) → Watches b id l → IsFalse t l → Watches a id l ⊎ (looked ≤ id)) → AreSettled b t looked walked
AreSettled-reordered a b t looked walked h r watches = record {
  given = let same = r.only.given in let low = h.given in omega arith;
  within = h.within;
  present = h.present;
  walked_pending_or_waiting = λ id d l held watch falsified. elim (watches id l (record { clause = d; held = held; watch = watch }) falsified) [
    | inl was ↦
        let c = r.was id d held in
        let both : Some was.clause ≡ Some c.0 = sym was.held ∙ c.1 in
        let one : was.clause ≡ c.0 = cc in
        elim (h.walked_pending_or_waiting id c.0 l c.1 (subst (λ (x : Clause). IsWatch x l) one was.watch) falsified) [
          | inl done ↦ inl (HasTrueUpTo-same t c.0 d (level_at t l) c.2 done)
          | inr rest ↦ inr rest
        ]
    | inr waits ↦ inr (inr waits)
  ];
  short = λ id d held few. let c = r.was id d held in let same = c.4 in elim (h.short id c.0 c.1 (omega arith)) [ inl done ↦ inl (HasTrueUpTo-same t c.0 d 0 c.2 done) | inr waits ↦ inr waits ];
}
