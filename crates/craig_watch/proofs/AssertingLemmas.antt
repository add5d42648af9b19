-- False clauses above level 0, and the asserting clauses that are learnt from them.
use Rattle.std.proofs.Common.{◌≡◌, ◌≢◌, ◌⊎◌, inl, inr, ℕ, suc, zero, ◌-◌, ◌<◌, ◌≤◌, ◌∷◌, length, get_or, take, All, Contains, Some, refl, sym, ap, subst, ◌∙◌, arith}
use Rattle.std.proofs.lemmas.Bool.Decides.{leb_tells}
use Rattle.std.proofs.lemmas.List.Elements.{All-contains}
use Rattle.craig_spec.specs.Literal.{Literal, Clause, negation}
use Rattle.craig_base.specs.LemmaRule.{ContainsClause}
use Rattle.craig_base.specs.declared.clause_id.ClauseId.{ClauseId}
use Rattle.craig_watch.specs.declared.trail_entry.TrailEntry.{TrailEntry}
use Rattle.craig_watch.specs.declared.value.Value.TheVariants.{True, False, Free}
use Rattle.craig_watch.specs.Trail.{Trail, value_under, IsFalse, part_up_to, level_at}
use Rattle.craig_watch.specs.Held.{HeldView, held_clause, IsSettled, IsConsistent, MayBeHeld}
use Rattle.craig_watch.proofs.TrailLemmas.{value_under-part}
use Rattle.craig_watch.proofs.PlacesLemmas.{place-found, place-false, entry-false, IsFalse-take}
use Rattle.craig_watch.proofs.LevelsLemmas.{levels-present, level_at-entry, entry_of-part_kept, value_under-part_kept, value_under-part_above}

-- a false literal is free in a part, or of a level up to that of the part
false-level : (h : HeldView) (m : Literal) (l : ℕ) → IsConsistent h → IsFalse h.trail m → value_under (part_up_to l h.trail) m ≡ Free → l < level_at h.trail m
false-level h m l ok falsified free =
    let e = entry-false h.trail m falsified in
    let is : level_at h.trail m ≡ e.0.level = level_at-entry h.trail m e.0 e.1 in
    elim (leb_tells e.0.level l) [
      | inl low ↦ absurd (let no : Free ≡ False = sym free ∙ value_under-part_kept l h.trail m e.0 ok.levels e.1 low.1 ∙ falsified in cc)
      | inr high ↦ let above : l < e.0.level = high.1 in omega arith
    ]

-- no level of a literal is above the present one
level_at-present : (h : HeldView) (m : Literal) → IsConsistent h → IsFalse h.trail m → level_at h.trail m ≤ h.level
level_at-present h m ok falsified =
    let e = entry-false h.trail m falsified in
    let p = place-found h.trail m.var e.0 e.1 in
    let is : level_at h.trail m ≡ e.0.level = level_at-entry h.trail m e.0 e.1 in
    let same : (get_or h.trail p.0 e.0).level ≡ e.0.level = ap (λ (f : TrailEntry). f.level) (p.3 e.0) in
    let low : (get_or h.trail p.0 e.0).level ≤ h.level = levels-present h ok p.0 e.0 p.1 in
    omega arith

-- a literal that is false is not true in a part
not_true-part : (t : Trail) (l : ℕ) (m : Literal) → IsFalse t m → value_under (part_up_to l t) m ≢ True
not_true-part t l m falsified is =
    elim (value_under-part l t m) [
      | inl free ↦ (let no : True ≡ Free = sym is ∙ free in cc)
      | inr same ↦ (let no : True ≡ False = sym is ∙ same ∙ falsified in cc)
    ]

-- a held clause that is false above level 0 has two literals of the present level
two-present : (h : HeldView) (c : Clause) → IsConsistent h → 0 < h.level → All (IsFalse h.trail) c → IsSettled (part_up_to (h.level - 1) h.trail) c → (l m : Literal) × Contains c l × Contains c m × (l ≢ m) × (level_at h.trail l ≡ h.level) × (level_at h.trail m ≡ h.level)
two-present h c ok above falsified (inl (m, has, is)) = absurd (not_true-part h.trail (h.level - 1) m (All-contains (IsFalse h.trail) c m falsified has) is)
two-present h c ok above falsified (inr (l, m, has_l, has_m, differ, free_l, free_m)) =
    let false_l : IsFalse h.trail l = All-contains (IsFalse h.trail) c l falsified has_l in
    let false_m : IsFalse h.trail m = All-contains (IsFalse h.trail) c m falsified has_m in
    let over_l : h.level - 1 < level_at h.trail l = false-level h l (h.level - 1) ok false_l free_l in
    let over_m : h.level - 1 < level_at h.trail m = false-level h m (h.level - 1) ok false_m free_m in
    let low_l : level_at h.trail l ≤ h.level = level_at-present h l ok false_l in
    let low_m : level_at h.trail m ≤ h.level = level_at-present h m ok false_m in
    (l, m, has_l, has_m, differ, omega arith, omega arith)

pub conflict-two : (h : HeldView) (id : ℕ) (c : Clause) → IsConsistent h → 0 < h.level → held_clause h.arena id ≡ Some c → All (IsFalse h.trail) c → (l m : Literal) × Contains c l × Contains c m × (l ≢ m) × (level_at h.trail l ≡ h.level) × (level_at h.trail m ≡ h.level)
conflict-two h id c ok above held falsified = two-present h c ok above falsified (ok.complete (h.level - 1) (omega arith) id c held)

-- of a false clause with one literal of the present level, the others are false in the part below it
member-cases : (first : Literal) (rest : Clause) (m : Literal) → Contains (first ∷ rest) m → (m ≡ first) ⊎ (Contains rest m)
member-cases first rest m (zero, within, at) = inl (sym at)
member-cases first rest m (suc k, within, at) = inr (k, omega arith, at)

rest-false : (h : HeldView) (first : Literal) (rest : Clause) (m : Literal) → IsConsistent h → All (IsFalse h.trail) (first ∷ rest) → All (λ m. level_at h.trail m < h.level) rest → Contains rest m → value_under (part_up_to (h.level - 1) h.trail) m ≡ False
rest-false h first rest m ok falsified low (k, within, at) =
    let is : IsFalse h.trail m = subst (IsFalse h.trail) at (falsified (suc k) m (omega arith)) in
    let below : level_at h.trail m < h.level = subst (λ (l : Literal). level_at h.trail l < h.level) at (low k m within) in
    let e = entry-false h.trail m is in
    let same : level_at h.trail m ≡ e.0.level = level_at-entry h.trail m e.0 e.1 in
    value_under-part_kept (h.level - 1) h.trail m e.0 ok.levels e.1 (omega arith) ∙ is

free-is_first : (h : HeldView) (first : Literal) (rest : Clause) (m : Literal) → IsConsistent h → All (IsFalse h.trail) (first ∷ rest) → All (λ m. level_at h.trail m < h.level) rest → (m ≡ first) ⊎ (Contains rest m) → value_under (part_up_to (h.level - 1) h.trail) m ≡ Free → m ≡ first
free-is_first h first rest m ok falsified low (inl same) free = same
free-is_first h first rest m ok falsified low (inr here) free = absurd (let no : Free ≡ False = sym free ∙ rest-false h first rest m ok falsified low here in cc)

new-cases : (h : HeldView) (first : Literal) (rest c : Clause) → IsConsistent h → All (IsFalse h.trail) (first ∷ rest) → All (λ m. level_at h.trail m < h.level) rest → ContainsClause (first ∷ rest) c → ¬ IsSettled (part_up_to (h.level - 1) h.trail) c
new-cases h first rest c ok falsified low contains (inl (m, has, is)) =
    not_true-part h.trail (h.level - 1) m (All-contains (IsFalse h.trail) (first ∷ rest) m falsified (contains m has)) is
new-cases h first rest c ok falsified low contains (inr (l, m, has_l, has_m, differ, free_l, free_m)) =
    let one : l ≡ first = free-is_first h first rest l ok falsified low (member-cases first rest l (contains l has_l)) free_l in
    let two : m ≡ first = free-is_first h first rest m ok falsified low (member-cases first rest m (contains m has_m)) free_m in
    differ (one ∙ sym two)

-- such a clause contains no held clause
pub asserting-new : (h : HeldView) (first : Literal) (rest : Clause) → IsConsistent h → 0 < h.level → All (IsFalse h.trail) (first ∷ rest) → All (λ m. level_at h.trail m < h.level) rest → (id : ℕ) (c : Clause) → held_clause h.arena id ≡ Some c → ¬ ContainsClause (first ∷ rest) c
asserting-new h first rest ok above falsified low id c held contains =
    new-cases h first rest c ok falsified low contains (ok.complete (h.level - 1) (omega arith) id c held)

-- and may be held after going back to the greatest level of the others
back-cases : (h : HeldView) (first : Literal) (rest : Clause) (back : ℕ) → IsConsistent h → All (IsFalse h.trail) (first ∷ rest) → back < level_at h.trail first → All (λ m. level_at h.trail m ≤ back) rest → (back ≡ 0) ⊎ ((last : Literal) × Contains rest last × (level_at h.trail last ≡ back)) → MayBeHeld (record h { trail = part_up_to back h.trail; level = back }) (first ∷ rest)
back-cases h first rest back ok falsified above low (inl ground_level) = inl ground_level
back-cases h first rest back ok falsified above low (inr (last, has, at)) =
    let e = entry-false h.trail first (falsified 0 first (omega arith)) in
    let level : level_at h.trail first ≡ e.0.level = level_at-entry h.trail first e.0 e.1 in
    let kept : (k : ℕ) (d : Literal) → k < length rest → value_under (part_up_to back h.trail) (get_or rest k d) ≡ False = λ k d w.
    let m : Literal = get_or rest k d in
    let is : IsFalse h.trail m = falsified (suc k) d (omega arith) in
    let f = entry-false h.trail m is in
    let same : level_at h.trail m ≡ f.0.level = level_at-entry h.trail m f.0 f.1 in
    let le : level_at h.trail m ≤ back = low k d w in
    value_under-part_kept back h.trail m f.0 ok.levels f.1 (omega arith) ∙ is in
    let last_false : IsFalse h.trail last = All-contains (IsFalse h.trail) rest last (λ k d w. falsified (suc k) d (omega arith)) has in
    let g = entry-false h.trail last last_false in
    let last_same : level_at h.trail last ≡ g.0.level = level_at-entry h.trail last g.0 g.1 in
    inr (inr (record {
      first = first;
      rest = rest;
      parts = refl;
      free = value_under-part_above back h.trail first e.0 e.1 (omega arith);
      others = kept;
      last = last;
      has_last = has;
      last_entry = g.0;
      last_is = entry_of-part_kept back h.trail last.var g.0 ok.levels g.1 (omega arith);
      last_level = omega arith;
    }))

pub asserting-may_be_held : (h : HeldView) (first : Literal) (rest : Clause) (back : ℕ) → IsConsistent h → All (IsFalse h.trail) (first ∷ rest) → back < level_at h.trail first → All (λ m. level_at h.trail m ≤ back) rest → (back ≡ 0) ⊎ ((last : Literal) × Contains rest last × (level_at h.trail last ≡ back)) → MayBeHeld (record h { trail = part_up_to back h.trail; level = back }) (first ∷ rest)
asserting-may_be_held h first rest back ok falsified above low greatest = back-cases h first rest back ok falsified above low greatest

-- the reason of the literal at a place: it has the literal, and its other literals are negated at places before
pub reason-places : (h : HeldView) → IsConsistent h → (k : ℕ) (d : TrailEntry) (id : ClauseId) → k < length h.trail → (get_or h.trail k d).reason ≡ Some id → (c : Clause) × (held_clause h.arena id.0 ≡ Some c) × Contains c (get_or h.trail k d).literal × ((m : Literal) → Contains c m → m ≢ (get_or h.trail k d).literal → IsFalse h.trail m × ((j : ℕ) × (j < k) × ((f : TrailEntry) → (get_or h.trail j f).literal ≡ negation m)))
reason-places h ok k d id w is =
    let j = ok.justified k d w id is in (
      j.0,
      j.1,
      j.2.has,
      λ m has ne.
          let falsified : IsFalse (take k h.trail) m = j.2.others m has ne in
          (IsFalse-take k h.trail m falsified, place-false h.trail k m (omega arith) falsified),
    )
