-- Levels rise along a trail, so a part up to a level keeps what was assigned up to it, and nothing else.
use Rattle.std.proofs.Common.{◌≡◌, ℕ, suc, ◌+◌, ◌<◌, ◌≤◌, Bool, true, false, cond, eqb, leb, [], ◌∷◌, length, get_or, take, All, AllPairs, Option, Some, None, IsSome, is_none, refl, sym, ap, subst, ◌∙◌, arith}
use Rattle.std.specs.Option.{option_map_or}
use Rattle.std.proofs.lemmas.Grind.{common_steps}
use Rattle.std.proofs.lemmas.List.{take-take}
use Rattle.std.proofs.lemmas.List.Sums.{sum_by-take-le}
use Rattle.craig_spec.specs.Literal.{Literal}
use Rattle.craig_base.specs.declared.clause_id.ClauseId.{ClauseId}
use Rattle.craig_watch.specs.declared.trail_entry.TrailEntry.{TrailEntry}
use Rattle.craig_watch.specs.declared.value.Value.TheVariants.{Free}
use Rattle.craig_watch.specs.Trail.{Trail, entry_of, value_under, part_up_to, decisions, AreLevels, level_at}
use Rattle.craig_watch.specs.Held.{HeldView, IsConsistent}
use Rattle.craig_watch.proofs.TrailLemmas.{levels-before, levels-bounded, length-le_from_known, entry_of-part_above, value_under-same, value_under-absent}
use Rattle.craig_watch.proofs.PlacesLemmas.{place-found}

-- an earlier literal has no higher level
pub levels-rise : (t : Trail) → AreLevels t → (i j : ℕ) (d : TrailEntry) → i ≤ j → j < length t → (get_or t i d).level ≤ (get_or t j d).level
levels-rise t levels i j d le within =
    let at_i : (get_or t i d).level ≡ decisions (take (suc i) t) = levels i d (omega arith) in
    let at_j : (get_or t j d).level ≡ decisions (take (suc j) t) = levels j d within in
    let same : decisions (take (suc i) (take (suc j) t)) ≡ decisions (take (suc i) t) = ap decisions (take-take (suc i) (suc j) t (omega arith)) in
    let less : decisions (take (suc i) (take (suc j) t)) ≤ decisions (take (suc j) t) = sum_by-take-le (λ (f : TrailEntry). cond (is_none f.reason) 1 0) (take (suc j) t) (suc i) in
    omega arith

-- no level is above the present one
pub levels-present : (h : HeldView) → IsConsistent h → All (λ e. e.level ≤ h.level) h.trail
levels-present h ok k d w =
    let low : (get_or h.trail k d).level ≤ decisions h.trail = levels-bounded h.trail ok.levels k d w in
    let is : h.level ≡ decisions h.trail = ok.level in
    omega arith

-- nor are there more literals than known variables
pub length-bounded : (h : HeldView) → IsConsistent h → length h.trail ≤ h.vars
length-bounded h ok = length-le_from_known h.trail h.vars ok.known ok.distinct

one-decision : (o : Option ClauseId) (n : ℕ) (level : ℕ) → level ≡ n + cond (is_none o) 1 0 → o ≡ None → 0 < level
one-decision None n level is none = omega arith
one-decision (Some id) n level is none = absurd (let no : Some id ≡ None = none in cc)

-- a decision has a level above 0
pub decision-level : (t : Trail) → AreLevels t → (k : ℕ) (d : TrailEntry) → k < length t → (get_or t k d).reason ≡ None → 0 < (get_or t k d).level
decision-level t levels k d w none =
    one-decision (get_or t k d).reason (decisions (take k t)) (get_or t k d).level (levels-before t levels k d w) none

root-cases : (o : Option ClauseId) (n : ℕ) (level : ℕ) → level ≡ n + cond (is_none o) 1 0 → level ≡ 0 → IsSome o
root-cases None n level is low = absurd (omega arith)
root-cases (Some id) n level is low = refl

-- so what has level 0 has a reason
pub root-reason : (t : Trail) → AreLevels t → (k : ℕ) (d : TrailEntry) → k < length t → (get_or t k d).level ≡ 0 → IsSome (get_or t k d).reason
root-reason t levels k d w low = root-cases (get_or t k d).reason (decisions (take k t)) (get_or t k d).level (levels-before t levels k d w) low

-- the levels as they stand
abbrev AreRising : Trail → Type 0
AreRising t = AllPairs (λ e f. e.level ≤ f.level) t

rising-from_levels : (t : Trail) → AreLevels t → AreRising t
rising-from_levels t levels i j d before within = levels-rise t levels i j d (omega arith) within

kept-cases : (b : Bool) (level : ℕ) (f : TrailEntry) (t : Trail) (v : ℕ) (e : TrailEntry) → f.level ≤ level → cond b (Some f) (entry_of t v) ≡ Some e → (entry_of t v ≡ Some e → entry_of (part_up_to level t) v ≡ Some e) → cond b (Some f) (entry_of (part_up_to level t) v) ≡ Some e
kept-cases true level f t v e low found later = found
kept-cases false level f t v e low found later = later found

first-low : (b : Bool) (level : ℕ) (f : TrailEntry) (t : Trail) (v : ℕ) (e : TrailEntry) → AreRising (f ∷ t) → cond b (Some f) (entry_of t v) ≡ Some e → e.level ≤ level → f.level ≤ level
first-low true level f t v e rising found le = subst (λ (g : TrailEntry). g.level ≤ level) (let same : e ≡ f = cc in same) le
first-low false level f t v e rising found le =
    let p = place-found t v e found in
    let up : f.level ≤ (get_or t p.0 f).level = rising 0 (suc p.0) f (omega arith) (omega (arith, p.1)) in
    let same : (get_or t p.0 f).level ≡ e.level = ap (λ (g : TrailEntry). g.level) (p.3 f) in
    omega arith

kept-rising : (level : ℕ) (t : Trail) (v : ℕ) (e : TrailEntry) → AreRising t → entry_of t v ≡ Some e → e.level ≤ level → entry_of (part_up_to level t) v ≡ Some e
kept-rising level [] v e rising found le = found
kept-rising level (f ∷ t) v e rising found le =
    let low : f.level ≤ level = first-low (eqb f.literal.var v) level f t v e rising found le in
    let yes : leb f.level level ≡ true = grind (arith, common_steps) in
    rw yes (kept-cases (eqb f.literal.var v) level f t v e low found (λ is. kept-rising level t v e (λ i j d before within. rising (suc i) (suc j) d (omega arith) (omega arith)) is le))

-- what was assigned up to the level stays in the part
pub entry_of-part_kept : (level : ℕ) (t : Trail) (v : ℕ) (e : TrailEntry) → AreLevels t → entry_of t v ≡ Some e → e.level ≤ level → entry_of (part_up_to level t) v ≡ Some e
entry_of-part_kept level t v e levels found le = kept-rising level t v e (rising-from_levels t levels) found le

-- so a literal of such a variable keeps its value there
pub value_under-part_kept : (level : ℕ) (t : Trail) (l : Literal) (e : TrailEntry) → AreLevels t → entry_of t l.var ≡ Some e → e.level ≤ level → value_under (part_up_to level t) l ≡ value_under t l
value_under-part_kept level t l e levels found le =
    value_under-same (part_up_to level t) t l (entry_of-part_kept level t l.var e levels found le ∙ sym found)

-- and one of a higher level is free
pub value_under-part_above : (level : ℕ) (t : Trail) (l : Literal) (e : TrailEntry) → entry_of t l.var ≡ Some e → level < e.level → value_under (part_up_to level t) l ≡ Free
value_under-part_above level t l e found above = value_under-absent (part_up_to level t) l (entry_of-part_above level t l.var e found above)

-- the level of a literal by its entry
pub level_at-entry : (t : Trail) (l : Literal) (e : TrailEntry) → entry_of t l.var ≡ Some e → level_at t l ≡ e.level
level_at-entry t l e found = ap (λ (o : Option TrailEntry). option_map_or (λ f. f.level) o 0) found

-- the part is what stands before some place
part-cases : (b : Bool) (level : ℕ) (e : TrailEntry) (t : Trail) → (n : ℕ) × (n ≤ length t) × (part_up_to level t ≡ take n t) → (n : ℕ) × (n ≤ length (e ∷ t)) × (cond b (e ∷ part_up_to level t) [] ≡ take n (e ∷ t))
part-cases true level e t rest = (suc rest.0, omega (arith, rest.1), ap (λ (u : Trail). e ∷ u) rest.2)
part-cases false level e t rest = (0, omega arith, refl)

pub part_up_to-take : (level : ℕ) (t : Trail) → (n : ℕ) × (n ≤ length t) × (part_up_to level t ≡ take n t)
part_up_to-take level [] = (0, omega arith, refl)
part_up_to-take level (e ∷ t) = part-cases (leb e.level level) level e t (part_up_to-take level t)
