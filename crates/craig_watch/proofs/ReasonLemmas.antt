-- A trail on which a variable has another reason: all else is as before.
use Rattle.std.proofs.Common.{◌≡◌, ℕ, suc, ◌+◌, ◌<◌, ◌≤◌, Bool, true, false, cond, eqb, [], ◌∷◌, length, get_or, take, All, Option, Some, None, is_none, refl, sym, ap, subst, ◌∙◌, arith}
use Rattle.std.specs.Option.{option_map, option_map_or}
use Rattle.std.proofs.lemmas.List.{get_or-map, length-map, take-map}
use Rattle.std.proofs.lemmas.List.Sums.{sum_by-cons, sum_by-take-le}
use Rattle.craig_spec.specs.Literal.{Literal}
use Rattle.craig_base.specs.declared.clause_id.ClauseId.{ClauseId}
use Rattle.craig_watch.specs.declared.trail_entry.TrailEntry.{TrailEntry}
use Rattle.craig_watch.specs.declared.value.Value.TheVariants.{Free}
use Rattle.craig_watch.specs.Trail.{Trail, AreDistinct, AreLevels, decisions, entry_of, level_at, rested, value_beside, value_under, with_reason}

entry-cases : (b : Bool) (v : ℕ) (id : ClauseId) (e : TrailEntry) (o p : Option TrailEntry) → p ≡ option_map (rested v id) o → cond b (Some (rested v id e)) p ≡ option_map (rested v id) (cond b (Some e) o)
entry-cases true v id e o p is = refl
entry-cases false v id e o p is = is

-- the entry of a variable
pub entry_of-rested : (v : ℕ) (id : ClauseId) (t : Trail) (w : ℕ) → entry_of (with_reason v id t) w ≡ option_map (rested v id) (entry_of t w)
entry_of-rested v id [] w = refl
entry_of-rested v id (e ∷ t) w = entry-cases (eqb e.literal.var w) v id e (entry_of t w) (entry_of (with_reason v id t) w) (entry_of-rested v id t w)

same-value : (v : ℕ) (id : ClauseId) (l : Literal) (o : Option TrailEntry) → option_map_or (λ (e : TrailEntry). value_beside e.literal l) (option_map (rested v id) o) Free ≡ option_map_or (λ (e : TrailEntry). value_beside e.literal l) o Free
same-value v id l None = refl
same-value v id l (Some e) = refl

-- its value
pub value_under-rested : (v : ℕ) (id : ClauseId) (t : Trail) (l : Literal) → value_under (with_reason v id t) l ≡ value_under t l
value_under-rested v id t l = ap (λ (o : Option TrailEntry). option_map_or (λ (e : TrailEntry). value_beside e.literal l) o Free) (entry_of-rested v id t l.var) ∙ same-value v id l (entry_of t l.var)

same-level : (v : ℕ) (id : ClauseId) (o : Option TrailEntry) → option_map_or (λ (e : TrailEntry). e.level) (option_map (rested v id) o) 0 ≡ option_map_or (λ (e : TrailEntry). e.level) o 0
same-level v id None = refl
same-level v id (Some e) = refl

-- and its level
pub level_at-rested : (v : ℕ) (id : ClauseId) (t : Trail) (l : Literal) → level_at (with_reason v id t) l ≡ level_at t l
level_at-rested v id t l = ap (λ (o : Option TrailEntry). option_map_or (λ (e : TrailEntry). e.level) o 0) (entry_of-rested v id t l.var) ∙ same-level v id (entry_of t l.var)

pub length-rested : (v : ℕ) (id : ClauseId) (t : Trail) → length (with_reason v id t) ≡ length t
length-rested v id t = length-map t (rested v id)

-- the entry at a place
pub rested-at : (v : ℕ) (id : ClauseId) (t : Trail) (k : ℕ) (d : TrailEntry) → k < length (with_reason v id t) → get_or (with_reason v id t) k d ≡ rested v id (get_or t k d)
rested-at v id t k d within = let long = length-rested v id t in get_or-map (rested v id) t k d d (omega arith)

fewer-cases : (b : Bool) (id : ClauseId) (o : Option ClauseId) → cond {A = ℕ} (is_none (cond b (Some id) o)) 1 0 ≤ cond {A = ℕ} (is_none o) 1 0
fewer-cases true id o = omega arith
fewer-cases false id o = omega arith

-- there are no more decisions
pub decisions-rested : (v : ℕ) (id : ClauseId) (t : Trail) → decisions (with_reason v id t) ≤ decisions t
decisions-rested v id [] = omega arith
decisions-rested v id (e ∷ t) =
    let here = fewer-cases (eqb e.literal.var v) id e.reason in
    let rest = decisions-rested v id t in
    let now : decisions (with_reason v id (e ∷ t)) ≡ cond {A = ℕ} (is_none (cond (eqb e.literal.var v) (Some id) e.reason)) 1 0 + decisions (with_reason v id t) = sum_by-cons (λ (f : TrailEntry). cond (is_none f.reason) 1 0) (rested v id e) (with_reason v id t) in
    let was : decisions (e ∷ t) ≡ cond {A = ℕ} (is_none e.reason) 1 0 + decisions t = sum_by-cons (λ (f : TrailEntry). cond (is_none f.reason) 1 0) e t in
    omega (arith, here, rest, now, was)

-- where there was none, levels are right
pub AreLevels-rested : (v : ℕ) (id : ClauseId) (t : Trail) → decisions t ≡ 0 → AreLevels t → AreLevels (with_reason v id t)
AreLevels-rested v id t none levels k d within =
    let long = length-rested v id t in
    let few : decisions (take (suc k) t) ≤ decisions t = sum_by-take-le (λ (f : TrailEntry). cond (is_none f.reason) 1 0) t (suc k) in
    let low : decisions (with_reason v id (take (suc k) t)) ≤ decisions (take (suc k) t) = decisions-rested v id (take (suc k) t) in
    let same : decisions (take (suc k) (with_reason v id t)) ≡ decisions (with_reason v id (take (suc k) t)) = ap decisions (take-map (rested v id) (suc k) t) in
    let was : (get_or t k d).level ≡ decisions (take (suc k) t) = levels k d (omega arith) in
    let is : (get_or (with_reason v id t) k d).level ≡ (get_or t k d).level = ap (λ (e : TrailEntry). e.level) (rested-at v id t k d within) in
    omega (arith, few, low, same, was, is, none)

-- no variable stands there twice
pub AreDistinct-rested : (v : ℕ) (id : ClauseId) (t : Trail) → AreDistinct t → AreDistinct (with_reason v id t)
AreDistinct-rested v id t apart i j d before within same =
    let long = length-rested v id t in
    let one : (get_or (with_reason v id t) i d).literal.var ≡ (get_or t i d).literal.var = ap (λ (e : TrailEntry). e.literal.var) (rested-at v id t i d (omega (arith, before, within))) in
    let other : (get_or (with_reason v id t) j d).literal.var ≡ (get_or t j d).literal.var = ap (λ (e : TrailEntry). e.literal.var) (rested-at v id t j d within) in
    apart i j d before (omega (arith, within, long)) (sym one ∙ same ∙ other)

-- what holds of each variable still does
pub each-rested : (P : ℕ → Type 0) (v : ℕ) (id : ClauseId) (t : Trail) → All (λ e. P e.literal.var) t → All (λ e. P e.literal.var) (with_reason v id t)
each-rested P v id t all k d within =
    let long = length-rested v id t in
    subst (λ (e : TrailEntry). P e.literal.var) (sym (rested-at v id t k d within)) (all k d (omega (arith, within, long)))
