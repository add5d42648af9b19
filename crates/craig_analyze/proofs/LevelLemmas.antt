-- Levels along a trail, and what is known of reasons and of clauses that are false.
use Rattle.std.proofs.Common.{◌≡◌, ◌≢◌, ◌⊎◌, inl, inr, ℕ, suc, ◌+◌, ◌<◌, ◌≤◌, Bool, true, cond, List, length, get_or, take, All, Option, Some, None, IsSome, is_none, map, refl, ap, subst, ◌∙◌, arith}
use Rattle.std.specs.Option.{option_map, option_map_or}
use Rattle.std.proofs.lemmas.List.{take-take, get_or-map}
use Rattle.std.proofs.lemmas.List.Sums.{sum_by-take-le}
use Rattle.std.proofs.Math.Seq.{take-suc}
use Rattle.craig_spec.specs.Literal.{Literal, Clause}
use Rattle.craig_watch.specs.declared.trail_entry.TrailEntry.{TrailEntry}
use Rattle.craig_watch.specs.Trail.{Trail, any_entry, entry_of, decisions, AreLevels, level_at}
use Rattle.craig_watch.specs.Held.{HeldView, IsConsistent}
use Rattle.craig_watch.proofs.TrailLemmas.{decisions-push}
use Rattle.craig_watch.proofs.LevelsLemmas.{levels-rise, levels-present}
use Rattle.craig_analyze.specs.Resolvent.{at_place}
use Rattle.craig_analyze.proofs.PlaceLemmas.{entry_of-found}

decisions-le : (t : Trail) (i j : ℕ) → i ≤ j → decisions (take i t) ≤ decisions (take j t)
decisions-le t i j le =
    let less : decisions (take i (take j t)) ≤ decisions (take j t) = sum_by-take-le (λ (f : TrailEntry). cond (is_none f.reason) 1 0) (take j t) i in
    let same : take i (take j t) ≡ take i t = take-take i j t le in
    subst (λ (u : Trail). decisions u ≤ decisions (take j t)) same less

-- the entry at a place is one more decision, or none
decisions-next : (t : Trail) (k : ℕ) → k < length t → decisions (take (suc k) t) ≡ decisions (take k t) + cond (is_none (at_place t k).reason) 1 0
decisions-next t k w = ap decisions (take-suc t k any_entry w) ∙ decisions-push (take k t) (at_place t k)

-- levels rise along the trail
pub level-le : (t : Trail) (i j : ℕ) → AreLevels t → i ≤ j → j < length t → (at_place t i).level ≤ (at_place t j).level
level-le t i j levels le w = levels-rise t levels i j any_entry le w

some-cases : {A : Type 0} (o : Option A) → (is_none o ≡ true → ⊥) → IsSome o
some-cases None h = absurd (h refl)
some-cases (Some x) h = refl

-- the first literal of a level above 0 alone has no reason
pub reason-first : (t : Trail) (k : ℕ) → AreLevels t → k < length t → ((at_place t k).level ≡ 0) ⊎ ((j : ℕ) × (j < k) × ((at_place t j).level ≡ (at_place t k).level)) → IsSome (at_place t k).reason
reason-first t k levels w h = some-cases (at_place t k).reason (λ none.
    let is : (at_place t k).level ≡ decisions (take (suc k) t) = levels k any_entry w in
    let next : decisions (take (suc k) t) ≡ decisions (take k t) + cond (is_none (at_place t k).reason) 1 0 = decisions-next t k w in
    let one : cond {A = ℕ} (is_none (at_place t k).reason) 1 0 ≡ 1 = ap (λ (b : Bool). cond {A = ℕ} b 1 0) none in
    elim h [
      | inl zero_level ↦ let z : (at_place t k).level ≡ 0 = zero_level in omega arith
      | inr earlier ↦
          let j : ℕ = earlier.0 in
          let low : j < k = earlier.1 in
          let same : (at_place t j).level ≡ (at_place t k).level = earlier.2 in
          let j_is : (at_place t j).level ≡ decisions (take (suc j) t) = levels j any_entry (omega arith) in
          let up : decisions (take (suc j) t) ≤ decisions (take k t) = decisions-le t (suc j) k (omega arith) in
          omega arith
    ])

at_most-cases : (o : Option TrailEntry) (t : Trail) (l : Literal) (n : ℕ) → entry_of t l.var ≡ o → ((k : ℕ) → k < length t → (at_place t k).level ≤ n) → option_map_or (λ e. e.level) o 0 ≤ n
at_most-cases None t l n is h = omega arith
at_most-cases (Some e) t l n is h =
    let place = entry_of-found t l.var e is in
    subst (λ (f : TrailEntry). f.level ≤ n) place.2 (h place.0 place.1)

-- the level of a literal is at most the present one
pub level_at-le : (h : HeldView) (l : Literal) → IsConsistent h → level_at h.trail l ≤ h.level
level_at-le h l ok = at_most-cases (entry_of h.trail l.var) h.trail l h.level refl (λ k w. levels-present h ok k any_entry w)

level_of-cases : (o : Option TrailEntry) (n : ℕ) → option_map (λ e. e.level) o ≡ Some n → n ≡ option_map_or (λ e. e.level) o 0
level_of-cases None n h = absurd (let no : None ≡ Some n = h in cc)
level_of-cases (Some e) n h = let is : Some e.level ≡ Some n = h in cc

-- the level that is told of a variable
pub level_of-is : (t : Trail) (l : Literal) (v n : ℕ) → v ≡ l.var → option_map (λ e. e.level) (entry_of t v) ≡ Some n → n ≡ level_at t l
level_of-is t l v n same h = level_of-cases (entry_of t l.var) n (subst (λ (w : ℕ). option_map (λ e. e.level) (entry_of t w) ≡ Some n) same h)

pub reason_of-cases : {A : Type 0} (o : Option TrailEntry) (r : A) (f : TrailEntry → A) (e : TrailEntry) → o ≡ Some e → option_map f o ≡ Some r → r ≡ f e
reason_of-cases None r f e is h = absurd (let no : None ≡ Some r = h in cc)
reason_of-cases (Some g) r f e is h =
    let same : g ≡ e = cc in
    let value : Some (f g) ≡ Some r = h in
    let back : r ≡ f g = cc in
    back ∙ ap f same

-- a level between 0 and the present one
pub inner-level : (h : HeldView) (l : Literal) (n : ℕ) → IsConsistent h → n ≡ level_at h.trail l → n ≢ 0 → n ≢ h.level → (0 < level_at h.trail l) × (level_at h.trail l < h.level)
inner-level h l n ok is not_zero not_present =
    let le : level_at h.trail l ≤ h.level = level_at-le h l ok in
    (omega arith, omega arith)

-- the literal that is read at a place of the trail's literals
pub literal-read : (t : Trail) (xs : Clause) (place : ℕ) (x : Literal) → xs ≡ map (λ e. e.literal) t → place < length t → x ≡ get_or xs place x → x ≡ (at_place t place).literal
literal-read t xs place x same within is =
    is ∙ ap (λ (ys : Clause). get_or ys place x) same ∙ get_or-map (λ (e : TrailEntry). e.literal) t place any_entry x within

-- where the greatest place is of level 0, all are
pub all-root : (t : Trail) (places : List ℕ) (top : ℕ) → AreLevels t → All (λ p. p < length t) places → top ≡ get_or places 0 top → All (λ p. p ≤ top) places → (at_place t top).level ≡ 0 → All (λ p. (at_place t p).level ≡ 0) places
all-root t places top levels inside first below is k d w =
    let p : ℕ = get_or places k d in
    let le : p ≤ top = below k d w in
    let front : get_or places 0 top < length t = inside 0 top (omega arith) in
    let within : top < length t = omega arith in
    let up : (at_place t p).level ≤ (at_place t top).level = level-le t p top levels le within in
    omega arith
