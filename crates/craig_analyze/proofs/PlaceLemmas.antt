-- What a trail says of a literal, by the place of its variable.
use Rattle.std.proofs.Common.{◌≡◌, ℕ, ◌<◌, length, get_or, take, Option, Some, IsSome, refl, sym, ap, subst, ◌∙◌, arith}
use Rattle.std.specs.Option.{option_map_or}
use Rattle.std.specs.List.{slice_get}
use Rattle.std.proofs.lemmas.List.{get_or-take, length-take}
use Rattle.std.proofs.lemmas.Option.{slice_get-get_or}
use Rattle.craig_spec.specs.Literal.{Literal, negation}
use Rattle.craig_spec.proofs.LiteralLemmas.{negation_twice}
use Rattle.craig_watch.specs.declared.trail_entry.TrailEntry.{TrailEntry}
use Rattle.craig_watch.specs.declared.value.Value.TheVariants.{True, False}
use Rattle.craig_watch.specs.Trail.{Trail, any_entry, entry_of, value_under, IsFalse, IsAssigned, AreDistinct, level_at}
use Rattle.craig_watch.proofs.TrailLemmas.{entry_of-at}
use Rattle.craig_watch.proofs.PlacesLemmas.{place-found, entry-false, false-entry, true-entry}
use Rattle.craig_analyze.specs.Resolvent.{at_place, negated_at}

-- an entry of the trail at a place
abbrev pub HasPlace : Trail → ℕ → TrailEntry → Type 0
HasPlace t v e = (k : ℕ) × (k < length t) × (at_place t k ≡ e) × (e.literal.var ≡ v)

pub entry_of-found : (t : Trail) (v : ℕ) (e : TrailEntry) → entry_of t v ≡ Some e → HasPlace t v e
entry_of-found t v e h = let p = place-found t v e h in (p.0, p.1, p.3 any_entry, p.2)

-- the entry of the variable at a place
pub entry_of-place : (t : Trail) (k : ℕ) → AreDistinct t → k < length t → entry_of t (at_place t k).literal.var ≡ Some (at_place t k)
entry_of-place t k apart w = entry_of-at t k any_entry apart w

-- two places of one variable are one
pub same_place : (t : Trail) (i j : ℕ) → AreDistinct t → i < length t → j < length t → (at_place t i).literal.var ≡ (at_place t j).literal.var → i ≡ j
same_place t i j apart iw jw e =
    let not_before : i < j → ⊥ = λ before. apart i j any_entry before jw e in
    let not_after : j < i → ⊥ = λ after. apart j i any_entry after iw (sym e) in
    omega (arith, not_before, not_after)

pub same_negated : (t : Trail) (i j : ℕ) → AreDistinct t → i < length t → j < length t → negated_at t i ≡ negated_at t j → i ≡ j
same_negated t i j apart iw jw e = same_place t i j apart iw jw (ap (λ (l : Literal). l.var) e)

-- a false literal is the negation of the one at a place
pub false-place : (t : Trail) (l : Literal) → IsFalse t l → (k : ℕ) × (k < length t) × (negated_at t k ≡ l)
false-place t l h =
    let e = entry-false t l h in
    let place = entry_of-found t l.var e.0 e.1 in
    (place.0, place.1, ap (λ (f : TrailEntry). negation f.literal) place.2 ∙ ap negation e.2 ∙ negation_twice l)

pub place-false : (t : Trail) (k : ℕ) → AreDistinct t → k < length t → IsFalse t (negated_at t k)
place-false t k apart w = false-entry t (negated_at t k) (at_place t k) (entry_of-place t k apart w) (sym (negation_twice (at_place t k).literal))

-- so the literal at a place isn't false
pub true-not_false : (t : Trail) (k : ℕ) → AreDistinct t → k < length t → ¬ IsFalse t (at_place t k).literal
true-not_false t k apart w h =
    let is : value_under t (at_place t k).literal ≡ True = true-entry t (at_place t k).literal (at_place t k) (entry_of-place t k apart w) refl in
    let no : True ≡ False = sym is ∙ h in
    cc

-- a false literal and its negation are not both false
pub false-not_both : (t : Trail) (l : Literal) → AreDistinct t → IsFalse t l → ¬ IsFalse t (negation l)
false-not_both t l apart h other =
    let place = false-place t l h in
    let e : (at_place t place.0).literal ≡ negation l = sym (negation_twice (at_place t place.0).literal) ∙ ap negation place.2 in
    true-not_false t place.0 apart place.1 (subst (IsFalse t) (sym e) other)

-- under what stands before a place
pub AreDistinct-take : (b : ℕ) (t : Trail) → AreDistinct t → AreDistinct (take b t)
AreDistinct-take b t apart i j d before within =
    let long = length-take b t in
    let at_i : get_or (take b t) i d ≡ get_or t i d = get_or-take b t i d (omega arith) in
    let at_j : get_or (take b t) j d ≡ get_or t j d = get_or-take b t j d (omega arith) in
    λ e. apart i j d before (omega arith) (ap (λ (f : TrailEntry). f.literal.var) (sym at_i) ∙ e ∙ ap (λ (f : TrailEntry). f.literal.var) at_j)

pub false-within : (b : ℕ) (t : Trail) (l : Literal) → IsFalse (take b t) l → (k : ℕ) × (k < b) × (k < length t) × (negated_at t k ≡ l)
false-within b t l h =
    let place = false-place (take b t) l h in
    let long = length-take b t in
    let low : place.0 < b = let w = place.1 in omega arith in
    let same : at_place (take b t) place.0 ≡ at_place t place.0 = get_or-take b t place.0 any_entry low in
    (place.0, low, (let w = place.1 in omega arith), ap (λ (f : TrailEntry). negation f.literal) (sym same) ∙ place.2)

pub within-false : (b : ℕ) (t : Trail) (k : ℕ) → AreDistinct t → k < b → k < length t → IsFalse (take b t) (negated_at t k)
within-false b t k apart low w =
    let long = length-take b t in
    let same : at_place (take b t) k ≡ at_place t k = get_or-take b t k any_entry low in
    subst (λ (f : TrailEntry). IsFalse (take b t) (negation f.literal)) same (place-false (take b t) k (AreDistinct-take b t apart) (omega arith))

-- a variable of a false literal is assigned
pub false-assigned : (t : Trail) (l : Literal) → IsFalse t l → IsAssigned t l.var
false-assigned t l h = let e = entry-false t l h in subst (λ (o : Option TrailEntry). IsSome o) (sym e.1) refl

pub place-assigned : (t : Trail) (k : ℕ) → AreDistinct t → k < length t → IsAssigned t (at_place t k).literal.var
place-assigned t k apart w = subst (λ (o : Option TrailEntry). IsSome o) (sym (entry_of-place t k apart w)) refl

-- the level of the literal at a place
pub level_at-place : (t : Trail) (k : ℕ) → AreDistinct t → k < length t → level_at t (negated_at t k) ≡ (at_place t k).level
level_at-place t k apart w = ap (λ (o : Option TrailEntry). option_map_or (λ e. e.level) o 0) (entry_of-place t k apart w)

-- the place that holds the entry of a false literal's variable
pub place-one : (t : Trail) (l : Literal) (k p : ℕ) → AreDistinct t → k < length t → p < length t → negated_at t k ≡ l → slice_get t p ≡ entry_of t l.var → p ≡ k
place-one t l k p apart kw pw is found =
    let at_p : Some (at_place t p) ≡ Some (at_place t k) =
    sym (slice_get-get_or t p any_entry pw) ∙ found ∙ sym (ap (λ (m : Literal). entry_of t m.var) is) ∙ entry_of-place t k apart kw in
    let same : at_place t p ≡ at_place t k = cc in
    same_place t p k apart pw kw (ap (λ (f : TrailEntry). f.literal.var) same)
