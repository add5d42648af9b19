-- The literals on a trail and their entries.
use Rattle.std.proofs.Common.{◌≡◌, ℕ, ◌+◌, ◌-◌, ◌<◌, ◌≤◌, List, length, get_or, take, drop, map, All, Option, Some, None, refl, sym, ap, subst, ◌∙◌, arith}
use Rattle.std.specs.Option.{is_some, option_map}
use Rattle.std.proofs.lemmas.List.{get_or-drop, get_or-map, length-drop, length-map, take_rest}
use Rattle.std.proofs.lemmas.List.Elements.{All-drop, All-map, All-same, All-take}
use Rattle.craig_spec.specs.Literal.{Literal}
use Rattle.craig_watch.specs.declared.trail_entry.TrailEntry.{TrailEntry}
use Rattle.craig_watch.specs.Trail.{Trail, IsAssigned, any_entry, entry_of}
use Rattle.craig_watch.specs.LawsOfTrails.{EntriesOfVariablesHavePlaces}

-- the entry at each place is that of its variable
abbrev pub HasEntry : Trail → ℕ → Type 0
HasEntry t k = (d : TrailEntry) → entry_of t (get_or t k d).literal.var ≡ Some (get_or t k d)

-- the variable that stands at a place of the list of the literals
var-at : (t : Trail) (xs : List Literal) (k v : ℕ) (l : Literal) → xs ≡ map (λ e. e.literal) t → k < length t → l ≡ get_or xs k l → v ≡ l.var → (d : TrailEntry) → v ≡ (get_or t k d).literal.var
var-at t xs k v l literals within at var d =
    var ∙ ap (λ (m : Literal). m.var) (at ∙ ap (λ (ys : List Literal). get_or ys k l) literals ∙ get_or-map (λ (e : TrailEntry). e.literal) t k d l within)

pub entry-at : (t : Trail) (xs : List Literal) (k v : ℕ) (l : Literal) → HasEntry t k → xs ≡ map (λ e. e.literal) t → k < length t → l ≡ get_or xs k l → v ≡ l.var → (d : TrailEntry) → entry_of t v ≡ Some (get_or t k d)
entry-at t xs k v l has literals within at var d = ap (entry_of t) (var-at t xs k v l literals within at var d) ∙ has d

-- it is assigned
pub assigned-at : (t : Trail) (xs : List Literal) (k v : ℕ) (l : Literal) → HasEntry t k → xs ≡ map (λ e. e.literal) t → k < length t → l ≡ get_or xs k l → v ≡ l.var → IsAssigned t v
assigned-at t xs k v l has literals within at var = ap (λ (o : Option TrailEntry). is_some o) (entry-at t xs k v l has literals within at var any_entry)

-- and the level that is found for it is that of the entry
pub level-at : (t : Trail) (xs : List Literal) (k v r : ℕ) (l : Literal) → HasEntry t k → xs ≡ map (λ e. e.literal) t → k < length t → l ≡ get_or xs k l → v ≡ l.var → option_map (λ e. e.level) (entry_of t v) ≡ Some r → (d : TrailEntry) → (get_or t k d).level ≡ r
level-at t xs k v r l has literals within at var found d =
    let same : Some (get_or t k d).level ≡ Some r = sym (ap (option_map (λ (e : TrailEntry). e.level)) (entry-at t xs k v l has literals within at var d)) ∙ found in
    cc

-- the level that is found for a variable is one of the trail
level-found : (o : Option TrailEntry) (n : ℕ) → option_map (λ e. e.level) o ≡ Some n → (e : TrailEntry) × (o ≡ Some e) × (e.level ≡ n)
level-found None n is = absurd (let no : None ≡ Some n = is in cc)
level-found (Some e) n is = (e, refl, (let same : Some e.level ≡ Some n = is in cc))

pub level-low : (t : Trail) (top v n : ℕ) → EntriesOfVariablesHavePlaces t → All (λ e. e.level ≤ top) t → option_map (λ e. e.level) (entry_of t v) ≡ Some n → n ≤ top
level-low t top v n places low is =
    let found = level-found (entry_of t v) n is in
    let at = places v found.0 found.1 in
    subst (λ (m : ℕ). m ≤ top) found.2 (subst (λ (e : TrailEntry). e.level ≤ top) (at.3 found.0) (low at.0 found.0 at.1))

-- what holds of each literal from a place on
pub from_place : (P : Literal → Type 0) (t : Trail) (xs ys : List Literal) (place : ℕ) → xs ≡ map (λ e. e.literal) t → ys ≡ take (length xs - place) (drop place xs) → place ≤ length t → All P ys → (k : ℕ) (d : TrailEntry) → place ≤ k → k < length t → P (get_or t k d).literal
from_place P t xs ys place literals part low all k d after within =
    let rest : ys ≡ drop place xs = part ∙ take_rest xs place in
    let same : length xs ≡ length t = ap (λ (zs : List Literal). length zs) literals ∙ length-map t (λ (e : TrailEntry). e.literal) in
    let size : length ys ≡ length xs - place = ap (λ (zs : List Literal). length zs) rest ∙ length-drop place xs in
    let inside : k - place < length ys = omega arith in
    let here : P (get_or ys (k - place) d.literal) = all (k - place) d.literal inside in
    let sum : place + (k - place) ≡ k = omega arith in
    let at : get_or ys (k - place) d.literal ≡ get_or xs k d.literal = ap (λ (zs : List Literal). get_or zs (k - place) d.literal) rest ∙ get_or-drop place xs (k - place) d.literal ∙ ap (λ (n : ℕ). get_or xs n d.literal) sum in
    let entry : get_or xs k d.literal ≡ (get_or t k d).literal = ap (λ (zs : List Literal). get_or zs k d.literal) literals ∙ get_or-map (λ (e : TrailEntry). e.literal) t k d d.literal within in
    subst P (at ∙ entry) here

-- and what holds of all literals on the trail
pub on_part : (P : Literal → Type 0) (t : Trail) (xs : List Literal) (n place : ℕ) → xs ≡ map (λ e. e.literal) t → All (λ e. P e.literal) t → All P (take n (drop place xs))
on_part P t xs n place literals all =
    All-take P n (drop place xs) (All-drop P place xs (All-same P xs (map (λ (e : TrailEntry). e.literal) t) literals (All-map P (λ (e : TrailEntry). e.literal) t all)))
