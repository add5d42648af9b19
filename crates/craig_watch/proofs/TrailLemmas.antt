-- Trails: what the entries of variables and the parts up to a level are.
use Rattle.std.proofs.Common.{◌≡◌, ◌≢◌, ◌⊎◌, inl, inr, ℕ, suc, zero, ◌+◌, ◌<◌, ◌≤◌, Bool, true, false, cond, eqb, leb, List, [], ◌∷◌, ◌++◌, length, get_or, take, All, AllPairs, Option, Some, None, refl, map, is_none, sym, ap, subst, ◌∙◌, arith, ne_eqb, eqb-true, leb-true, leb-false}
use Rattle.std.specs.List.{list_any}
use Rattle.std.specs.Option.{option_map_or}
use Rattle.std.proofs.lemmas.Grind.{common_steps}
use Rattle.std.proofs.lemmas.Bool.{eqb-false}
use Rattle.std.proofs.lemmas.Bool.Decides.{leb_tells, Decides-eqb}
use Rattle.std.proofs.lemmas.List.{length_push, take-append-le, take_all, get_or_append_left, get_or-map, length-map}
use Rattle.std.proofs.lemmas.List.Elements.{All-map}
use Rattle.std.proofs.lemmas.List.Sums.{sum_by-append, sum_by-take-le}
use Rattle.std.proofs.lemmas.List.Folds.{Any-from_list_any}
use Rattle.std.proofs.lemmas.Map.Made.{IsDistinct-from_AllPairs}
use Rattle.std.proofs.lemmas.Map.Steps.{length-le_from_distinct_below}
use Rattle.std.proofs.Math.Seq.{get_or-append_seam, take-suc}
use Rattle.craig_spec.specs.Literal.{Literal}
use Rattle.craig_watch.specs.declared.trail_entry.TrailEntry.{TrailEntry}
use Rattle.craig_watch.specs.declared.value.Value.{Value}
use Rattle.craig_watch.specs.declared.value.Value.TheVariants.{True, False, Free}
use Rattle.craig_watch.specs.Trail.{Trail, any_entry, entry_of, value_beside, value_under, part_up_to, decisions, AreLevels, AreDistinct}

-- a variable of no entry
pub entry_of-absent : (t : Trail) (v : ℕ) → ((k : ℕ) (d : TrailEntry) → k < length t → (get_or t k d).literal.var ≢ v) → entry_of t v ≡ None
entry_of-absent [] v h = refl
entry_of-absent (e ∷ t) v h =
    let ne : eqb e.literal.var v ≡ false = ne_eqb e.literal.var v (h 0 e (omega arith)) in
    rw ne (entry_of-absent t v (λ k d w. h (suc k) d (omega arith)))

-- no entry has the variable
absent-cases : (b : Bool) (f : TrailEntry) (t : Trail) (v : ℕ) → eqb f.literal.var v ≡ b → cond b (Some f) (entry_of t v) ≡ None → (entry_of t v ≡ None → (k : ℕ) (d : TrailEntry) → k < length t → (get_or t k d).literal.var ≢ v) → (k : ℕ) (d : TrailEntry) → k < length (f ∷ t) → (get_or (f ∷ t) k d).literal.var ≢ v
absent-cases true f t v is h rest k d w e = absurd (let no : Some f ≡ None = h in cc)
absent-cases false f t v is h rest zero d w e = eqb-false f.literal.var v is e
absent-cases false f t v is h rest (suc k) d w e = rest h k d (omega arith) e

pub absent-entry_of : (t : Trail) (v : ℕ) → entry_of t v ≡ None → (k : ℕ) (d : TrailEntry) → k < length t → (get_or t k d).literal.var ≢ v
absent-entry_of [] v h k d w e = absurd (omega arith)
absent-entry_of (f ∷ t) v h k d w e = absent-cases (eqb f.literal.var v) f t v refl h (absent-entry_of t v) k d w e

eqb-same : (n : ℕ) → eqb n n ≡ true
eqb-same n = grind (arith, common_steps)

-- the variable of an entry
pub entry_of-at : (t : Trail) (k : ℕ) (d : TrailEntry) → AreDistinct t → k < length t → entry_of t (get_or t k d).literal.var ≡ Some (get_or t k d)
entry_of-at [] k d apart w = absurd (omega arith)
entry_of-at (e ∷ t) zero d apart w = rw (eqb-same e.literal.var) refl
entry_of-at (e ∷ t) (suc k) d apart w =
    let ne : eqb e.literal.var (get_or t k d).literal.var ≡ false = ne_eqb _ _ (apart 0 (suc k) d (omega arith) w) in
    rw ne (entry_of-at t k d (λ i j f before within. apart (suc i) (suc j) f (omega arith) (omega arith)) (omega arith))

-- one entry more, where the variable had one
pub entry_of-push : (t : Trail) (e f : TrailEntry) (v : ℕ) → entry_of t v ≡ Some f → entry_of (t ++ e ∷ []) v ≡ Some f
entry_of-push [] e f v h = grind (arith, common_steps)
entry_of-push (g ∷ t) e f v h = elim (eqb g.literal.var v) as (λ b. cond b (Some g) (entry_of t v) ≡ Some f → cond b (Some g) (entry_of (t ++ e ∷ []) v) ≡ Some f) [ true ↦ λ h. h | false ↦ λ h. entry_of-push t e f v h ] h

-- the entry in a part is that of the whole, or the variable isn't assigned there
pub entry_of-part : (level : ℕ) (t : Trail) (v : ℕ) → (entry_of (part_up_to level t) v ≡ None) ⊎ (entry_of (part_up_to level t) v ≡ entry_of t v)
entry_of-part level [] v = inl refl
entry_of-part level (e ∷ t) v =
    elim (leb e.level level) as (λ b. (entry_of (cond b (e ∷ part_up_to level t) []) v ≡ None) ⊎ (entry_of (cond b (e ∷ part_up_to level t) []) v ≡ cond (eqb e.literal.var v) (Some e) (entry_of t v))) [
      | true ↦ elim (eqb e.literal.var v) as (λ b. (cond b (Some e) (entry_of (part_up_to level t) v) ≡ None) ⊎ (cond b (Some e) (entry_of (part_up_to level t) v) ≡ cond b (Some e) (entry_of t v))) [ true ↦ inr refl | false ↦ entry_of-part level t v ]
      | false ↦ inl refl
    ]

-- a variable that was assigned above the level isn't assigned in the part up to it
part_above-cases : (b s : Bool) (level : ℕ) (e : TrailEntry) (t : Trail) (v : ℕ) (f : TrailEntry) → leb e.level level ≡ b → eqb e.literal.var v ≡ s → cond s (Some e) (entry_of t v) ≡ Some f → level < f.level → (entry_of t v ≡ Some f → entry_of (part_up_to level t) v ≡ None) → entry_of (cond b (e ∷ part_up_to level t) []) v ≡ None
part_above-cases false s level e t v f below same h above rest = refl
part_above-cases true true level e t v f below same h above rest = absurd (let is : e ≡ f = cc in let low : e.level ≤ level = leb-true e.level level below in let high : level < e.level = subst (λ (x : TrailEntry). level < x.level) (sym is) above in omega arith)
part_above-cases true false level e t v f below same h above rest = rw same (rest h)

pub entry_of-part_above : (level : ℕ) (t : Trail) (v : ℕ) (f : TrailEntry) → entry_of t v ≡ Some f → level < f.level → entry_of (part_up_to level t) v ≡ None
entry_of-part_above level [] v f h above = refl
entry_of-part_above level (e ∷ t) v f h above = part_above-cases (leb e.level level) (eqb e.literal.var v) level e t v f refl refl h above (λ h. entry_of-part_above level t v f h above)

-- a literal above the level doesn't change the part
pub part_up_to-push : (level : ℕ) (t : Trail) (e : TrailEntry) → level < e.level → part_up_to level (t ++ e ∷ []) ≡ part_up_to level t
part_up_to-push level [] e above = let no : leb e.level level ≡ false = grind (arith, common_steps) in rw no refl
part_up_to-push level (f ∷ t) e above = rw (part_up_to-push level t e above) refl

-- a trail without levels above is its own part
pub part_up_to-whole : (level : ℕ) (t : Trail) → All (λ e. e.level ≤ level) t → part_up_to level t ≡ t
part_up_to-whole level [] h = refl
part_up_to-whole level (e ∷ t) h =
    let first : e.level ≤ level = h 0 e (omega arith) in
    let yes : leb e.level level ≡ true = grind (arith, common_steps) in
    rw (yes, part_up_to-whole level t (λ k d w. h (suc k) d (omega arith))) refl

-- the part up to a lower level of a part is the part up to that level
part_twice-cases : (b s : Bool) (l m : ℕ) (e : TrailEntry) (t : Trail) → leb e.level m ≡ b → leb e.level l ≡ s → l ≤ m → part_up_to l (part_up_to m t) ≡ part_up_to l t → part_up_to l (cond b (e ∷ part_up_to m t) []) ≡ cond s (e ∷ part_up_to l t) []
part_twice-cases true true l m e t high low le rest = rw (low, rest) refl
part_twice-cases true false l m e t high low le rest = rw low refl
part_twice-cases false true l m e t high low le rest = absurd (let lo : e.level ≤ l = leb-true e.level l low in let hi : m < e.level = leb-false e.level m high in omega arith)
part_twice-cases false false l m e t high low le rest = refl

pub part_up_to-twice : (l m : ℕ) (t : Trail) → l ≤ m → part_up_to l (part_up_to m t) ≡ part_up_to l t
part_up_to-twice l m [] le = refl
part_up_to-twice l m (e ∷ t) le = part_twice-cases (leb e.level m) (leb e.level l) l m e t refl refl le (part_up_to-twice l m t le)

-- an assigned literal isn't free, by its sign and that of the entry
pub beside-cases : (a b : Bool) → cond a (cond b True False) (cond b False True) ≢ Free
beside-cases true true e = let no : True ≡ Free = e in cc
beside-cases true false e = let no : False ≡ Free = e in cc
beside-cases false true e = let no : False ≡ Free = e in cc
beside-cases false false e = let no : True ≡ Free = e in cc

free-cases : (o : Option TrailEntry) (l : Literal) → option_map_or (λ e. value_beside e.literal l) o Free ≡ Free → o ≡ None
free-cases None l h = refl
free-cases (Some e) l h = absurd (beside-cases e.literal.negated l.negated h)

-- the variable of a free literal has no entry
pub entry_of-free : (t : Trail) (l : Literal) → value_under t l ≡ Free → entry_of t l.var ≡ None
entry_of-free t l h = free-cases (entry_of t l.var) l h

-- where two trails have the same entry of its variable, a literal has the same value
pub value_under-same : (t u : Trail) (l : Literal) → entry_of t l.var ≡ entry_of u l.var → value_under t l ≡ value_under u l
value_under-same t u l h = ap (λ (o : Option TrailEntry). option_map_or (λ e. value_beside e.literal l) o Free) h

-- and where there is none it is free
pub value_under-absent : (t : Trail) (l : Literal) → entry_of t l.var ≡ None → value_under t l ≡ Free
value_under-absent t l h = ap (λ (o : Option TrailEntry). option_map_or (λ e. value_beside e.literal l) o Free) h

-- so its value in a part is that in the whole, or it is free there
pub value_under-part : (level : ℕ) (t : Trail) (l : Literal) → (value_under (part_up_to level t) l ≡ Free) ⊎ (value_under (part_up_to level t) l ≡ value_under t l)
value_under-part level t l =
    elim (entry_of-part level t l.var) [ inl h ↦ inl (value_under-absent (part_up_to level t) l h) | inr h ↦ inr (value_under-same (part_up_to level t) t l h) ]

-- a free literal is free in each part
pub value_under-part_free : (level : ℕ) (t : Trail) (l : Literal) → value_under t l ≡ Free → value_under (part_up_to level t) l ≡ Free
value_under-part_free level t l h = elim (value_under-part level t l) [ inl e ↦ e | inr e ↦ e ∙ h ]

-- what is false or true stays so when the trail gets longer
pub value_under-push : (t : Trail) (e : TrailEntry) (l : Literal) (v : Value) → v ≢ Free → value_under t l ≡ v → value_under (t ++ e ∷ []) l ≡ v
value_under-push t e l v ne h =
    elim (entry_of t l.var) as (λ o. entry_of t l.var ≡ o → value_under (t ++ e ∷ []) l ≡ v) [
      | None ↦ λ is. absurd (ne (sym h ∙ value_under-absent t l is))
      | Some f ↦ λ is. value_under-same (t ++ e ∷ []) t l (entry_of-push t e f l.var is ∙ sym is) ∙ h
    ] refl

-- one entry more or less
pub get_or-last : (t : Trail) (e : TrailEntry) (k : ℕ) (d : TrailEntry) → k ≡ length t → get_or (t ++ e ∷ []) k d ≡ e
get_or-last t e k d is = ap (λ (j : ℕ). get_or (t ++ e ∷ []) j d) is ∙ get_or-append_seam t e [] d

-- what holds of each entry with what stands before it, and of one more, holds of all
pub each_push : (P : Trail → TrailEntry → Type 0) (t : Trail) (e : TrailEntry) → ((k : ℕ) (d : TrailEntry) → k < length t → P (take k t) (get_or t k d)) → P t e → (k : ℕ) (d : TrailEntry) → k < length (t ++ e ∷ []) → P (take k (t ++ e ∷ [])) (get_or (t ++ e ∷ []) k d)
each_push P t e h last k d w =
    let long : length (t ++ e ∷ []) ≡ length t + 1 = length_push t e in
    elim (leb_tells (suc k) (length t)) [
      | inl here ↦
          let within : k < length t = here.1 in
          subst (λ (u : Trail). P u (get_or (t ++ e ∷ []) k d)) (sym (take-append-le k t (e ∷ []) (omega arith)))
          (subst (λ (f : TrailEntry). P (take k t) f) (sym (get_or_append_left t (e ∷ []) d k within)) (h k d within))
      | inr gone ↦
          let past : length t < suc k = gone.1 in
          let is : k ≡ length t = omega arith in
          subst (λ (u : Trail). P u (get_or (t ++ e ∷ []) k d)) (sym (take-append-le k t (e ∷ []) (omega arith) ∙ take_all k t (omega arith)))
          (subst (λ (f : TrailEntry). P t f) (sym (get_or-last t e k d is)) last)
    ]

-- and the way back
pub each_popped : (P : Trail → TrailEntry → Type 0) (t : Trail) (e : TrailEntry) → ((k : ℕ) (d : TrailEntry) → k < length (t ++ e ∷ []) → P (take k (t ++ e ∷ [])) (get_or (t ++ e ∷ []) k d)) → (k : ℕ) (d : TrailEntry) → k < length t → P (take k t) (get_or t k d)
each_popped P t e h k d w =
    let long : length (t ++ e ∷ []) ≡ length t + 1 = length_push t e in
    subst (λ (u : Trail). P u (get_or t k d)) (take-append-le k t (e ∷ []) (omega arith))
    (subst (λ (f : TrailEntry). P (take k (t ++ e ∷ [])) f) (get_or_append_left t (e ∷ []) d k w) (h k d (omega arith)))

-- the decisions of one entry
pub decisions-one : (e : TrailEntry) → decisions (e ∷ []) ≡ cond (is_none e.reason) 1 0
decisions-one e = grind (arith, common_steps)

-- a decision is one more, and no other entry is
pub decisions-push : (t : Trail) (e : TrailEntry) → decisions (t ++ e ∷ []) ≡ decisions t + cond (is_none e.reason) 1 0
decisions-push t e = sum_by-append (λ (f : TrailEntry). cond (is_none f.reason) 1 0) t (e ∷ []) ∙ ap (λ (n : ℕ). decisions t + n) (decisions-one e)

-- the level of each entry by what stands before it
abbrev level_before : Trail → TrailEntry → Type 0
level_before t e = e.level ≡ decisions t + cond (is_none e.reason) 1 0

pub levels-before : (t : Trail) → AreLevels t → (k : ℕ) (d : TrailEntry) → k < length t → level_before (take k t) (get_or t k d)
levels-before t h k d w = h k d w ∙ ap decisions (take-suc t k d w) ∙ decisions-push (take k t) (get_or t k d)

levels-from_before : (t : Trail) → ((k : ℕ) (d : TrailEntry) → k < length t → level_before (take k t) (get_or t k d)) → AreLevels t
levels-from_before t h k d w = h k d w ∙ sym (ap decisions (take-suc t k d w) ∙ decisions-push (take k t) (get_or t k d))

pub AreLevels-push : (t : Trail) (e : TrailEntry) → AreLevels t → e.level ≡ decisions (t ++ e ∷ []) → AreLevels (t ++ e ∷ [])
AreLevels-push t e h is = levels-from_before (t ++ e ∷ []) (each_push level_before t e (levels-before t h) (is ∙ decisions-push t e))

pub AreLevels-popped : (t : Trail) (e : TrailEntry) → AreLevels (t ++ e ∷ []) → AreLevels t
AreLevels-popped t e h = levels-from_before t (each_popped level_before t e (levels-before (t ++ e ∷ []) h))

-- no level is above the number of decisions
pub levels-bounded : (t : Trail) → AreLevels t → All (λ e. e.level ≤ decisions t) t
levels-bounded t h k d w =
    let is : (get_or t k d).level ≡ decisions (take (suc k) t) = h k d w in
    let le : decisions (take (suc k) t) ≤ decisions t = sum_by-take-le (λ (f : TrailEntry). cond (is_none f.reason) 1 0) t (suc k) in
    omega arith

-- the level of the last entry is the number of decisions
pub level-last : (t : Trail) (e : TrailEntry) → AreLevels (t ++ e ∷ []) → e.level ≡ decisions (t ++ e ∷ [])
level-last t e h =
    let long : length (t ++ e ∷ []) ≡ length t + 1 = length_push t e in
    let is = h (length t) e (omega arith) in
    ap (λ (f : TrailEntry). f.level) (sym (get_or-last t e (length t) e refl)) ∙ is ∙ ap decisions (take_all (suc (length t)) (t ++ e ∷ []) (omega arith))

pairs-map : (t : Trail) → AreDistinct t → AllPairs (λ x y. x ≢ y) (map (λ (e : TrailEntry). e.literal.var) t)
pairs-map t apart i j d before within e =
    let long : length (map (λ (e : TrailEntry). e.literal.var) t) ≡ length t = length-map t (λ (e : TrailEntry). e.literal.var) in
    let at_i : get_or (map (λ (e : TrailEntry). e.literal.var) t) i d ≡ (get_or t i any_entry).literal.var = get_or-map (λ (e : TrailEntry). e.literal.var) t i any_entry d (omega arith) in
    let at_j : get_or (map (λ (e : TrailEntry). e.literal.var) t) j d ≡ (get_or t j any_entry).literal.var = get_or-map (λ (e : TrailEntry). e.literal.var) t j any_entry d (omega arith) in
    apart i j any_entry before (omega arith) (sym at_i ∙ e ∙ at_j)

pub at_most_one : (b : Bool) → cond b 1 0 ≤ 1
at_most_one true = omega arith
at_most_one false = omega arith

-- a member of numbers below a bound is below it
pub member-below : (n : ℕ) (xs : List ℕ) (q : ℕ) → All (λ x. x < n) xs → list_any (eqb q) xs ≡ true → q < n
member-below n xs q small is =
    let m = Any-from_list_any (eqb q) xs is in
    let low : get_or xs m.0 m.1 < n = small m.0 m.1 m.2 in
    let same : q ≡ m.1 = eqb-true q m.1 m.4 in
    omega (arith, same, m.3, low)

-- different variables below a bound are no more than the bound
pub length-le_from_known : (t : Trail) (vars : ℕ) → All (λ e. e.literal.var < vars) t → AreDistinct t → length t ≤ vars
length-le_from_known t vars known apart =
    let xs : List ℕ = map (λ (e : TrailEntry). e.literal.var) t in
    let long : length xs ≡ length t = length-map t (λ (e : TrailEntry). e.literal.var) in
    let small : All (λ x. x < vars) xs = All-map (λ x. x < vars) (λ (e : TrailEntry). e.literal.var) t known in
    let pairs : AllPairs (λ x y. x ≢ y) xs = pairs-map t apart in
    let few : length xs ≤ vars = length-le_from_distinct_below xs vars (IsDistinct-from_AllPairs Decides-eqb xs pairs) (λ q is. member-below vars xs q small is) in
    omega arith
