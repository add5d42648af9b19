-- Entries of a trail, their places, and the values that they give.
use Rattle.std.proofs.Common.{◌≡◌, ◌≢◌, ℕ, suc, zero, ◌<◌, ◌≤◌, Bool, true, false, cond, not, eqb, [], ◌∷◌, ◌++◌, length, get_or, take, Option, Some, None, refl, sym, ap, ◌∙◌, arith, eqb-true}
use Rattle.std.specs.Option.{option_map_or}
use Rattle.std.proofs.lemmas.List.{get_or-take, length-take-le}
use Rattle.craig_spec.specs.Literal.{Literal, negation}
use Rattle.craig_watch.specs.declared.trail_entry.TrailEntry.{TrailEntry}
use Rattle.craig_watch.specs.declared.value.Value.{Value}
use Rattle.craig_watch.specs.declared.value.Value.TheVariants.{True, False, Free}
use Rattle.craig_watch.specs.Trail.{Trail, entry_of, value_beside, value_under, IsFalse, AreDistinct}
use Rattle.craig_watch.proofs.TrailLemmas.{entry_of-at, value_under-same}

-- where an entry stands, and its variable
place-cases : (b : Bool) (f : TrailEntry) (t : Trail) (v : ℕ) (e : TrailEntry) → eqb f.literal.var v ≡ b → cond b (Some f) (entry_of t v) ≡ Some e → (entry_of t v ≡ Some e → (k : ℕ) × (k < length t) × (e.literal.var ≡ v) × ((d : TrailEntry) → get_or t k d ≡ e)) → (k : ℕ) × (k < length (f ∷ t)) × (e.literal.var ≡ v) × ((d : TrailEntry) → get_or (f ∷ t) k d ≡ e)
place-cases true f t v e is found later =
    let same : f ≡ e = cc in
    (0, omega arith, ap (λ (g : TrailEntry). g.literal.var) (sym same) ∙ eqb-true f.literal.var v is, λ d. same)
place-cases false f t v e is found later = let p = later found in (suc p.0, omega (arith, p.1), p.2, p.3)

pub place-found : (t : Trail) (v : ℕ) (e : TrailEntry) → entry_of t v ≡ Some e → (k : ℕ) × (k < length t) × (e.literal.var ≡ v) × ((d : TrailEntry) → get_or t k d ≡ e)
place-found [] v e found = absurd (let no : None ≡ Some e = found in cc)
place-found (f ∷ t) v e found = place-cases (eqb f.literal.var v) f t v e refl found (place-found t v e)

-- an entry of the first places is that of the whole
take-cases : (b : Bool) (f : TrailEntry) (k : ℕ) (t : Trail) (v : ℕ) (e : TrailEntry) → cond b (Some f) (entry_of (take k t) v) ≡ Some e → (entry_of (take k t) v ≡ Some e → entry_of t v ≡ Some e) → cond b (Some f) (entry_of t v) ≡ Some e
take-cases true f k t v e found later = found
take-cases false f k t v e found later = later found

pub entry_of-take : (k : ℕ) (t : Trail) (v : ℕ) (e : TrailEntry) → entry_of (take k t) v ≡ Some e → entry_of t v ≡ Some e
entry_of-take zero t v e found = absurd (let no : None ≡ Some e = found in cc)
entry_of-take (suc k) [] v e found = found
entry_of-take (suc k) (f ∷ t) v e found = take-cases (eqb f.literal.var v) f k t v e found (entry_of-take k t v e)

-- and an entry stays when a trail gets longer
longer-cases : (b : Bool) (f : TrailEntry) (t u : Trail) (v : ℕ) (e : TrailEntry) → cond b (Some f) (entry_of t v) ≡ Some e → (entry_of t v ≡ Some e → entry_of (t ++ u) v ≡ Some e) → cond b (Some f) (entry_of (t ++ u) v) ≡ Some e
longer-cases true f t u v e found later = found
longer-cases false f t u v e found later = later found

pub entry_of-longer : (t u : Trail) (v : ℕ) (e : TrailEntry) → entry_of t v ≡ Some e → entry_of (t ++ u) v ≡ Some e
entry_of-longer [] u v e found = absurd (let no : None ≡ Some e = found in cc)
entry_of-longer (f ∷ t) u v e found = longer-cases (eqb f.literal.var v) f t u v e found (entry_of-longer t u v e)

-- a value that isn't free is that of an entry
entry-cases : (o : Option TrailEntry) (l : Literal) (v : Value) → option_map_or (λ e. value_beside e.literal l) o Free ≡ v → v ≢ Free → (e : TrailEntry) × (o ≡ Some e) × (value_beside e.literal l ≡ v)
entry-cases None l v is ne = absurd (ne (sym is))
entry-cases (Some e) l v is ne = (e, refl, is)

pub entry-valued : (t : Trail) (l : Literal) (v : Value) → value_under t l ≡ v → v ≢ Free → (e : TrailEntry) × (entry_of t l.var ≡ Some e) × (value_beside e.literal l ≡ v)
entry-valued t l v is ne = entry-cases (entry_of t l.var) l v is ne

-- the value stays when a trail gets longer
pub value_under-longer : (t u : Trail) (l : Literal) → value_under t l ≢ Free → value_under (t ++ u) l ≡ value_under t l
value_under-longer t u l ne =
    let e = entry-valued t l (value_under t l) refl ne in
    value_under-same (t ++ u) t l (entry_of-longer t u l.var e.0 e.1 ∙ sym e.1)

signs-true : (a b : Bool) → cond a (cond b True False) (cond b False True) ≡ True → a ≡ b
signs-true true true h = refl
signs-true true false h = absurd (let no : False ≡ True = h in cc)
signs-true false true h = absurd (let no : False ≡ True = h in cc)
signs-true false false h = refl

signs-false : (a b : Bool) → cond a (cond b True False) (cond b False True) ≡ False → a ≡ not b
signs-false true true h = absurd (let no : True ≡ False = h in cc)
signs-false true false h = refl
signs-false false true h = refl
signs-false false false h = absurd (let no : True ≡ False = h in cc)

-- the value beside the literal itself
pub beside-itself : (b : Bool) → cond b (cond b True False) (cond b False True) ≡ True
beside-itself true = refl
beside-itself false = refl

-- and beside its negation
pub beside-negation : (b : Bool) → cond (not b) (cond b True False) (cond b False True) ≡ False
beside-negation true = refl
beside-negation false = refl

true≢free : True ≢ Free
true≢free e = let no : True ≡ Free = e in cc

false≢free : False ≢ Free
false≢free e = let no : False ≡ Free = e in cc

-- a true literal is that of an entry, and of a false one its negation
pub entry-true : (t : Trail) (l : Literal) → value_under t l ≡ True → (e : TrailEntry) × (entry_of t l.var ≡ Some e) × (e.literal ≡ l)
entry-true t l is =
    let e = entry-valued t l True is true≢free in
    let var : e.0.literal.var ≡ l.var = (place-found t l.var e.0 e.1).2 in
    let sign : e.0.literal.negated ≡ l.negated = signs-true e.0.literal.negated l.negated e.2 in
    (e.0, e.1, λ i. record { var = var i; negated = sign i })

pub entry-false : (t : Trail) (l : Literal) → IsFalse t l → (e : TrailEntry) × (entry_of t l.var ≡ Some e) × (e.literal ≡ negation l)
entry-false t l is =
    let e = entry-valued t l False is false≢free in
    let var : e.0.literal.var ≡ l.var = (place-found t l.var e.0 e.1).2 in
    let sign : e.0.literal.negated ≡ not l.negated = signs-false e.0.literal.negated l.negated e.2 in
    (e.0, e.1, λ i. record { var = var i; negated = sign i })

value-entry : (t : Trail) (l : Literal) (e : TrailEntry) (v : Value) → entry_of t l.var ≡ Some e → value_beside e.literal l ≡ v → value_under t l ≡ v
value-entry t l e v found is = ap (λ (o : Option TrailEntry). option_map_or (λ f. value_beside f.literal l) o Free) found ∙ is

-- and the way back
pub true-entry : (t : Trail) (l : Literal) (e : TrailEntry) → entry_of t l.var ≡ Some e → e.literal ≡ l → value_under t l ≡ True
true-entry t l e found same = value-entry t l e True found (ap (λ (m : Literal). value_beside m l) same ∙ beside-itself l.negated)

pub false-entry : (t : Trail) (l : Literal) (e : TrailEntry) → entry_of t l.var ≡ Some e → e.literal ≡ negation l → IsFalse t l
false-entry t l e found same = value-entry t l e False found (ap (λ (m : Literal). value_beside m l) same ∙ beside-negation l.negated)

-- a literal is false under the first places exactly where its negation stands in one of them
pub place-false : (t : Trail) (k : ℕ) (l : Literal) → k ≤ length t → IsFalse (take k t) l → (j : ℕ) × (j < k) × ((d : TrailEntry) → (get_or t j d).literal ≡ negation l)
place-false t k l le falsified =
    let e = entry-false (take k t) l falsified in
    let p = place-found (take k t) l.var e.0 e.1 in
    let long : length (take k t) ≡ k = length-take-le k t le in
    let before : p.0 < k = omega (arith, p.1) in
    (p.0, before, λ d. ap (λ (f : TrailEntry). f.literal) (sym (get_or-take k t p.0 d before) ∙ p.3 d) ∙ e.2)

pub false-place : (t : Trail) (j : ℕ) (d : TrailEntry) (l : Literal) → AreDistinct t → j < length t → (get_or t j d).literal ≡ negation l → IsFalse t l
false-place t j d l apart within is =
    let var : (get_or t j d).literal.var ≡ l.var = ap (λ (m : Literal). m.var) is in
    let found : entry_of t l.var ≡ Some (get_or t j d) = ap (entry_of t) (sym var) ∙ entry_of-at t j d apart within in
    false-entry t l (get_or t j d) found is

-- what is false under the first places is false
pub IsFalse-take : (k : ℕ) (t : Trail) (l : Literal) → IsFalse (take k t) l → IsFalse t l
IsFalse-take k t l falsified =
    let e = entry-false (take k t) l falsified in
    false-entry t l e.0 (entry_of-take k t l.var e.0 e.1) e.2
