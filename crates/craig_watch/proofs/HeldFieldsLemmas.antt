-- The trail, from the literals in their order and what is noted of their variables.
use Rattle.std.proofs.Common.{◌≡◌, ◌≢◌, inl, inr, ℕ, suc, ◌+◌, ◌<◌, true, false, eqb, Bool, cond, All, List, [], ◌∷◌, ◌++◌, length, get_or, set, map, Option, Some, None, IsSome, refl, sym, ap, subst, ◌∙◌, arith, eqb-true}
use Rattle.std.proofs.lemmas.Bool.Decides.{leb_tells}
use Rattle.std.proofs.lemmas.List.{length_push, length-map, map-append, get_or-map, get_or_append_left, get_or-set_same, get_or-set_other}
use Rattle.craig_spec.specs.Literal.{Literal}
use Rattle.craig_watch.specs.declared.assignment.Assignment.{Assignment}
use Rattle.craig_watch.specs.declared.trail_entry.TrailEntry.{TrailEntry}
use Rattle.craig_watch.specs.Trail.{any_entry, Trail, entry_of}
use Rattle.craig_watch.specs.HeldFields.{IsPlaced, any_assignment, entry_in, entry_with, trail_of}
use Rattle.craig_watch.proofs.PlacesLemmas.{place-found}

-- what is noted of another variable
entry_in-other : (assignments : List Assignment) (v : ℕ) (a : Assignment) (l : Literal) → l.var ≢ v → entry_in (set assignments v a) l ≡ entry_in assignments l
entry_in-other assignments v a l ne = ap (entry_with l) (get_or-set_other assignments v l.var a any_assignment ne)

trail_of-other : (lits : List Literal) (assignments : List Assignment) (v : ℕ) (a : Assignment) → ((k : ℕ) (d : Literal) → k < length lits → (get_or lits k d).var ≢ v) → trail_of lits (set assignments v a) ≡ trail_of lits assignments
trail_of-other [] assignments v a apart = refl
trail_of-other (l ∷ lits) assignments v a apart = λ i. entry_in-other assignments v a l (apart 0 l (omega arith)) i ∷ trail_of-other lits assignments v a (λ k d w. apart (suc k) d (omega arith)) i

-- what is noted of more variables
pub trail_of-grown : (lits : List Literal) (assignments more : List Assignment) → ((k : ℕ) (d : Literal) → k < length lits → (get_or lits k d).var < length assignments) → ((k : ℕ) (d : Assignment) → k < length assignments → get_or more k d ≡ get_or assignments k d) → trail_of lits more ≡ trail_of lits assignments
trail_of-grown [] assignments more known old = refl
trail_of-grown (l ∷ lits) assignments more known old = λ i. entry_with l (old l.var any_assignment (known 0 l (omega arith)) i) ∷ trail_of-grown lits assignments more (λ k d w. known (suc k) d (omega arith)) old i

-- the literals of the trail
pub literals-of : (lits : List Literal) (assignments : List Assignment) → map (λ (e : TrailEntry). e.literal) (trail_of lits assignments) ≡ lits
literals-of [] assignments = refl
literals-of (l ∷ lits) assignments = λ i. l ∷ literals-of lits assignments i

pub length-trail_of : (lits : List Literal) (assignments : List Assignment) → length (trail_of lits assignments) ≡ length lits
length-trail_of lits assignments = length-map lits (entry_in assignments)

-- the entry at a place
pub entry-at : (lits : List Literal) (assignments : List Assignment) (k : ℕ) (d : TrailEntry) (e : Literal) → k < length lits → get_or (trail_of lits assignments) k d ≡ entry_in assignments (get_or lits k e)
entry-at lits assignments k d e w = get_or-map (entry_in assignments) lits k e d w

pub each-literal : (P : ℕ → Type 0) (lits : List Literal) (assignments : List Assignment) → All (λ e. P e.literal.var) (trail_of lits assignments) → (k : ℕ) (d : Literal) → k < length lits → P (get_or lits k d).var
each-literal P lits assignments all k d w =
    let long = length-trail_of lits assignments in
    subst (λ (e : TrailEntry). P e.literal.var) (entry-at lits assignments k any_entry d w) (all k any_entry (omega arith))

-- an entry more
pub trail_of-push : (lits : List Literal) (l : Literal) (assignments : List Assignment) → trail_of (lits ++ l ∷ []) assignments ≡ trail_of lits assignments ++ entry_in assignments l ∷ []
trail_of-push lits l assignments = map-append (entry_in assignments) lits (l ∷ [])

pub trail_of-pushed : (lits : List Literal) (e : TrailEntry) (assignments : List Assignment) (place : ℕ) → e.literal.var < length assignments → ((k : ℕ) (d : Literal) → k < length lits → (get_or lits k d).var ≢ e.literal.var) → trail_of (lits ++ e.literal ∷ []) (set assignments e.literal.var (record { place = place; level = e.level; reason = e.reason })) ≡ trail_of lits assignments ++ e ∷ []
trail_of-pushed lits e assignments place known apart =
    let a : Assignment = record { place = place; level = e.level; reason = e.reason } in
    trail_of-push lits e.literal (set assignments e.literal.var a)
    ∙ ap (λ (t : Trail). t ++ entry_in (set assignments e.literal.var a) e.literal ∷ []) (trail_of-other lits assignments e.literal.var a apart)
    ∙ ap (λ (b : Assignment). trail_of lits assignments ++ entry_with e.literal b ∷ []) (get_or-set_same assignments e.literal.var a any_assignment known)

last-at : (xs : List Literal) (x d : Literal) → get_or (xs ++ x ∷ []) (length xs) d ≡ x
last-at [] x d = refl
last-at (y ∷ xs) x d = last-at xs x d

pub IsPlaced-push : (lits : List Literal) (l : Literal) (assignments : List Assignment) (a : Assignment) → IsPlaced lits assignments → a.place ≡ length lits → l.var < length assignments → ((k : ℕ) (d : Literal) → k < length lits → (get_or lits k d).var ≢ l.var) → IsPlaced (lits ++ l ∷ []) (set assignments l.var a)
IsPlaced-push lits l assignments a h is known apart k d w =
    let long : length (lits ++ l ∷ []) ≡ length lits + 1 = length_push lits l in
    elim (leb_tells (suc k) (length lits)) [
      | inl before ↦
          ap (λ (x : Literal). (get_or (set assignments l.var a) x.var any_assignment).place) (get_or_append_left lits (l ∷ []) d k before.1)
          ∙ ap (λ (b : Assignment). b.place) (get_or-set_other assignments l.var (get_or lits k d).var a any_assignment (apart k d before.1))
          ∙ h k d before.1
      | inr last ↦
          let past : length lits < suc k = last.1 in
          let here : k ≡ length lits = omega arith in
          ap (λ (n : ℕ). (get_or (set assignments l.var a) (get_or (lits ++ l ∷ []) n d).var any_assignment).place) here
          ∙ ap (λ (x : Literal). (get_or (set assignments l.var a) x.var any_assignment).place) (last-at lits l d)
          ∙ ap (λ (b : Assignment). b.place) (get_or-set_same assignments l.var a any_assignment known)
          ∙ is ∙ sym here
    ]

pub IsPlaced-popped : (lits : List Literal) (l : Literal) (assignments : List Assignment) → IsPlaced (lits ++ l ∷ []) assignments → IsPlaced lits assignments
IsPlaced-popped lits l assignments h k d w =
    let long : length (lits ++ l ∷ []) ≡ length lits + 1 = length_push lits l in
    ap (λ (x : Literal). (get_or assignments x.var any_assignment).place) (sym (get_or_append_left lits (l ∷ []) d k w)) ∙ h k d (omega arith)

pub IsPlaced-grown : (lits : List Literal) (assignments more : List Assignment) → IsPlaced lits assignments → ((k : ℕ) (d : Literal) → k < length lits → (get_or lits k d).var < length assignments) → ((k : ℕ) (d : Assignment) → k < length assignments → get_or more k d ≡ get_or assignments k d) → IsPlaced lits more
IsPlaced-grown lits assignments more h known old k d w = ap (λ (b : Assignment). b.place) (old (get_or lits k d).var any_assignment (known k d w)) ∙ h k d w

some-is : {X : Type 0} (o : Option X) → IsSome o → (x : X) × (o ≡ Some x)
some-is None h = absurd (let no : false ≡ true = h in cc)
some-is (Some x) h = (x, refl)

-- what is noted of a variable that is assigned
pub record IsNoted (lits : List Literal) (assignments : List Assignment) (v : ℕ) : Type 0 where
  pub entry : TrailEntry
  pub found : entry_of (trail_of lits assignments) v ≡ Some entry
  pub level : entry.level ≡ (get_or assignments v any_assignment).level
  pub reason : entry.reason ≡ (get_or assignments v any_assignment).reason
  pub within : (get_or assignments v any_assignment).place < length (trail_of lits assignments)
  pub there : (d : TrailEntry) → get_or (trail_of lits assignments) (get_or assignments v any_assignment).place d ≡ entry

any_literal : Literal
any_literal = record { var = 0; negated = false }

pub noted : (lits : List Literal) (assignments : List Assignment) (v : ℕ) → IsPlaced lits assignments → IsSome (entry_of (trail_of lits assignments) v) → IsNoted lits assignments v
noted lits assignments v h some =
    let t : Trail = trail_of lits assignments in
    let found = some-is (entry_of t v) some in
    let p = place-found t v found.0 found.1 in
    let long : length t ≡ length lits = length-trail_of lits assignments in
    let low_t : p.0 < length t = p.1 in
    let low : p.0 < length lits = omega arith in
    let is : entry_in assignments (get_or lits p.0 any_literal) ≡ found.0 = sym (entry-at lits assignments p.0 any_entry any_literal low) ∙ p.3 any_entry in
    let var : (get_or lits p.0 any_literal).var ≡ v = ap (λ (e : TrailEntry). e.literal.var) is ∙ p.2 in
    let at : (get_or assignments v any_assignment).place ≡ p.0 = ap (λ (n : ℕ). (get_or assignments n any_assignment).place) (sym var) ∙ h p.0 any_literal low in
    record {
      entry = found.0;
      found = found.1;
      level = sym (ap (λ (e : TrailEntry). e.level) is) ∙ ap (λ (n : ℕ). (get_or assignments n any_assignment).level) var;
      reason = sym (ap (λ (e : TrailEntry). e.reason) is) ∙ ap (λ (n : ℕ). (get_or assignments n any_assignment).reason) var;
      within = subst (λ (n : ℕ). n < length t) (sym at) low_t;
      there = λ d. ap (λ (n : ℕ). get_or t n d) at ∙ p.3 d;
    }

assigned-cases : (b : Bool) (e : TrailEntry) (t : Trail) (vars v : ℕ) → eqb e.literal.var v ≡ b → e.literal.var < vars → IsSome (cond b (Some e) (entry_of t v)) → (IsSome (entry_of t v) → v < vars) → v < vars
assigned-cases true e t vars v is low assigned rest = let same : e.literal.var ≡ v = eqb-true e.literal.var v is in omega arith
assigned-cases false e t vars v is low assigned rest = rest assigned

-- a variable that is assigned is known
pub assigned-known : (t : Trail) (vars v : ℕ) → All (λ e. e.literal.var < vars) t → IsSome (entry_of t v) → v < vars
assigned-known [] vars v known assigned = absurd (let no : false ≡ true = assigned in cc)
assigned-known (e ∷ t) vars v known assigned = assigned-cases (eqb e.literal.var v) e t vars v refl (known 0 e (omega arith)) assigned (assigned-known t vars v (λ k d w. known (suc k) d (omega arith)))
