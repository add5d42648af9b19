-- The order has every free variable, and a trail without free variables is a model.
use Rattle.std.proofs.Common.{◌≡◌, ◌≢◌, ◌⊎◌, inl, inr, ℕ, ◌<◌, ◌≤◌, Bool, true, false, cond, eqb, [], ◌∷◌, ◌++◌, length, get_or, Option, Some, None, refl, sym, ap, subst, ◌∙◌, arith, eq-eqb}
use Rattle.std.specs.Option.{is_some}
use Rattle.std.proofs.lemmas.Bool.{cases_lt, or_left, or_right}
use Rattle.craig_spec.specs.Literal.{Literal}
use Rattle.craig_base.specs.Arena.{ArenaView}
use Rattle.craig_watch.specs.declared.trail_entry.TrailEntry.{TrailEntry}
use Rattle.craig_watch.specs.declared.value.Value.TheVariants.{Free}
use Rattle.craig_watch.specs.Trail.{Trail, IsAssigned, entry_of, part_up_to, value_under}
use Rattle.craig_watch.specs.Held.{HeldView, IsComplete, IsConsistent}
use Rattle.craig_order.specs.Order.{OrderView, CountsAsBefore, IsFree, IsGivenBack, is_given_back}
use Rattle.craig_watch.proofs.TrailLemmas.{entry_of-free}
use Rattle.craig_search.specs.Leaves.{IsReady}
use Rattle.craig_search.specs.Verdict.{IsFound}

assigned-cases : (b : Bool) (e : TrailEntry) (o p : Option TrailEntry) → is_some (cond b (Some e) o) ≡ true → (is_some o ≡ true → is_some p ≡ true) → is_some (cond b (Some e) p) ≡ true
assigned-cases true e o p h later = refl
assigned-cases false e o p h later = later h

-- what is assigned stays so when the trail gets longer
pub assigned-longer : (t u : Trail) (v : ℕ) → IsAssigned t v → IsAssigned (t ++ u) v
assigned-longer [] u v h = absurd (let no : false ≡ true = h in cc)
assigned-longer (e ∷ t) u v h = assigned-cases (eqb e.literal.var v) e (entry_of t v) (entry_of (t ++ u) v) h (assigned-longer t u v)

some-cond : (b : Bool) (e : TrailEntry) (o : Option TrailEntry) → is_some o ≡ true → is_some (cond b (Some e) o) ≡ true
some-cond true e o h = refl
some-cond false e o h = h

assigned-last : (t : Trail) (e : TrailEntry) → IsAssigned (t ++ e ∷ []) e.literal.var
assigned-last [] e = rw (eq-eqb e.literal.var e.literal.var refl) refl
assigned-last (f ∷ t) e = some-cond (eqb f.literal.var e.literal.var) f (entry_of (t ++ e ∷ []) e.literal.var) (assigned-last t e)

-- after the trail got longer
-- whatever the clauses are
pub IsReady-arena : (h : HeldView) (o : OrderView) (a : ArenaView) → IsReady h o → IsReady (record h { arena = a }) o
IsReady-arena h o a ready = record { known = ready.known; given_back = ready.given_back }

pub IsReady-longer : (old new : HeldView) (o : OrderView) (added : Trail) → IsReady old o → new.vars ≡ old.vars → new.trail ≡ old.trail ++ added → IsReady new o
IsReady-longer old new o added ready vars trail = record {
  known = ready.known ∙ sym vars;
  given_back = λ v free. ready.given_back v (
    let low : v < new.vars = free.0 in omega arith,
    λ assigned. free.1 (subst (λ (t : Trail). IsAssigned t v) (sym trail) (assigned-longer old.trail added v assigned)),
  );
}

-- after a decision
pub IsReady-decided : (old new : HeldView) (o p : OrderView) (e : TrailEntry) → IsReady old o → new.vars ≡ old.vars → new.trail ≡ old.trail ++ e ∷ [] → CountsAsBefore old o p (λ v. v ≢ e.literal.var) → IsReady new p
IsReady-decided old new o p e ready vars trail counts = record {
  known = counts.known ∙ ready.known ∙ sym vars;
  given_back = λ v free.
      let was : IsFree old v = (let low : v < new.vars = free.0 in omega arith, λ assigned. free.1 (subst (λ (t : Trail). IsAssigned t v) (sym trail) (assigned-longer old.trail (e ∷ []) v assigned))) in
      let other : v ≢ e.literal.var = λ same. free.1 (subst (λ (t : Trail). IsAssigned t v) (sym trail) (subst (IsAssigned (old.trail ++ e ∷ [])) (sym same) (assigned-last old.trail e))) in
      counts.counts v was other ∙ ready.given_back v was;
}

-- the entry of an assigned variable
entry-cases : (o : Option TrailEntry) → (is_some o ≡ true → ⊥) ⊎ ((e : TrailEntry) × (o ≡ Some e))
entry-cases None = inl (λ h. let no : false ≡ true = h in cc)
entry-cases (Some e) = inr (e, refl)

assigned-from_not_free : (h : HeldView) (v : ℕ) → ¬ IsFree h v → v < h.vars → IsAssigned h.trail v
assigned-from_not_free h v not_free low = elim (entry-cases (entry_of h.trail v)) [
  | inl absent ↦ absurd (not_free (low, absent))
  | inr found ↦ rw found.1 refl
]

pub not_free-assigned : (t : Trail) (l : Literal) → IsAssigned t l.var → value_under t l ≡ Free → ⊥
not_free-assigned t l some free = let no : false ≡ true = sym (ap (λ (o : Option TrailEntry). is_some o) (entry_of-free t l free)) ∙ some in cc

-- where no variable is free, propagation that is complete has found a model
pub IsFound-complete : (h : HeldView) → IsConsistent h → IsComplete h.arena h.trail → ((v : ℕ) → ¬ IsFree h v) → IsFound h []
IsFound-complete h ok complete none = record {
  assigned = λ v low. assigned-from_not_free h v (none v) low;
  clauses = λ id c is. elim (complete id c is) [
    | inl true_one ↦ true_one
    | inr two ↦
        let low : two.0.var < h.vars = subst (λ (l : Literal). l.var < h.vars) two.2.2 ((ok.clauses id c is).1 two.2.0 two.0 two.2.1) in
        absurd (not_free-assigned h.trail two.0 (assigned-from_not_free h two.0.var (none two.0.var) low) two.5)
  ];
  assumed = λ k d within. absurd (omega arith);
}

-- after going back: what was assigned above the level was given back
module _ (old new : HeldView) (o p : OrderView) (level place : ℕ) (ready : IsReady old o) (vars : new.vars ≡ old.vars) (trail : new.trail ≡ part_up_to level old.trail) (known : length p.given_back ≡ length o.given_back) (kept : (v : ℕ) → is_given_back o v ≡ true → is_given_back p v ≡ true) (upto : (k : ℕ) (d : TrailEntry) → k < place → (get_or old.trail k d).level ≤ level) (given : (k : ℕ) (d : TrailEntry) → place ≤ k → k < length old.trail → is_given_back p (get_or old.trail k d).literal.var ≡ true) (stays : (v : ℕ) (e : TrailEntry) → entry_of old.trail v ≡ Some e → e.level ≤ level → entry_of (part_up_to level old.trail) v ≡ Some e) (stands : (v : ℕ) (e : TrailEntry) → entry_of old.trail v ≡ Some e → (k : ℕ) × (k < length old.trail) × (e.literal.var ≡ v) × ((d : TrailEntry) → get_or old.trail k d ≡ e)) where
  back-given : (v : ℕ) (e : TrailEntry) → entry_of old.trail v ≡ Some e → ¬ IsAssigned new.trail v → is_given_back p v ≡ true
  back-given v e found free =
      let at = stands v e found in
      elim (cases_lt at.0 place) [
        | inl low ↦
            let le : e.level ≤ level = subst (λ (f : TrailEntry). f.level ≤ level) (at.3 e) (upto at.0 e low) in
            absurd (free (rw (trail, stays v e found le) refl))
        | inr high ↦ ap (is_given_back p) (sym at.2) ∙ ap (λ (f : TrailEntry). is_given_back p f.literal.var) (sym (at.3 e)) ∙ given at.0 e high at.1
      ]

  pub IsReady-back : IsReady new p
  IsReady-back = record {
    known = known ∙ ready.known ∙ sym vars;
    given_back = λ v free.
        let low : v < new.vars = free.0 in
        elim (entry-cases (entry_of old.trail v)) [
          | inl absent ↦ kept v (ready.given_back v (omega arith, absent))
          | inr found ↦ back-given v found.0 found.1 free.1
        ];
  }

-- one more variable is given back
pub given_back-kept : (old saved new : OrderView) (v w : ℕ) → saved ≡ old → IsGivenBack saved new v → is_given_back old w ≡ true → is_given_back new w ≡ true
given_back-kept old saved new v w same back was =
    back.counts w ∙ or_right (eqb w v) (is_given_back saved w) (ap (λ (o : OrderView). is_given_back o w) same ∙ was)

pub given_back-here : (saved new : OrderView) (v w : ℕ) → IsGivenBack saved new v → w ≡ v → is_given_back new w ≡ true
given_back-here saved new v w back same = back.counts w ∙ or_left (eqb w v) (is_given_back saved w) (eq-eqb w v same)
