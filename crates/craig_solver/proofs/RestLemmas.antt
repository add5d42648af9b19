-- The held clauses rest on accepted clauses alone.
use Rattle.std.proofs.Common.{◌≡◌, inl, inr, ℕ, ◌<◌, ◌≤◌, Bool, true, false, cond, ltb, eqb, List, [], ◌∷◌, ◌++◌, Contains, Option, Some, None, IsSome, refl, sym, ap, subst, ◌∙◌, arith, eq-eqb, ne_eqb}
use Rattle.std.specs.Option.{option_map}
use Rattle.std.proofs.lemmas.Bool.{cases_lt, lt-ltb, le-ltb}
use Rattle.std.proofs.lemmas.List.Elements.{Contains-push_cases}
use Rattle.craig_spec.specs.Literal.{Clause}
use Rattle.craig_spec.specs.Chain.{SameLiterals, Told, ToldStep, IsTold, antecedents, forgotten_at, without_id}
use Rattle.craig_spec.specs.Needed.{IsClosed, IsOriginal}
use Rattle.craig_spec.proofs.ToldLemmas.{IsNeeded-below, IsNeeded-root}
use Rattle.craig_base.specs.Arena.{ArenaView, FlaggedClause, ChangesOnly, IsArena, clause_at}
use Rattle.craig_base.specs.Clauses.{IsNormal}
use Rattle.craig_base.specs.declared.script_part.Part.{Part}
use Rattle.craig_base.proofs.LookUpLemmas.{added-held, flagged, held-below}
use Rattle.craig_proof.specs.Covers.{Covers}
use Rattle.craig_proof.specs.Tracer.{original_step}
use Rattle.craig_proof.proofs.RootLemmas.{needed_below_root}
use Rattle.craig_watch.specs.Held.{HeldView, held_clause}
use Rattle.craig_search.specs.Leaves.{Leaves}
use Rattle.craig_search.specs.Tells.{Tells, WasTold}
use Rattle.craig_solver.specs.State.{RestOnAccepted}
use Rattle.craig_solver.specs.Told.{IsAcceptedStep}
use Rattle.craig_search.proofs.ForgottenLemmas.{forgotten-step, told-below}
use Rattle.craig_solver.proofs.ToldLemmas.{IsAcceptedStep-more, IsAcceptedStep-same, told-original}

pub RestOnAccepted-more : (xs : List (Part × Clause)) (p : Part × Clause) (a : ArenaView) (t : Told) → RestOnAccepted xs a t → RestOnAccepted (xs ++ p ∷ []) a t
RestOnAccepted-more xs p a t rest = record {
  set = rest.set;
  closed = rest.closed;
  held = rest.held;
  accepted_alone = λ s here on original. IsAcceptedStep-more xs p s (rest.accepted_alone s here on original);
}

-- a set of ids with one id more
abbrev with : (ℕ → Bool) → ℕ → ℕ → Bool
with set id x = cond (eqb x id) true (set x)

with-cases : (b c : Bool) → c ≡ true → cond b true c ≡ true
with-cases true c on = refl
with-cases false c on = on

-- after an accepted clause was told
pub RestOnAccepted-original : (xs : List (Part × Clause)) (a b : ArenaView) (part : Part) (written : Clause) (f : FlaggedClause) (id : ℕ) (t u : Told) → clause_at a id ≡ None → ChangesOnly a b id (Some f) → Covers t (held_clause a) id → u ≡ Rattle.craig_spec.specs.Chain.with_step t (original_step id part.0 f.literals) → SameLiterals written f.literals → IsNormal f.literals → RestOnAccepted xs a t → RestOnAccepted (xs ++ (part, written) ∷ []) b u
RestOnAccepted-original xs a b part written f id t u fresh only covers is same normal rest =
    let step = original_step id part.0 f.literals in
    let members : (s : ToldStep) → Contains u.steps s → Contains (t.steps ++ step ∷ []) s = λ s here. subst (λ (w : Told). Contains w.steps s) is here in
    let older : (s : ToldStep) → Contains t.steps s → with rest.set id s.id ≡ rest.set s.id = λ s here. ap (λ (b : Bool). cond b true (rest.set s.id)) (ne_eqb s.id id (λ e. let low : s.id < id = told-below t (held_clause a) id s covers here in omega (arith, low, e))) in
    record {
      set = with rest.set id;
      closed = λ s x here on named. elim (Contains-push_cases t.steps step s (members s here)) [
        | inl old ↦ with-cases (eqb x id) (rest.set x) (rest.closed s x old (sym (older s old) ∙ on) named)
        | inr last ↦ absurd (let none : Contains [] x = subst (λ (r : ToldStep). Contains (antecedents r.origin) x) (sym last) named in let w : none.0 < 0 = none.1 in omega (arith, w))
      ];
      held = λ k c is_held. elim (added-held a b id f fresh only k c is_held) [
        | inl last ↦ ap (λ (e : Bool). cond e true (rest.set k)) (eq-eqb k id last.0)
        | inr old ↦ with-cases (eqb k id) (rest.set k) (rest.held k c old)
      ];
      accepted_alone = λ s here on original. elim (Contains-push_cases t.steps step s (members s here)) [
        | inl old ↦ IsAcceptedStep-more xs (part, written) s (rest.accepted_alone s old (sym (older s old) ∙ on) original)
        | inr last ↦ subst (IsAcceptedStep (xs ++ (part, written) ∷ [])) last (told-original xs part written f.literals id same normal)
      ];
    }

-- after an id was forgotten
pub RestOnAccepted-forgotten : (xs : List (Part × Clause)) (a : ArenaView) (id : ℕ) (t : Told) → RestOnAccepted xs a t → RestOnAccepted xs a (without_id id t)
RestOnAccepted-forgotten xs a id t rest = record {
  set = rest.set;
  closed = λ s x here on named.
      let m = forgotten-step t id s here in
      rest.closed m.0 x m.1 (subst (λ (k : ℕ). rest.set k ≡ true) m.2 on) (subst (λ o. Contains (antecedents o) x) m.4 named);
  held = rest.held;
  accepted_alone = λ s here on original.
      let m = forgotten-step t id s here in
      IsAcceptedStep-same xs m.0 s m.4 m.3 (rest.accepted_alone m.0 m.1 (subst (λ (k : ℕ). rest.set k ≡ true) m.2 on) (subst IsOriginal m.4 original));
}

-- a set of ids below the bound, and another one from there on
abbrev pub beyond : ℕ → (ℕ → Bool) → (ℕ → Bool) → ℕ → Bool
beyond given set more x = cond (ltb x given) (set x) (more x)

pub beyond-low : (given : ℕ) (set more : ℕ → Bool) (x : ℕ) → x < given → beyond given set more x ≡ set x
beyond-low given set more x low = ap (λ (b : Bool). cond b (set x) (more x)) (lt-ltb x given low)

pub beyond-high : (given : ℕ) (set more : ℕ → Bool) (x : ℕ) → given ≤ x → beyond given set more x ≡ more x
beyond-high given set more x high = ap (λ (b : Bool). cond b (set x) (more x)) (le-ltb x given high)

some-clause : (o : Option Clause) → IsSome o → (c : Clause) × (o ≡ Some c)
some-clause None given = absurd (let odd : false ≡ true = given in cc)
some-clause (Some c) given = (c, refl)

-- an antecedent isn't above its step
antecedent-below : (u : Told) (s : ToldStep) (x : ℕ) → IsTold u → Contains u.steps s → Contains (antecedents s.origin) x → x ≤ s.id
antecedent-below u s x stands here named =
    needed_below_root u.steps s.id x stands.rising stands.stand (IsNeeded-below u.steps s x x here named (IsNeeded-root u.steps x))

-- the clauses that were lent, the steps from before, and those of the search among the ids of the set
module _ (xs : List (Part × Clause)) (h : HeldView) (IsUnit : ℕ → Type 0) (t u : Told) (tells : Tells (held_clause h.arena) h.arena.given IsUnit t u) (ok : IsArena h.arena) (covers : Covers t (held_clause h.arena) h.arena.given) (stands : IsTold u) (rest : RestOnAccepted xs h.arena t) (more : ℕ → Bool) (down : (x y : ℕ) → y ≤ x → more x ≡ true → more y ≡ true) where
  set : ℕ → Bool
  set = beyond h.arena.given rest.set more

  was-low : (s : ToldStep) (was : WasTold t s) → s.id < h.arena.given
  was-low s was = subst (λ (k : ℕ). k < h.arena.given) was.2 (told-below t (held_clause h.arena) h.arena.given was.0 covers was.1)

  was-in : (s : ToldStep) (was : WasTold t s) → beyond h.arena.given rest.set more s.id ≡ true → rest.set was.0.id ≡ true
  was-in s was on = ap rest.set was.2 ∙ sym (beyond-low h.arena.given rest.set more s.id (was-low s was)) ∙ on

  pub closed-searched : IsClosed u.steps (beyond h.arena.given rest.set more)
  closed-searched s x here on named =
      let le : x ≤ s.id = antecedent-below u s x stands here named in
      elim (tells.steps s here) [
        | inl was ↦
            let low : s.id < h.arena.given = was-low s was in
            beyond-low h.arena.given rest.set more x (omega (arith, low, le)) ∙ rest.closed was.0 x was.1 (was-in s was on) (subst (λ o. Contains (antecedents o) x) (sym was.4) named)
        | inr of ↦ elim (of.antecedents x named) [
          | inl later ↦ beyond-high h.arena.given rest.set more x later ∙ down s.id x le (sym (beyond-high h.arena.given rest.set more s.id of.later) ∙ on)
          | inr lent ↦
              let c = some-clause (held_clause h.arena x) lent in
              beyond-low h.arena.given rest.set more x (held-below h.arena x c.0 ok c.1) ∙ rest.held x c.0 c.1
        ]
      ]

  -- a step from before that is in the set is one of an accepted clause, if it is an original
  pub was-accepted : (s : ToldStep) → WasTold t s → beyond h.arena.given rest.set more s.id ≡ true → IsOriginal s.origin → IsAcceptedStep xs s
  was-accepted s was on original =
      IsAcceptedStep-same xs was.0 s (sym was.4) (sym was.3) (rest.accepted_alone was.0 was.1 (was-in s was on) (subst IsOriginal (sym was.4) original))

  pub RestOnAccepted-searched : (n : HeldView) → Leaves h n → ((id : ℕ) (c : Clause) → held_clause n.arena id ≡ Some c → more id ≡ true) → ((id : ℕ) → IsUnit id → more id ≡ true → ⊥) → RestOnAccepted xs n.arena u
  RestOnAccepted-searched n left within apart = record {
    set = beyond h.arena.given rest.set more;
    closed = closed-searched;
    held = λ id c is. elim (cases_lt id h.arena.given) [
      | inl low ↦
          let f = flagged (clause_at n.arena id) c is in
          let o = left.older id f.0 low f.1 in
          beyond-low h.arena.given rest.set more id low ∙ rest.held id o.0.literals (ap (option_map (λ (g : FlaggedClause). g.literals)) o.1)
      | inr high ↦ beyond-high h.arena.given rest.set more id high ∙ within id c is
    ];
    accepted_alone = λ s here on original. elim (tells.steps s here) [
      | inl was ↦ was-accepted s was on original
      | inr of ↦ absurd (apart s.id (of.originals original) (sym (beyond-high h.arena.given rest.set more s.id of.later) ∙ on))
    ];
  }
