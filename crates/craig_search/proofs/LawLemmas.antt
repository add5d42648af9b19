-- What a verdict says of the told steps, for the laws.
use Rattle.std.proofs.Common.{◌≡◌, ◌⊎◌, inl, inr, ℕ, zero, suc, ◌+◌, ◌-◌, ◌<◌, ◌≤◌, List, [], ◌∷◌, length, All, Contains, Option, Some, None, IsSome, refl, sym, ap, subst, ◌∙◌, arith}
use Rattle.std.specs.List.{slice_get}
use Rattle.craig_spec.specs.Literal.{Clause, Literal}
use Rattle.craig_spec.specs.Chain.{IsTold, IsUnforgotten, Told, ToldStep, clause_told, without_id}
use Rattle.craig_spec.specs.Needed.{IsNeeded, IsOriginal}
use Rattle.craig_spec.proofs.MemberLemmas.{Contains-from_slice_get}
use Rattle.craig_spec.proofs.ToldLemmas.{clause_told-find}
use Rattle.craig_base.specs.declared.clause_id.ClauseId.{ClauseId}
use Rattle.craig_base.specs.declared.script_part.Part.{Part}
use Rattle.craig_proof.specs.Covers.{Covers}
use Rattle.craig_proof.specs.Tracer.{original_step}
use Rattle.craig_proof.proofs.CoversLemmas.{Covers-forgotten}
use Rattle.craig_proof.proofs.PartLemmas.{clause_told-found, one_step}
use Rattle.craig_watch.specs.Held.{HeldView, held_clause}
use Rattle.craig_search.specs.declared.verdict.Verdict.{Verdict}
use Rattle.craig_search.specs.declared.verdict.Verdict.TheVariants.{Model, Failed, Limit}
use Rattle.craig_search.specs.Tells.{IsRoot, IsStillTold, IsUnitId, IsUnitStep, TellsVerdict, WasTold}
use Rattle.craig_search.specs.Verdict.{AreFirstPlaces, Assumptions, at_places}

-- what was told before is told still, whatever the verdict
pub TellsVerdict-stay : (old new : HeldView) (assumptions : Assumptions) (v : Verdict) (t u : Told) → TellsVerdict old new assumptions v t u → (s : ToldStep) → Contains t.steps s → IsStillTold u s
TellsVerdict-stay old new assumptions Model t u told s here = told.stay s here
TellsVerdict-stay old new assumptions (Failed root places) t u told s here = told.0.stay s here
TellsVerdict-stay old new assumptions (Limit lemmas) t u told s here = told.stay s here

-- and isn't forgotten, where its clause was not lent
TellsVerdict-unforgotten : (old new : HeldView) (assumptions : Assumptions) (v : Verdict) (t u : Told) → TellsVerdict old new assumptions v t u → (id : ℕ) → IsUnforgotten t.steps id → held_clause old.arena id ≡ None → IsUnforgotten u.steps id
TellsVerdict-unforgotten old new assumptions Model t u told id kept none = told.unforgotten id kept none
TellsVerdict-unforgotten old new assumptions (Failed root places) t u told id kept none = told.0.unforgotten id kept none
TellsVerdict-unforgotten old new assumptions (Limit lemmas) t u told id kept none = told.unforgotten id kept none

still-found : (t u : Told) → IsTold u → ((s : ToldStep) → Contains t.steps s → IsStillTold u s) → (id : ℕ) (c : Clause) → clause_told t.steps id ≡ Some c → clause_told u.steps id ≡ Some c
still-found t u stands stay id c is =
    let s = clause_told-find t.steps id c is in
    let r = stay s.0 s.1 in
    subst (λ (x : ℕ). clause_told u.steps x ≡ Some c) (r.2 ∙ s.2) (clause_told-found u r.0 stands r.1 ∙ ap (λ (d : Clause). Some d) (r.3 ∙ s.3))

pub stay-covered : (old new : HeldView) (assumptions : Assumptions) (v : Verdict) (t u : Told) (f : ℕ → Option Clause) (given : ℕ) → TellsVerdict old new assumptions v t u → Covers t f given → Covers u (held_clause new.arena) new.arena.given → ((id : ℕ) → IsSome (f id) → held_clause old.arena id ≡ None) → Covers u f new.arena.given
stay-covered old new assumptions v t u f given told covers now others = record {
  stand = now.stand;
  next = now.next;
  same = λ id d is.
      let e = covers.same id d is in
      (e.0, still-found t u now.stand (TellsVerdict-stay old new assumptions v t u told) id e.0 e.1, e.2);
  unforgotten = λ id c is. TellsVerdict-unforgotten old new assumptions v t u told id (covers.unforgotten id c is) (others id (rw is refl));
}

-- an assumption stands at each of its places
at_places-at : (assumptions : Assumptions) (places : List ℕ) → All (λ p. (a : Part × Literal) × (slice_get assumptions p ≡ Some a)) places → (k : ℕ) → k < length places → (a : Part × Literal) × (slice_get (at_places assumptions places) k ≡ Some a)
at_places-at assumptions [] all k low = absurd (omega (arith, low))
at_places-at assumptions (p ∷ places) all zero low = let a = all 0 p (omega arith) in (a.0, rw a.1 refl)
at_places-at assumptions (p ∷ places) all (suc k) low =
    let a = all 0 p (omega arith) in
    let b = at_places-at assumptions places (λ j d within. all (suc j) d (omega (arith, within))) k (omega (arith, low)) in
    (b.0, rw a.1 b.1)

-- the unit of a failed assumption was told under its id
pub unit-told : (new : HeldView) (assumptions : Assumptions) (root : ℕ) (places : List ℕ) (t u : Told) → IsRoot new assumptions root places t u → AreFirstPlaces assumptions places → (id : ℕ) → IsUnitId root places id → (a : Part × Literal) × Contains (at_places assumptions places) a × Contains u.steps (original_step id a.0.0 (a.1 ∷ []))
unit-told new assumptions root places t u is first id unit =
    let low : id < root = unit.0 in
    let high : root ≤ id + length places = unit.1 in
    let k : ℕ = id - (root - length places) in
    let within : k < length places = omega (arith, low, high) in
    let at : root - length places + k ≡ id = omega (arith, low, high) in
    let a = at_places-at assumptions places (λ j d inside. let f = first.first j d inside in (f.0, f.1)) k within in
    (a.0, Contains-from_slice_get (at_places assumptions places) k a.0 a.1, subst (λ (x : ℕ). Contains u.steps (original_step x (a.0).0.0 ((a.0).1 ∷ []))) at (is.units k a.0 a.1))

pub unit-step : (new : HeldView) (assumptions : Assumptions) (root : ℕ) (places : List ℕ) (t u : Told) → IsRoot new assumptions root places t u → AreFirstPlaces assumptions places → IsTold u → (s : ToldStep) → Contains u.steps s → IsUnitId root places s.id → IsUnitStep assumptions places s
unit-step new assumptions root places t u is first stands s here unit =
    let a = unit-told new assumptions root places t u is first s.id unit in
    let same : s ≡ original_step s.id (a.0).0.0 ((a.0).1 ∷ []) = one_step u s (original_step s.id (a.0).0.0 ((a.0).1 ∷ [])) stands here a.2 refl in
    record {
      assumed = a.0;
      at_place = a.1;
      part = ap (λ (r : ToldStep). r.origin) same;
      literals = ap (λ (r : ToldStep). r.literals) same;
    }

pub root-rests : (old new : HeldView) (assumptions : Assumptions) (root : ClauseId) (places : List ℕ) (t u : Told) → TellsVerdict old new assumptions (Failed root places) t u → AreFirstPlaces assumptions places → IsTold u → (s : ToldStep) → Contains u.steps s → IsOriginal s.origin → IsNeeded u.steps root.0 s.id → WasTold t s ⊎ IsUnitStep assumptions places s
root-rests old new assumptions root places t u told first stands s here original needed =
    elim (told.1.needs s here original needed) [
      | inl was ↦ inl was
      | inr unit ↦ inr (unit-step new assumptions root.0 places t u told.1 first stands s here unit)
    ]

pub held-rests : (old new : HeldView) (assumptions : Assumptions) (root : ClauseId) (places : List ℕ) (t u : Told) → TellsVerdict old new assumptions (Failed root places) t u → (id : ℕ) → IsSome (held_clause new.arena id) → (s : ToldStep) → Contains u.steps s → IsOriginal s.origin → IsNeeded u.steps id s.id → WasTold t s
held-rests old new assumptions root places t u told id held s here original needed =
    elim (told.0.steps s here) [
      | inl was ↦ was
      | inr of ↦ absurd (told.1.units_not_needed id s.id held (of.originals original) needed)
    ]

pub root-forgotten : (old new : HeldView) (assumptions : Assumptions) (root : ClauseId) (places : List ℕ) (t u : Told) → TellsVerdict old new assumptions (Failed root places) t u → Covers u (held_clause new.arena) new.arena.given → (id : ℕ) → (id ≡ root.0) ⊎ IsUnitId root.0 places id → Covers (without_id id u) (held_clause new.arena) new.arena.given
root-forgotten old new assumptions root places t u told covers id which =
    let none : held_clause new.arena id ≡ None = elim which [
      | inl is ↦ subst (λ (x : ℕ). held_clause new.arena x ≡ None) (sym is) told.1.root_not_held
      | inr unit ↦ told.1.units_not_held id unit
    ] in
    Covers-forgotten u (held_clause new.arena) new.arena.given id covers none
