-- Lists of steps that were told.
use Rattle.std.proofs.Common.{◌≡◌, ℕ, suc, zero, ◌<◌, ◌≤◌, Bool, true, false, cond, not, ◌&&◌, eqb, List, [], ◌∷◌, ◌++◌, length, get_or, set, take, map, All, AllPairs, Some, length-append, refl, ap, ◌∙◌, arith, eqb-true, ne_eqb, eq-eqb, ◌||◌}
use native.Mathlib.Decide.{dec_lt}
use Rattle.std.specs.List.{list_any}
use Rattle.std.proofs.lemmas.List.{get_or_default, take-append-le, take-map, length-map}
use Rattle.std.proofs.Math.ListN.{get_or-append, get_or-map}
use Rattle.std.proofs.Math.Seq.{take-append_seam, get_or-append_seam}
use Rattle.std.proofs.lemmas.List.Quantifiers.{all_pairs_push}
use Rattle.std.proofs.lemmas.List.Elements.{All-push}
use Rattle.std.proofs.Math.Bool.{or-true}
use Rattle.craig_spec.specs.Literal.{Clause}
use Rattle.craig_spec.specs.Chain.{Origin, ToldStep, Told, antecedents, nothing_told, with_step, forgotten_at, without_id, clause_told, IsUnforgotten, IsAbove, StandsOn, IsTold}
use Rattle.craig_spec.specs.Needed.{IsOriginal}
use Rattle.craig_base.specs.Clauses.{IsNormal}
use Rattle.craig_proof.specs.NeededSteps.{HasId}
use Rattle.craig_proof.specs.StoredSteps.{IsStore}
use Rattle.craig_proof.specs.Tracer.{chain_of}
use Rattle.craig_proof.specs.declared.step.Step.{Step}
use Rattle.craig_proof.proofs.ChainLemmas.{StandsOn-same}

-- at first nothing is told
pub IsTold-nothing : IsTold nothing_told
IsTold-nothing = record {
  rising = λ i j d before within. absurd (omega arith);
  greatest = λ k d within. absurd (omega arith);
  stand = λ k d within. absurd (omega arith);
}

-- a step more
module _ (t : Told) (s : ToldStep) (told : IsTold t) (above : IsAbove t s.id) (stands : StandsOn t.steps s.literals s.origin) where
  below_new : (k : ℕ) (d : ToldStep) → k < length t.steps → (get_or t.steps k d).id < s.id
  below_new k d h = let g = told.greatest k d h in let a = above g.0 g.1 in omega arith

  rising_pushed : AllPairs (λ q r. q.id < r.id) (t.steps ++ s ∷ [])
  rising_pushed = all_pairs_push (λ q r. q.id < r.id) t.steps s told.rising below_new

  greatest_pushed : All (λ q. (g : ℕ) × (Some s.id ≡ Some g) × (q.id ≤ g)) (t.steps ++ s ∷ [])
  greatest_pushed =
      All-push (λ q. (g : ℕ) × (Some s.id ≡ Some g) × (q.id ≤ g)) t.steps s (λ k d h. let b = below_new k d h in (s.id, refl, omega arith)) (s.id, refl, omega arith)

  stand_last : (k : ℕ) (d : ToldStep) → k ≡ length t.steps → StandsOn (take k (t.steps ++ s ∷ [])) (get_or (t.steps ++ s ∷ []) k d).literals (get_or (t.steps ++ s ∷ []) k d).origin
  stand_last k d e = rw (e, take-append_seam, get_or-append_seam) stands

  stand_before : (k : ℕ) (d : ToldStep) → k < length t.steps → StandsOn (take k (t.steps ++ s ∷ [])) (get_or (t.steps ++ s ∷ []) k d).literals (get_or (t.steps ++ s ∷ []) k d).origin
  stand_before k d h = let le : k ≤ length t.steps = omega arith in rw (take-append-le k t.steps (s ∷ []) le, get_or-append t.steps (s ∷ []) d k h) (told.stand k d h)

  stand_pushed : (k : ℕ) (d : ToldStep) → k < length (t.steps ++ s ∷ []) → StandsOn (take k (t.steps ++ s ∷ [])) (get_or (t.steps ++ s ∷ []) k d).literals (get_or (t.steps ++ s ∷ []) k d).origin
  stand_pushed k d h =
      elim (dec_lt k (length t.steps)) [
        | Prim.yes below ↦ stand_before k d below
        | Prim.no past ↦ stand_last k d (let not_below : k < length t.steps → ⊥ = past in omega (arith, length-append t.steps (s ∷ [])))
      ]

  pub IsTold-with_step : IsTold (with_step t s)
  IsTold-with_step = record { rising = rising_pushed; greatest = greatest_pushed; stand = stand_pushed }

-- what is told under an id stays when marks change
pub clause_told-forgotten : (id x : ℕ) (steps : List ToldStep) → clause_told (map (forgotten_at id) steps) x ≡ clause_told steps x
clause_told-forgotten id x [] = refl
clause_told-forgotten id x (s ∷ steps) =
    elim (eqb s.id id) as (λ b. cond (eqb (cond b (record { id = s.id; literals = s.literals; origin = s.origin; forgotten = true }) s).id x) (Some (cond b (record { id = s.id; literals = s.literals; origin = s.origin; forgotten = true }) s).literals) (clause_told (map (forgotten_at id) steps) x) ≡ clause_told (s ∷ steps) x) [
      | true ↦ rw (clause_told-forgotten id x steps) refl
      | false ↦ rw (clause_told-forgotten id x steps) refl
    ]

StandsOn-forgotten : (id : ℕ) (steps : List ToldStep) (c : Clause) (origin : Origin) → StandsOn steps c origin → StandsOn (map (forgotten_at id) steps) c origin
StandsOn-forgotten id steps c origin = StandsOn-same steps (map (forgotten_at id) steps) c origin (λ x here. clause_told-forgotten id x steps)

-- nothing but the mark changes
pub same_but_mark : (id : ℕ) (s : ToldStep) → ((forgotten_at id s).id ≡ s.id) × ((forgotten_at id s).literals ≡ s.literals) × ((forgotten_at id s).origin ≡ s.origin)
same_but_mark id s =
    elim (eqb s.id id) as (λ b. ((cond b (record { id = s.id; literals = s.literals; origin = s.origin; forgotten = true }) s).id ≡ s.id) × ((cond b (record { id = s.id; literals = s.literals; origin = s.origin; forgotten = true }) s).literals ≡ s.literals) × ((cond b (record { id = s.id; literals = s.literals; origin = s.origin; forgotten = true }) s).origin ≡ s.origin)) [
      | true ↦ (refl, refl, refl)
      | false ↦ (refl, refl, refl)
    ]

-- the step at a place, with its mark perhaps changed
at_forgotten : (id k : ℕ) (steps : List ToldStep) (d : ToldStep) → k < length steps → get_or (map (forgotten_at id) steps) k d ≡ forgotten_at id (get_or steps k d)
at_forgotten id k steps d h =
    let within : k < length (map (forgotten_at id) steps) = rw length-map h in
    get_or_default (map (forgotten_at id) steps) k d (forgotten_at id d) within ∙ get_or-map (forgotten_at id) steps k d

-- a change of marks leaves all but the marks
pub IsTold-without_id : (id : ℕ) (t : Told) → IsTold t → IsTold (without_id id t)
IsTold-without_id id t told = record {
  rising = λ i j d before within.
      let j_within : j < length t.steps = rw length-map at within in
      let r = told.rising i j d before j_within in
      rw (at_forgotten id i t.steps d (omega arith), at_forgotten id j t.steps d j_within, (same_but_mark id (get_or t.steps i d)).0, (same_but_mark id (get_or t.steps j d)).0) r;
  greatest = λ k d within.
      let k_within : k < length t.steps = rw length-map at within in
      rw (at_forgotten id k t.steps d k_within, (same_but_mark id (get_or t.steps k d)).0) (told.greatest k d k_within);
  stand = λ k d within.
      let k_within : k < length t.steps = rw length-map at within in
      rw (at_forgotten id k t.steps d k_within, take-map, (same_but_mark id (get_or t.steps k d)).1, (same_but_mark id (get_or t.steps k d)).2) (StandsOn-forgotten id (take k t.steps) _ _ (told.stand k d k_within));
}

unforgotten_place-cases : (s : ToldStep) (steps : List ToldStep) (id : ℕ) (b : Bool) → eqb s.id id ≡ b → (b && not s.forgotten || list_any (λ q. eqb q.id id && not q.forgotten) steps) ≡ true → (IsUnforgotten steps id → (k : ℕ) × (k < length steps) × ((d : ToldStep) → (get_or steps k d).id ≡ id)) → (k : ℕ) × (k < length (s ∷ steps)) × ((d : ToldStep) → (get_or (s ∷ steps) k d).id ≡ id)
unforgotten_place-cases s steps id true e h later = (0, omega arith, λ d. eqb-true s.id id e)
unforgotten_place-cases s steps id false e h later = let p = later h in (suc p.0, omega arith, p.2)

-- where an id stands that isn't forgotten
pub unforgotten_place : (steps : List ToldStep) (id : ℕ) → IsUnforgotten steps id → (k : ℕ) × (k < length steps) × ((d : ToldStep) → (get_or steps k d).id ≡ id)
unforgotten_place [] id h = absurd (cc)
unforgotten_place (s ∷ steps) id h =
    unforgotten_place-cases s steps id (eqb s.id id) refl h (unforgotten_place steps id)

unmarked-none : (id : ℕ) (steps : List ToldStep) → ((k : ℕ) (d : ToldStep) → k < length steps → id < (get_or steps k d).id) → map (forgotten_at id) steps ≡ steps
unmarked-none id [] h = refl
unmarked-none id (s ∷ steps) h =
    let here : id < s.id = h 0 s (omega arith) in
    rw (ne_eqb s.id id (λ same. omega arith), unmarked-none id steps (λ k d within. h (suc k) d (omega arith))) refl

-- a mark at the one place of an id
pub set-forgotten : (id k : ℕ) (steps : List ToldStep) (v : ToldStep) → AllPairs (λ r s. r.id < s.id) steps → k < length steps → ((d : ToldStep) → (get_or steps k d).id ≡ id) → ((d : ToldStep) → v ≡ record { id = (get_or steps k d).id; literals = (get_or steps k d).literals; origin = (get_or steps k d).origin; forgotten = true }) → set steps k v ≡ map (forgotten_at id) steps
set-forgotten id k [] v rising within at now = absurd (omega arith)
set-forgotten id zero (s ∷ steps) v rising within at now =
    let same : s.id ≡ id = at s in
    let hit : eqb s.id id ≡ true = eq-eqb s.id id same in
    rw (hit, now s, unmarked-none id steps (λ k d h. let r : s.id < (get_or steps k d).id = rising 0 (suc k) d (omega arith) (omega arith) in omega arith)) refl
set-forgotten id (suc k) (s ∷ steps) v rising within at now =
    let before : s.id < (get_or steps k s).id = rising 0 (suc k) s (omega arith) within in
    let same : (get_or steps k s).id ≡ id = at s in
    rw (ne_eqb s.id id (λ e. omega arith)) (ap (λ rest. s ∷ rest) (set-forgotten id k steps v (λ i j d lt h. rising (suc i) (suc j) d (omega arith) (omega arith)) (omega arith) at now))

-- what a store keeps, with a step more
pub IsStore-with_step : (t : Told) (s : ToldStep) → IsStore t → IsAbove t s.id → StandsOn t.steps s.literals s.origin → (IsOriginal s.origin → IsNormal s.literals) → IsStore (with_step t s)
IsStore-with_step t s store above stands normal = record {
  told = IsTold-with_step t s store.told above stands;
  normal = All-push (λ q. IsOriginal q.origin → IsNormal q.literals) t.steps s store.normal normal;
}

-- and with an id less
pub IsStore-without_id : (id : ℕ) (t : Told) → IsStore t → IsStore (without_id id t)
IsStore-without_id id t store = record {
  told = IsTold-without_id id t store.told;
  normal = λ k d within.
      let k_within : k < length t.steps = rw length-map at within in
      rw (at_forgotten id k t.steps d k_within, (same_but_mark id (get_or t.steps k d)).1, (same_but_mark id (get_or t.steps k d)).2) (store.normal k d k_within);
}

has_place-cases : (s : ToldStep) (steps : List ToldStep) (id : ℕ) (b : Bool) → eqb s.id id ≡ b → (b || list_any (λ q. eqb q.id id) steps) ≡ true → (HasId steps id → (k : ℕ) × (k < length steps) × ((d : ToldStep) → (get_or steps k d).id ≡ id)) → (k : ℕ) × (k < length (s ∷ steps)) × ((d : ToldStep) → (get_or (s ∷ steps) k d).id ≡ id)
has_place-cases s steps id true e h later = (0, omega arith, λ d. eqb-true s.id id e)
has_place-cases s steps id false e h later = let p = later h in (suc p.0, omega arith, p.2)

-- where an id stands
pub has_place : (steps : List ToldStep) (id : ℕ) → HasId steps id → (k : ℕ) × (k < length steps) × ((d : ToldStep) → (get_or steps k d).id ≡ id)
has_place [] id h = absurd (cc)
has_place (s ∷ steps) id h = has_place-cases s steps id (eqb s.id id) refl h (has_place steps id)

-- an id that stands somewhere
pub HasId-at : (steps : List ToldStep) (id k : ℕ) → k < length steps → ((d : ToldStep) → (get_or steps k d).id ≡ id) → HasId steps id
HasId-at [] id k within at = absurd (omega arith)
HasId-at (s ∷ steps) id zero within at = rw (eq-eqb s.id id (at s)) refl
HasId-at (s ∷ steps) id (suc k) within at = rw (HasId-at steps id k (omega arith) at) (or-true (eqb s.id id))

-- an id that isn't forgotten stands somewhere
pub HasId-unforgotten : (steps : List ToldStep) (id : ℕ) → IsUnforgotten steps id → HasId steps id
HasId-unforgotten steps id h = let p = unforgotten_place steps id h in HasId-at steps id p.0 p.1 p.2

-- an id that isn't forgotten is below one that is above all
unforgotten_below : (t : Told) (id x : ℕ) → IsTold t → IsAbove t id → IsUnforgotten t.steps x → x < id
unforgotten_below t id x told above held =
    let p = unforgotten_place t.steps x held in
    let d : ToldStep = record { id = 0; literals = []; origin = Origin.Original 0; forgotten = false } in
    let g = told.greatest p.0 d p.1 in
    let low = above g.0 g.1 in
    let is = p.2 d in
    let at_most = g.2 in
    omega (arith, low, is, at_most)

-- so are the antecedents of a chain over what was told
pub first_below : (t : Told) (id first : ℕ) (rest : List Step) → IsTold t → IsAbove t id → All (IsUnforgotten t.steps) (antecedents (Origin.Derived first (chain_of rest))) → first < id
first_below t id first rest told above held = unforgotten_below t id first told above (held 0 first (omega arith))

pub antecedents_below : (t : Told) (id first : ℕ) (rest : List Step) → IsTold t → IsAbove t id → All (IsUnforgotten t.steps) (antecedents (Origin.Derived first (chain_of rest))) → All (λ (s : Step). s.antecedent.0 < id) rest
antecedents_below t id first [] told above held k d within = absurd (omega arith)
antecedents_below t id first (s ∷ rest) told above held zero d within = unforgotten_below t id s.antecedent.0 told above (held 1 0 (omega arith))
antecedents_below t id first (s ∷ rest) told above held (suc k) d within =
    antecedents_below t id first rest told above (keep held) k d (omega arith)
  where
    keep : All (IsUnforgotten t.steps) (first ∷ s.antecedent.0 ∷ map (λ q. q.antecedent) (chain_of rest)) → All (IsUnforgotten t.steps) (first ∷ map (λ q. q.antecedent) (chain_of rest))
    keep h zero e low = h 0 e (omega arith)
    keep h (suc j) e low = h (suc (suc j)) e (omega arith)
