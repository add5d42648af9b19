-- The steps that a root needs, by themselves, and the clauses that are found under ids.
use Rattle.std.proofs.Common.{◌≡◌, ℕ, suc, zero, ◌<◌, ◌≤◌, Bool, true, false, cond, not, ◌&&◌, ◌||◌, eqb, List, [], ◌∷◌, length, get_or, take, map, Contains, Option, Some, refl, ap, sym, ◌∙◌, arith, eqb-true, eq-eqb}
use native.Mathlib.Decide.{dec_lt}
use Rattle.std.specs.List.{filter, list_any}
use Rattle.std.proofs.lemmas.List.{get_or_default, take-map, length-map}
use Rattle.std.proofs.lemmas.List.Kept.{AllPairs-filter}
use Rattle.std.proofs.Math.ListN.{get_or-map}
use Rattle.std.proofs.Math.Bool.{or-true}
use Rattle.craig_spec.proofs.MemberLemmas.{Contains-front, Contains-later}
use Rattle.craig_base.specs.Clauses.{IsNormal}
use Rattle.craig_spec.specs.Literal.{Clause}
use Rattle.craig_spec.specs.Chain.{ToldStep, Told, antecedents, clause_told, IsUnforgotten, EachStands, AreRising, IsTold}
use Rattle.craig_spec.specs.Needed.{IsNeeded, IsNeededPart, IsOriginal, unforgotten}
use Rattle.craig_proof.specs.NeededSteps.{last_id}
use Rattle.craig_proof.specs.StoredSteps.{OriginalsNormal}
use Rattle.craig_proof.proofs.ChainLemmas.{StandsOn-same}
use Rattle.craig_proof.proofs.ReclaimLemmas.{EachStands-left, clause_told-left}
use Rattle.craig_proof.proofs.ReplayLemmas.{part}
use Rattle.craig_proof.proofs.RootLemmas.{last_needed, needed_below_root}

-- where no two steps have the same id, a step is found under its id
found-cases : (s : ToldStep) (steps : List ToldStep) (k : ℕ) (d : ToldStep) (b : Bool) → eqb s.id (get_or steps k d).id ≡ b → s.id < (get_or steps k d).id → clause_told steps (get_or steps k d).id ≡ Some (get_or steps k d).literals → cond b (Some s.literals) (clause_told steps (get_or steps k d).id) ≡ Some (get_or steps k d).literals
found-cases s steps k d true e up rest = absurd (let same : s.id ≡ (get_or steps k d).id = eqb-true s.id (get_or steps k d).id e in omega arith)
found-cases s steps k d false e up rest = rest

found_at : (steps : List ToldStep) (k : ℕ) (d : ToldStep) → AreRising steps → k < length steps → clause_told steps (get_or steps k d).id ≡ Some (get_or steps k d).literals
found_at [] k d rising within = absurd (omega arith)
found_at (s ∷ steps) zero d rising within = rw (eq-eqb s.id s.id refl) refl
found_at (s ∷ steps) (suc k) d rising within =
    found-cases s steps k d (eqb s.id (get_or steps k d).id) refl (rising 0 (suc k) d (omega arith) within) (found_at steps k d (λ i j e before inside. rising (suc i) (suc j) e (omega arith) (omega arith)) (omega arith))

pub clause_told-found : (t : Told) (s : ToldStep) → IsTold t → Contains t.steps s → clause_told t.steps s.id ≡ Some s.literals
clause_told-found t s told (k, within, at) = rw at at (found_at t.steps k s told.rising within)

-- an id that isn't forgotten is that of a step
unforgotten_step-cases : (s : ToldStep) (steps : List ToldStep) (id : ℕ) (b f : Bool) → eqb s.id id ≡ b → s.forgotten ≡ f → (b && not f || list_any (λ q. eqb q.id id && not q.forgotten) steps) ≡ true → (IsUnforgotten steps id → (r : ToldStep) × Contains steps r × (r.id ≡ id) × (r.forgotten ≡ false)) → (r : ToldStep) × Contains (s ∷ steps) r × (r.id ≡ id) × (r.forgotten ≡ false)
unforgotten_step-cases s steps id true false e f h later = (s, Contains-front s steps, eqb-true s.id id e, f)
unforgotten_step-cases s steps id true true e f h later = let p = later h in (p.0, Contains-later s steps p.0 p.1, p.2, p.3)
unforgotten_step-cases s steps id false f e is h later = let p = later h in (p.0, Contains-later s steps p.0 p.1, p.2, p.3)

pub unforgotten_step : (steps : List ToldStep) (id : ℕ) → IsUnforgotten steps id → (s : ToldStep) × Contains steps s × (s.id ≡ id) × (s.forgotten ≡ false)
unforgotten_step [] id h = absurd (cc)
unforgotten_step (s ∷ steps) id h =
    unforgotten_step-cases s steps id (eqb s.id id) s.forgotten refl refl h (unforgotten_step steps id)

unforgotten_at : (steps : List ToldStep) (s : ToldStep) (k : ℕ) → k < length steps → get_or steps k s ≡ s → s.forgotten ≡ false → IsUnforgotten steps s.id
unforgotten_at [] s k within at f = absurd (omega arith)
unforgotten_at (r ∷ steps) s zero within at f =
    let same : r.id ≡ s.id = ap (λ (q : ToldStep). q.id) at in
    let kept : r.forgotten ≡ false = ap (λ (q : ToldStep). q.forgotten) at ∙ f in
    rw (eq-eqb r.id s.id same, kept) refl
unforgotten_at (r ∷ steps) s (suc k) within at f = rw (unforgotten_at steps s k (omega arith) at f) (or-true (eqb r.id s.id && not r.forgotten))

-- and that of a step that isn't forgotten isn't
pub IsUnforgotten-step : (steps : List ToldStep) (s : ToldStep) → Contains steps s → s.forgotten ≡ false → IsUnforgotten steps s.id
IsUnforgotten-step steps s (k, within, at) f = unforgotten_at steps s k within at f

-- one step for each id
pub one_step : (t : Told) (r s : ToldStep) → IsTold t → Contains t.steps r → Contains t.steps s → r.id ≡ s.id → r ≡ s
one_step t r s told (i, i_within, i_at) (j, j_within, j_at) same =
    let r_at : get_or t.steps i s ≡ r = get_or_default t.steps i s r i_within ∙ i_at in
    let low : (get_or t.steps i s).id ≡ r.id = ap (λ (q : ToldStep). q.id) r_at in
    let high : (get_or t.steps j s).id ≡ s.id = ap (λ (q : ToldStep). q.id) j_at in
    elim (dec_lt i j) [
      | Prim.yes before ↦ absurd (let up : (get_or t.steps i s).id < (get_or t.steps j s).id = told.rising i j s before j_within in omega arith)
      | Prim.no past ↦ elim (dec_lt j i) [
        | Prim.yes after ↦ absurd (let down : (get_or t.steps j s).id < (get_or t.steps i s).id = told.rising j i s after i_within in omega arith)
        | Prim.no upto ↦
            let not_below : i < j → ⊥ = past in
            let not_above : j < i → ⊥ = upto in
            let even : i ≡ j = omega arith in
            sym r_at ∙ ap (λ k. get_or t.steps k s) even ∙ j_at
      ]
    ]

-- a step of the part is one of the whole
in_part-cases : (p : ℕ → Bool) (q : ToldStep) (steps : List ToldStep) (s : ToldStep) (b : Bool) → p q.id ≡ b → Contains (map unforgotten (cond b (q ∷ filter (λ r. p r.id) steps) (filter (λ r. p r.id) steps))) s → (Contains (part p steps) s → (r : ToldStep) × Contains steps r × (s ≡ unforgotten r) × (p r.id ≡ true)) → (r : ToldStep) × Contains (q ∷ steps) r × (s ≡ unforgotten r) × (p r.id ≡ true)
in_part-cases p q steps s true e (zero, within, at) later = (q, Contains-front q steps, sym at, e)
in_part-cases p q steps s true e (suc k, within, at) later =
    let w = later (k, omega arith, at) in (w.0, Contains-later q steps w.0 w.1, w.2, w.3)
in_part-cases p q steps s false e here later = let w = later here in (w.0, Contains-later q steps w.0 w.1, w.2, w.3)

in_part : (p : ℕ → Bool) (steps : List ToldStep) (s : ToldStep) → Contains (part p steps) s → (r : ToldStep) × Contains steps r × (s ≡ unforgotten r) × (p r.id ≡ true)
in_part p [] s (k, within, at) = absurd (omega arith)
in_part p (q ∷ steps) s here = in_part-cases p q steps s (p q.id) refl here (in_part p steps s)

-- a step of the whole that passes is one of the part
part_has-cases : (p : ℕ → Bool) (q : ToldStep) (steps : List ToldStep) (s : ToldStep) (b : Bool) → Contains (part p steps) s → Contains (map unforgotten (cond b (q ∷ filter (λ r. p r.id) steps) (filter (λ r. p r.id) steps))) s
part_has-cases p q steps s true here = Contains-later (unforgotten q) (part p steps) s here
part_has-cases p q steps s false here = here

part_has : (p : ℕ → Bool) (steps : List ToldStep) (s : ToldStep) (k : ℕ) → k < length steps → get_or steps k s ≡ s → p s.id ≡ true → Contains (part p steps) (unforgotten s)
part_has p [] s k within at on = absurd (omega arith)
part_has p (q ∷ steps) s zero within at on =
    let passes : p q.id ≡ true = ap (λ (r : ToldStep). p r.id) at ∙ on in
    rw passes (0, omega arith, ap unforgotten at)
part_has p (q ∷ steps) s (suc k) within at on = part_has-cases p q steps (unforgotten s) (p q.id) (part_has p steps s k (omega arith) at on)

pub NeededPart-steps : (steps part : List ToldStep) (root : ℕ) (s : ToldStep) → IsNeededPart steps root part → Contains part s → (r : ToldStep) × Contains steps r × (s ≡ unforgotten r) × IsNeeded steps root r.id
NeededPart-steps steps part root s (p, needed, is) here =
    let w = in_part p steps s (rw is at here) in
    (w.0, w.1, w.2, (needed w.0 w.1).0 w.3)

pub NeededPart-has : (steps part : List ToldStep) (root : ℕ) (s : ToldStep) → IsNeededPart steps root part → Contains steps s → IsNeeded steps root s.id → Contains part (unforgotten s)
NeededPart-has steps part root s (p, needed, is) here need =
    rw is (part_has p steps s here.0 here.1 here.2 ((needed s here).1 need))

-- marks change no clause
clause_told-unforgotten : (steps : List ToldStep) (x : ℕ) → clause_told (map unforgotten steps) x ≡ clause_told steps x
clause_told-unforgotten [] x = refl
clause_told-unforgotten (s ∷ steps) x = ap (λ (c : Option Clause). cond (eqb s.id x) (Some s.literals) c) (clause_told-unforgotten steps x)

pub NeededPart-clause : (steps part : List ToldStep) (root id : ℕ) → IsNeededPart steps root part → IsNeeded steps root id → clause_told part id ≡ clause_told steps id
NeededPart-clause steps part root id (p, needed, is) need =
    rw is (clause_told-unforgotten (filter (λ s. p s.id) steps) id ∙ clause_told-left (λ s. p s.id) steps id (λ r here same. (needed r here).1 (rw same need)))

pub NeededPart-root : (t : Told) (part : List ToldStep) (root : ℕ) → IsTold t → IsUnforgotten t.steps root → IsNeededPart t.steps root part → last_id part ≡ Some root
NeededPart-root t part root told here (p, needed, is) =
    rw is (last_needed t.steps root p told.rising told.stand here needed)

-- the root isn't forgotten in the part either
pub NeededPart-unforgotten : (steps part : List ToldStep) (root : ℕ) → IsNeededPart steps root part → IsUnforgotten steps root → IsUnforgotten part root
NeededPart-unforgotten steps part root needed here =
    let w = unforgotten_step steps root here in
    let need : IsNeeded steps root w.0.id = λ p rooted closed. rw w.2 rooted in
    rw (← w.2) (IsUnforgotten-step part (unforgotten w.0) (NeededPart-has steps part root w.0 needed w.1 need) refl)

-- the steps with no mark stand as they did
at_unforgotten : (k : ℕ) (steps : List ToldStep) (d : ToldStep) → k < length steps → get_or (map unforgotten steps) k d ≡ unforgotten (get_or steps k d)
at_unforgotten k steps d h =
    let within : k < length (map unforgotten steps) = rw length-map h in
    get_or_default (map unforgotten steps) k d (unforgotten d) within ∙ get_or-map unforgotten steps k d

AreRising-unforgotten : (steps : List ToldStep) → AreRising steps → AreRising (map unforgotten steps)
AreRising-unforgotten steps rising i j d before within =
    let j_within : j < length steps = rw length-map at within in
    rw (at_unforgotten i steps d (omega arith), at_unforgotten j steps d j_within) (rising i j d before j_within)

EachStands-unforgotten : (steps : List ToldStep) → EachStands steps → EachStands (map unforgotten steps)
EachStands-unforgotten steps stand k d within =
    let k_within : k < length steps = rw length-map at within in
    rw (at_unforgotten k steps d k_within, take-map) (StandsOn-same (take k steps) (map unforgotten (take k steps)) _ _ (λ x here. clause_told-unforgotten (take k steps) x) (stand k d k_within))

-- what a needed step stands on is needed
needed_closed : (steps : List ToldStep) (root a : ℕ) (s : ToldStep) → Contains steps s → IsNeeded steps root s.id → Contains (antecedents s.origin) a → IsNeeded steps root a
needed_closed steps root a s here need ante p rooted closed = closed s a here (need p rooted closed) ante

-- so the needed steps stand on one another by themselves
pub NeededPart-stand : (steps part : List ToldStep) (root : ℕ) → EachStands steps → IsNeededPart steps root part → EachStands part
NeededPart-stand steps part root stand (p, needed, is) =
    rw is (EachStands-unforgotten (filter (λ s. p s.id) steps) (EachStands-left (λ s. p s.id) steps stand (λ s r here there on ante. (needed r there).1 (needed_closed steps root r.id s here ((needed s here).0 on) ante))))

pub NeededPart-rising : (steps part : List ToldStep) (root : ℕ) → AreRising steps → IsNeededPart steps root part → AreRising part
NeededPart-rising steps part root rising (p, needed, is) =
    rw is (AreRising-unforgotten (filter (λ s. p s.id) steps) (AllPairs-filter (λ r s. r.id < s.id) (λ s. p s.id) steps rising))

-- originals among them are normal where all are
pub NeededPart-normal : (steps part : List ToldStep) (root : ℕ) → OriginalsNormal steps → IsNeededPart steps root part → OriginalsNormal part
NeededPart-normal steps part root normal needed k d within original =
    let s : ToldStep = get_or part k d in
    let w = NeededPart-steps steps part root s needed (k, within, get_or_default part k s d within) in
    let is : get_or steps w.1.0 s ≡ w.0 = get_or_default steps w.1.0 s w.0 w.1.1 ∙ w.1.2 in
    let of_step : IsOriginal w.0.origin → IsNormal w.0.literals = rw is at (normal w.1.0 s w.1.1) in
    rw w.2 (of_step (rw w.2 at original))

pub NeededPart-told : (t u : Told) (root : ℕ) → IsTold t → IsNeededPart t.steps root u.steps → u.greatest ≡ Some root → IsTold u
NeededPart-told t u root told needed greatest = record {
  rising = NeededPart-rising t.steps u.steps root told.rising needed;
  greatest = λ k d within.
      let s : ToldStep = get_or u.steps k d in
      let w = NeededPart-steps t.steps u.steps root s needed (k, within, get_or_default u.steps k s d within) in
      let low : w.0.id ≤ root = needed_below_root t.steps root w.0.id told.rising told.stand w.3 in
      let same : s.id ≡ w.0.id = ap (λ (q : ToldStep). q.id) w.2 in
      (root, greatest, rw same low);
  stand = NeededPart-stand t.steps u.steps root told.stand needed;
}
