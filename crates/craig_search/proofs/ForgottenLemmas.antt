-- Ids that are forgotten.
use Rattle.std.proofs.Common.{◌≡◌, ◌≢◌, ℕ, ◌<◌, ◌≤◌, Bool, true, false, cond, not, ◌&&◌, eqb, Contains, Some, refl, sym, ap, subst, ◌∙◌, arith, eqb-true, ne_eqb, Option}
use Rattle.std.proofs.lemmas.Bool.{and_parts, eqb-false}
use Rattle.std.proofs.lemmas.List.Elements.{All-contains}
use Rattle.craig_spec.specs.Literal.{Clause}
use Rattle.craig_spec.specs.Chain.{Told, ToldStep, IsUnforgotten, forgotten_at, without_id}
use Rattle.craig_spec.proofs.MemberLemmas.{Contains-from_image, Contains-image, list_any-find}
use Rattle.craig_proof.specs.Covers.{Covers}
use Rattle.craig_proof.proofs.PartLemmas.{IsUnforgotten-step, unforgotten_step}

-- every step was told before the next id
pub told-below : (t : Told) (f : ℕ → Option Clause) (given : ℕ) (s : ToldStep) → Covers t f given → Contains t.steps s → s.id < given
told-below t f given s covers here =
    let g = All-contains (λ (r : ToldStep). (n : ℕ) × (t.greatest ≡ Some n) × (r.id ≤ n)) t.steps s covers.stand.greatest here in
    let low : g.0 < given = covers.next g.0 g.1 in
    omega (arith, low, g.2)

-- what isn't forgotten was told before the next id
pub unforgotten-below : (t : Told) (f : ℕ → Option Clause) (given id : ℕ) → Covers t f given → IsUnforgotten t.steps id → id < given
unforgotten-below t f given id covers kept =
    let m = list_any-find (λ (r : ToldStep). eqb r.id id && not r.forgotten) t.steps kept in
    let same : m.0.id ≡ id = eqb-true m.0.id id (and_parts _ _ m.2).0 in
    subst (λ (n : ℕ). n < given) same (told-below t f given m.0 covers m.1)

forgotten-cases : (b : Bool) (s : ToldStep) → ((cond b (record { id = s.id; literals = s.literals; origin = s.origin; forgotten = true }) s).origin ≡ s.origin) × ((cond b (record { id = s.id; literals = s.literals; origin = s.origin; forgotten = true }) s).literals ≡ s.literals)
forgotten-cases true s = (refl, refl)
forgotten-cases false s = (refl, refl)

stays-cases : (b : Bool) (id : ℕ) (s : ToldStep) → eqb s.id id ≡ b → ((cond b (record { id = s.id; literals = s.literals; origin = s.origin; forgotten = true }) s).id ≡ s.id) × ((cond b (record { id = s.id; literals = s.literals; origin = s.origin; forgotten = true }) s).forgotten ≡ false → (s.forgotten ≡ false) × (s.id ≢ id))
stays-cases true id s is = (refl, λ no. absurd (let odd : true ≡ false = no in cc))
stays-cases false id s is = (refl, λ stays. (stays, eqb-false s.id id is))

-- the step that it was before an id was forgotten
pub forgotten-step : (t : Told) (id : ℕ) (s : ToldStep) → Contains (without_id id t).steps s → (m : ToldStep) × Contains t.steps m × (s.id ≡ m.id) × (s.literals ≡ m.literals) × (s.origin ≡ m.origin) × (s.forgotten ≡ false → (m.forgotten ≡ false) × (m.id ≢ id))
forgotten-step t id s here =
    let m = Contains-from_image (forgotten_at id) t.steps s here in
    let kept = forgotten-cases (eqb m.0.id id) m.0 in
    let stays = stays-cases (eqb m.0.id id) id m.0 refl in
    (m.0, m.1, ap (λ (r : ToldStep). r.id) m.2 ∙ stays.0, ap (λ (r : ToldStep). r.literals) m.2 ∙ kept.1, ap (λ (r : ToldStep). r.origin) m.2 ∙ kept.0, λ not. stays.1 (sym (ap (λ (r : ToldStep). r.forgotten) m.2) ∙ not))

-- what isn't forgotten stays so when another id is
pub IsUnforgotten-other : (t : Told) (id x : ℕ) → x ≢ id → IsUnforgotten t.steps x → IsUnforgotten (without_id id t).steps x
IsUnforgotten-other t id x other kept =
    let m = unforgotten_step t.steps x kept in
    let stays : forgotten_at id m.0 ≡ m.0 = ap (λ (b : Bool). cond b (record { id = m.0.id; literals = m.0.literals; origin = m.0.origin; forgotten = true }) m.0) (ne_eqb m.0.id id (λ e. other (sym m.2 ∙ e))) in
    let here : Contains (without_id id t).steps m.0 = subst (Contains (without_id id t).steps) stays (Contains-image (forgotten_at id) t.steps m.0 m.1) in
    subst (IsUnforgotten (without_id id t).steps) m.2 (IsUnforgotten-step (without_id id t).steps m.0 here m.3)

-- a step is told still when an id is forgotten
pub forgotten-still : (t : Told) (id : ℕ) (s : ToldStep) → Contains t.steps s → (m : ToldStep) × Contains (without_id id t).steps m × (m.id ≡ s.id) × (m.literals ≡ s.literals) × (m.origin ≡ s.origin)
forgotten-still t id s here =
    let kept = forgotten-cases (eqb s.id id) s in
    (forgotten_at id s, Contains-image (forgotten_at id) t.steps s here, (stays-cases (eqb s.id id) id s refl).0, kept.1, kept.0)
