-- The root of the last refutation, and what becomes of it.
use Rattle.std.proofs.Common.{◌≡◌, inl, inr, ℕ, ◌<◌, ◌≤◌, ◌⊎◌, Bool, true, false, cond, not, ◌&&◌, ◌||◌, eqb, List, [], ◌∷◌, map, Contains, Option, Some, None, refl, sym, ap, subst, ◌∙◌, arith}
use Rattle.std.specs.List.{list_any}
use Rattle.std.specs.Option.{ForSome, is_some, option_map}
use Rattle.std.proofs.lemmas.Bool.{false_from_ne_true}
use Rattle.craig_spec.specs.Chain.{Told, ToldStep, IsUnforgotten, clause_told, forgotten_at, without_id}
use Rattle.craig_base.specs.declared.clause_id.ClauseId.{ClauseId}
use Rattle.craig_watch.specs.Held.{HeldView, held_clause}
use Rattle.craig_search.specs.declared.verdict.Verdict.{Verdict}
use Rattle.craig_search.specs.declared.verdict.Verdict.TheVariants as verdict
use Rattle.craig_search.specs.Tells.{IsVerdictTold, TellsVerdict, WasTold}
use Rattle.craig_search.specs.Verdict.{Assumptions}
use Rattle.craig_solver.specs.declared.answer.Answer.{Answer}
use Rattle.craig_solver.specs.declared.answer.Answer.TheVariants as answer
use Rattle.craig_solver.specs.Answer.{root_of_answer}
use Rattle.craig_solver.specs.Settling.{IsAnswerFor, root_of_verdict}
use Rattle.craig_solver.specs.State.{AreOriginals, IsState, StateView, root_number}
use Rattle.craig_solver.specs.Told.{AreAllAccepted, IsToldOf}
use Rattle.craig_proof.proofs.AppendsLemmas.{before_forgotten, told_before}
use Rattle.craig_proof.proofs.PartLemmas.{IsUnforgotten-step, unforgotten_step}
use Rattle.craig_search.proofs.ForgottenLemmas.{unforgotten-below}
use Rattle.craig_solver.proofs.ToldLemmas.{AreAccepted-originals, AreAllAccepted-originals}

-- the root that a solver keeps is that of its answer
root_of-cases : (h : HeldView) (v : Verdict) (a : Answer) → IsAnswerFor h v a → root_number (root_of_verdict v) ≡ root_of_answer a
root_of-cases h verdict.Model (answer.Model values) for = refl
root_of-cases h verdict.Model (answer.Failed root places) for = absurd for
root_of-cases h verdict.Model (answer.Limit lemmas) for = absurd for
root_of-cases h (verdict.Failed root places) a for = sym (ap root_of_answer for)
root_of-cases h (verdict.Limit lemmas) a for = sym (ap root_of_answer for)

pub root_of-answer : (h : HeldView) (v : Verdict) (a : Answer) (root : Option ClauseId) → root ≡ root_of_verdict v → IsAnswerFor h v a → root_number root ≡ root_of_answer a
root_of-answer h v a root is for = ap root_number is ∙ root_of-cases h v a for

number-is : (root : Option ClauseId) (n : ℕ) → root_number root ≡ Some n → (id : ClauseId) × (root ≡ Some id) × (id.0 ≡ n)
number-is None n h = absurd (let no : None ≡ Some n = h in cc)
number-is (Some id) n h = (id, refl, let same : Some id.0 ≡ Some n = h in cc)

-- after an id is forgotten no step of it is left that isn't
gone-cases : (id : ℕ) (s : ToldStep) (rest : List ToldStep) (b : Bool) → eqb s.id id ≡ b → list_any (λ (q : ToldStep). eqb q.id id && not q.forgotten) rest ≡ false → (eqb (cond b (record { id = s.id; literals = s.literals; origin = s.origin; forgotten = true }) s).id id && not (cond b (record { id = s.id; literals = s.literals; origin = s.origin; forgotten = true }) s).forgotten || list_any (λ (q : ToldStep). eqb q.id id && not q.forgotten) rest) ≡ false
gone-cases id s rest true e none = rw (e, none) refl
gone-cases id s rest false e none = rw (e, none) refl

gone : (id : ℕ) (steps : List ToldStep) → list_any (λ (q : ToldStep). eqb q.id id && not q.forgotten) (map (forgotten_at id) steps) ≡ false
gone id [] = refl
gone id (s ∷ steps) = gone-cases id s (map (forgotten_at id) steps) (eqb s.id id) refl (gone id steps)

-- each step was told before or has an id of the search
told-steps : (h n : HeldView) (assumptions : Assumptions) (v : Verdict) (t u : Told) → TellsVerdict h n assumptions v t u → (s : ToldStep) → Contains u.steps s → WasTold t s ⊎ (h.arena.given ≤ s.id)
told-steps h n assumptions verdict.Model t u told s here = elim (told.steps s here) [ inl was ↦ inl was | inr of ↦ inr of.later ]
told-steps h n assumptions (verdict.Failed root places) t u told s here = elim (told.0.steps s here) [ inl was ↦ inl was | inr of ↦ inr of.later ]
told-steps h n assumptions (verdict.Limit lemmas) t u told s here = elim (told.steps s here) [ inl was ↦ inl was | inr of ↦ inr of.later ]

-- so what was forgotten stays so
stays-forgotten : (given id : ℕ) (t u : Told) → ((s : ToldStep) → Contains u.steps s → WasTold t s ⊎ (given ≤ s.id)) → id < given → (IsUnforgotten t.steps id → ⊥) → IsUnforgotten u.steps id → ⊥
stays-forgotten given id t u steps low never kept =
    let m = unforgotten_step u.steps id kept in
    elim (steps m.0 m.1) [
      | inl was ↦ never (subst (IsUnforgotten t.steps) (was.2 ∙ m.2) (IsUnforgotten-step t.steps was.0 was.1 (false_from_ne_true was.0.forgotten (λ f. let no : true ≡ false = sym (was.5 f) ∙ m.3 in cc))))
      | inr later ↦ omega (arith, later, m.2, low)
    ]

-- an id that was forgotten isn't unforgotten
gone-after : (before after : Option Told) (id : ℕ) → after ≡ option_map (without_id id) before → ForSome after (λ t. IsUnforgotten t.steps id → ⊥)
gone-after before after id is u at was =
    let t = before_forgotten before after id u is at in
    let none : list_any (λ (q : ToldStep). eqb q.id id && not q.forgotten) u.steps ≡ false = ap (λ (w : Told). list_any (λ (q : ToldStep). eqb q.id id && not q.forgotten) w.steps) t.2 ∙ gone id t.0.steps in
    let no : false ≡ true = sym none ∙ was in
    cc

pub root-gone : (before after : Option Told) (root : Option ClauseId) (r : ClauseId) → root ≡ Some r → after ≡ option_map (without_id r.0) before → (id : ClauseId) → root ≡ Some id → ForSome after (λ t. IsUnforgotten t.steps id.0 → ⊥)
root-gone before after root r is forgotten id at =
    let same : r ≡ id = (let e : Some r ≡ Some id = sym is ∙ at in cc) in
    subst (λ (c : ClauseId). ForSome after (λ t. IsUnforgotten t.steps c.0 → ⊥)) same (gone-after before after r.0 forgotten)

-- the root before a search is forgotten after it
pub root-forgotten : (s : StateView) (mid after : Option Told) (g n : HeldView) (assumptions : Assumptions) (v : Verdict) → IsState s → ((id : ClauseId) → s.root ≡ Some id → ForSome mid (λ t. IsUnforgotten t.steps id.0 → ⊥)) → is_some mid ≡ is_some s.told → g ≡ s.held → is_some after ≡ is_some mid → IsVerdictTold g n assumptions v mid after → (k : ℕ) → root_number s.root ≡ Some k → ForSome after (λ t. IsUnforgotten t.steps k → ⊥)
root-forgotten s mid after g n assumptions v state forgotten told_on same tells told k number u at live =
    let id = number-is s.root k number in
    let m = told_before mid after u tells at in
    let t = told_before s.told mid m.0 told_on m.1 in
    let below : id.0.0 < s.held.arena.given = unforgotten-below t.0 (held_clause s.held.arena) s.held.arena.given id.0.0 (state.begins.covers t.0 t.1) (state.root_of id.0 id.1 t.0 t.1).0 in
    let low : k < g.arena.given = subst (λ (b : HeldView). k < b.arena.given) (sym same) (subst (λ (x : ℕ). x < s.held.arena.given) id.2 below) in
    let never : IsUnforgotten m.0.steps k → ⊥ = λ was. forgotten id.0 id.1 m.0 m.1 (subst (IsUnforgotten m.0.steps) (sym id.2) was) in
    stays-forgotten g.arena.given k m.0 u (told-steps g n assumptions v m.0 u (told m.0 u m.1 at)) low never live

-- the root of a solver is an empty clause that isn't forgotten
pub root-told : (dead : Bool) (s : StateView) → (dead ≡ false → IsState s) → (k : ℕ) → cond dead None (root_number s.root) ≡ Some k → ForSome s.told (λ t. IsUnforgotten t.steps k × (clause_told t.steps k ≡ Some []))
root-told true s state k is = absurd (let no : None ≡ Some k = is in cc)
root-told false s state k is = λ t at.
    let id = number-is s.root k is in
    let r = (state refl).root_of id.0 id.1 t at in
    subst (λ (x : ℕ). IsUnforgotten t.steps x × (clause_told t.steps x ≡ Some [])) id.2 (r.0, r.1)

-- what was told of the accepted clauses
pub IsToldOf-state : (s : StateView) → IsState s → ForSome s.told (IsToldOf s.accepted)
IsToldOf-state s state t at = record {
  stand = (state.begins.covers t at).stand;
  originals = AreAccepted-originals s.accepted s.root s.units t (state.originals t at);
  all_told = state.all_told t at;
}

number-none : (root : Option ClauseId) → root_number root ≡ None → root ≡ None
number-none None is = refl
number-none (Some id) is = absurd (let no : Some id.0 ≡ None = is in cc)

-- where there is no root, no unit is left
pub units-gone : (s : StateView) → IsState s → root_number s.root ≡ None → ForSome s.told (AreAllAccepted s.accepted)
units-gone s state none t at =
    AreAllAccepted-originals s.accepted s.units t (subst (λ (r : Option ClauseId). AreOriginals s.accepted r s.units t) (number-none s.root none) (state.originals t at))

-- the same of a solver that may be dead
pub told-shown : (dead : Bool) (s : StateView) → (dead ≡ false → IsState s) → dead ≡ false → ForSome s.told (IsToldOf s.accepted)
told-shown dead s state alive = IsToldOf-state s (state alive)

pub units-shown : (dead : Bool) (s : StateView) → (dead ≡ false → IsState s) → dead ≡ false → cond dead None (root_number s.root) ≡ None → ForSome s.told (AreAllAccepted s.accepted)
units-shown dead s state alive none =
    units-gone s (state alive) (ap (λ (b : Bool). cond b None (root_number s.root)) (sym alive) ∙ none)
