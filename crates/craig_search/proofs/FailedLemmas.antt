-- What a failure says of the clauses of the start, and what was told of it.
use Rattle.std.proofs.Common.{◌≡◌, ◌⊎◌, inl, inr, ℕ, suc, ◌+◌, ◌-◌, ◌<◌, ◌≤◌, true, false, List, [], ◌∷◌, length, map, Contains, Option, Some, None, IsSome, refl, sym, subst, ◌∙◌, arith}
use Rattle.std.specs.Option.{option_map}
use Rattle.std.proofs.lemmas.Bool.{cases_lt}
use Rattle.std.proofs.lemmas.List.Elements.{Contains-append_left, Contains-push}
use Rattle.std.proofs.lemmas.Option.{same_Some, slice_get_within}
use Rattle.craig_spec.specs.Literal.{Literal, Clause}
use Rattle.craig_spec.specs.Chain.{Derived, Told, ToldStep, antecedents, with_step}
use Rattle.craig_spec.specs.Truth.{clause_value}
use Rattle.craig_spec.proofs.MemberLemmas.{Contains-image, list_all-member}
use Rattle.craig_base.proofs.LookUpLemmas.{flagged, held-below}
use Rattle.craig_base.specs.Arena.{IsArena, clause_at}
use Rattle.craig_base.specs.declared.script_part.Part.{Part}
use Rattle.craig_proof.specs.Covers.{Covers}
use Rattle.craig_proof.specs.Tracer.{chain_of, derived_step, original_step}
use Rattle.craig_proof.proofs.ChainGrowthLemmas.{ChainOk-given}
use Rattle.craig_proof.proofs.FollowsLemmas.{ChainOk-true}
use Rattle.craig_proof.proofs.RootLemmas.{needed_below_root}
use Rattle.craig_order.specs.Order.{OrderView}
use Rattle.craig_watch.specs.Held.{HeldView, held_clause}
use Rattle.craig_search.specs.Failing.{IsFailure, look_up, with_ids, with_units_told}
use Rattle.craig_search.specs.Leaves.{IsReady, Leaves}
use Rattle.craig_search.specs.Searching.{IsSearching}
use Rattle.craig_search.specs.Tells.{IsOfSearch, IsRoot, IsUnitId, Tells}
use Rattle.craig_search.specs.Verdict.{Assumptions, IsRefuted, at_places}
use Rattle.craig_search.proofs.TellsLemmas.{Tells-pushed}
use Rattle.craig_search.proofs.UnitLemmas.{length-at_places, look_up-cases, look_up-low, units-there}
use Rattle.craig_search.proofs.VerdictLemmas.{Tells-weaker}

-- the clauses of the start have no model that makes the assumptions true
pub failed-contradictory : (start mid new : HeldView) (assumptions : Assumptions) (root : ℕ) (places : List ℕ) (origin before after : Option Told) → IsSearching start mid origin before → IsFailure assumptions mid new root places before after → IsRefuted start assumptions places
failed-contradictory start mid new assumptions root places origin before after search f = record {
  first_places = f.first_places;
  contradictory = λ s model assumed.
      let xs : Assumptions = at_places assumptions places in
      let value : clause_value s [] ≡ true = ChainOk-true (look_up (held_clause mid.arena) mid.arena.given xs) [] f.first (chain_of f.rest) f.chain s (λ id c named found. elim (look_up-cases (held_clause mid.arena) mid.arena.given xs id c found) [
        | inl held ↦ search.leaves.implied id c held s model
        | inr unit ↦ list_all-member (clause_value s) (map (λ a. a.1 ∷ []) xs) c (subst (Contains (map (λ a. a.1 ∷ []) xs)) (sym unit.2) (Contains-image (λ (a : Part × Literal). a.1 ∷ []) xs unit.0 unit.1)) assumed
      ]) in
      let no : false ≡ true = value in
      cc;
}

-- what is left after the ids were given
leaves-ids : (start old : HeldView) (n : ℕ) → Leaves start old → Leaves start (with_ids old n)
leaves-ids start old n left = record {
  vars = left.vars;
  dead = left.dead;
  given = omega (arith, left.given);
  stay = left.stay;
  older = left.older;
  learnt = left.learnt;
  implied = left.implied;
  variables = left.variables;
}

pub failed-leaves : (start mid new : HeldView) (assumptions : Assumptions) (root : ℕ) (places : List ℕ) (origin before after : Option Told) → IsSearching start mid origin before → IsFailure assumptions mid new root places before after → Leaves start new
failed-leaves start mid new assumptions root places origin before after search f = subst (Leaves start) (sym f.numbered) (leaves-ids start mid (length places + 1) search.leaves)

pub failed-ready : (mid new : HeldView) (o : OrderView) (n : ℕ) → new ≡ with_ids mid n → IsReady mid o → IsReady new o
failed-ready mid new o n is ready = subst (λ (h : HeldView). IsReady h o) (sym is) (record { known = ready.known; given_back = ready.given_back })

-- the units are of the search
tells-units : (lent : ℕ → Option Clause) (first : ℕ) (IsUnit : ℕ → Type 0) (t u : Told) (id : ℕ) (xs : Assumptions) → first ≤ id → ((k : ℕ) → id ≤ k → k < id + length xs → IsUnit k) → Tells lent first IsUnit t u → Tells lent first IsUnit t (with_units_told id xs u)
tells-units lent first IsUnit t u id [] le unit tells = tells
tells-units lent first IsUnit t u id (a ∷ xs) le unit tells =
    let one : IsOfSearch lent first IsUnit (original_step id a.0.0 (a.1 ∷ [])) = record {
      later = le;
      originals = λ _. unit id (omega arith) (omega arith);
      antecedents = λ x none. absurd (let w : none.0 < 0 = none.1 in omega arith);
    } in
    tells-units lent first IsUnit t (with_step u (original_step id a.0.0 (a.1 ∷ []))) (suc id) xs (omega (arith, le)) (λ k low high. unit k (omega (arith, low)) (omega (arith, high))) (Tells-pushed lent first IsUnit t u (original_step id a.0.0 (a.1 ∷ [])) tells one)

some-literals : {A B : Type 0} (f : A → B) (o : Option A) (c : A) → o ≡ Some c → IsSome (option_map f o)
some-literals f o c is = rw is refl

map-some : {A B : Type 0} (f : A → B) (o : Option A) (y : B) → option_map f o ≡ Some y → (x : A) × (o ≡ Some x) × (f x ≡ y)
map-some f None y is = absurd (let no : None ≡ Some y = is in cc)
map-some f (Some x) y is = (x, refl, same_Some _ _ is)

none-held : (o : Option Clause) → ((c : Clause) → o ≡ Some c → ⊥) → o ≡ None
none-held None h = refl
none-held (Some c) h = absurd (h c refl)

some-held : (o : Option Clause) → IsSome o → (c : Clause) × (o ≡ Some c)
some-held None held = absurd (let no : false ≡ true = held in cc)
some-held (Some c) held = (c, refl)

-- the antecedents of the root are lent clauses, or of the search
root-antecedents : (start mid new : HeldView) (assumptions : Assumptions) (root : ℕ) (places : List ℕ) (origin before after : Option Told) → IsSearching start mid origin before → (f : IsFailure assumptions mid new root places before after) → IsArena mid.arena → (a : ℕ) → Contains (antecedents (Derived f.first (chain_of f.rest))) a → (start.arena.given ≤ a) ⊎ IsSome (held_clause start.arena a)
root-antecedents start mid new assumptions root places origin before after search f ok a named =
    let xs : Assumptions = at_places assumptions places in
    let p = ChainOk-given (look_up (held_clause mid.arena) mid.arena.given xs) [] f.first (chain_of f.rest) f.chain a named in
    elim (cases_lt a start.arena.given) [
      | inl low ↦
          let up : start.arena.given ≤ mid.arena.given = search.leaves.given in
          let held : held_clause mid.arena a ≡ Some p.0 = sym (look_up-low (held_clause mid.arena) mid.arena.given xs a (omega arith)) ∙ p.1 in
          let g = flagged (clause_at mid.arena a) p.0 held in
          let q = search.leaves.older a g.0 low g.1 in
          inr (some-literals (λ c. c.literals) (clause_at start.arena a) q.0 q.1)
      | inr high ↦ inl high
    ]

-- what was told of the failure
pub failed-told : (start mid new : HeldView) (assumptions : Assumptions) (root : ℕ) (places : List ℕ) (origin before after : Option Told) (t u : Told) → IsSearching start mid origin before → IsFailure assumptions mid new root places before after → IsArena mid.arena → Covers u (held_clause new.arena) new.arena.given → origin ≡ Some t → after ≡ Some u → Tells (held_clause start.arena) start.arena.given (IsUnitId root places) t u × IsRoot new assumptions root places t u
failed-told start mid new assumptions root places origin before after t u search f ok covers is also =
    let xs : Assumptions = at_places assumptions places in
    let IsUnit : ℕ → Type 0 = IsUnitId root places in
    let long : length xs ≡ length places = length-at_places assumptions places (λ k d within. (let p = f.first_places.first k d within in slice_get_within assumptions _ p.0 p.1)) in
    let first_id : ℕ = mid.arena.given in
    let step : ToldStep = derived_step root [] f.first f.rest in
    let w = map-some (λ (v : Told). with_step (with_units_told first_id xs v) step) before u (sym f.told ∙ also) in
    let so_far = Tells-weaker (held_clause start.arena) start.arena.given (λ id. ⊥) IsUnit t w.0 (λ id no. absurd no) (search.tells t w.0 is w.1) in
    let next : root ≡ first_id + length places = f.next in
    let up : start.arena.given ≤ first_id = search.leaves.given in
    let with_all = tells-units (held_clause start.arena) start.arena.given IsUnit t w.0 first_id xs up (λ k low high. (omega (arith, high, long, next), omega (arith, low, next))) so_far in
    let of : IsOfSearch (held_clause start.arena) start.arena.given IsUnit step = record {
      later = omega arith;
      originals = λ no. absurd no;
      antecedents = root-antecedents start mid new assumptions root places origin before after search f ok;
    } in
    let tells : Tells (held_clause start.arena) start.arena.given IsUnit t u = subst (Tells (held_clause start.arena) start.arena.given IsUnit t) w.2 (Tells-pushed (held_clause start.arena) start.arena.given IsUnit t (with_units_told first_id xs w.0) step with_all of) in
    let below : (id : ℕ) (c : Clause) → held_clause new.arena id ≡ Some c → id < first_id = λ id c held. held-below mid.arena id c ok (subst (λ (h : HeldView). held_clause h.arena id ≡ Some c) f.numbered held) in (
      tells,
      record {
        first = f.first;
        rest = chain_of f.rest;
        told = subst (λ (v : Told). Contains v.steps step) w.2 (Contains-push (with_units_told first_id xs w.0).steps step);
        units = λ k a at. (
            let base : first_id + k ≡ root - length places + k = omega arith in
            subst (λ (v : Told). Contains v.steps (original_step (root - length places + k) a.0.0 (a.1 ∷ []))) w.2
            (subst (λ (n : ℕ). Contains (with_step (with_units_told first_id xs w.0) step).steps (original_step n a.0.0 (a.1 ∷ []))) base (Contains-append_left (with_units_told first_id xs w.0).steps (step ∷ []) (original_step (first_id + k) a.0.0 (a.1 ∷ [])) (units-there first_id xs w.0 k a at)))
            );
        needs = λ s here original needed. elim (tells.steps s here) [ inl was ↦ inl was | inr of_it ↦ inr (of_it.originals original) ];
        last = λ id c held. omega (arith, below id c held);
        root_not_held = none-held (held_clause new.arena root) (λ c held. omega (arith, below root c held));
        units_not_held = λ id unit. none-held (held_clause new.arena id) (λ c held. omega (arith, below id c held, unit.1));
        units_not_needed = λ id unit held is_unit needed.
            let at_most : unit ≤ id = needed_below_root u.steps id unit covers.stand.rising covers.stand.stand needed in
            let c = some-held (held_clause new.arena id) held in
            omega (arith, below id c.0 c.1, is_unit.1);
      },
    )
