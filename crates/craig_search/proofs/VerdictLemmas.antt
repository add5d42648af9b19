-- What a refutation says of the clauses of the start, and what was told of it.
use Rattle.std.proofs.Common.{◌≡◌, inl, inr, ℕ, ◌+◌, ◌<◌, true, false, [], Contains, Option, Some, None, sym, ap, subst, ◌∙◌, arith}
use Rattle.std.specs.List.{slice_get}
use Rattle.std.proofs.lemmas.List.Elements.{Contains-push}
use Rattle.craig_spec.specs.Literal.{Literal, Clause}
use Rattle.craig_spec.specs.Chain.{Told, ToldStep}
use Rattle.craig_spec.specs.Truth.{clause_value}
use Rattle.craig_base.specs.Arena.{IsArena}
use Rattle.craig_base.proofs.LookUpLemmas.{held-below}
use Rattle.craig_base.specs.declared.script_part.Part.{Part}
use Rattle.craig_proof.specs.Tracer.{chain_of, derived_step}
use Rattle.craig_order.specs.Order.{OrderView}
use Rattle.craig_watch.specs.Held.{HeldView, held_clause}
use Rattle.craig_search.specs.Leaves.{IsReady, Leaves}
use Rattle.craig_search.specs.Searching.{IsSearching, TellsEmptyClause}
use Rattle.craig_search.specs.Tells.{IsRoot, IsUnitId, Tells}
use Rattle.craig_search.specs.Verdict.{Assumptions, IsRefuted}
use Rattle.craig_proof.proofs.AppendsLemmas.{before_step}
use Rattle.craig_proof.proofs.FollowsLemmas.{ChainOk-true}
use Rattle.craig_search.proofs.LeavesLemmas.{Leaves-numbered}
use Rattle.craig_search.proofs.TellsLemmas.{Tells-pushed, derived-of_search}

-- an empty clause that follows has no model
pub refuted-contradictory : (start last end : HeldView) (root : ℕ) (origin before after : Option Told) (assumptions : Assumptions) → IsSearching start last origin before → TellsEmptyClause last end root before after → IsRefuted start assumptions []
refuted-contradictory start last end root origin before after assumptions search refutation = record {
  first_places = record { rising = λ k low. absurd (omega arith); first = λ k d within. absurd (omega arith) };
  contradictory = λ s model _.
      let value : clause_value s [] ≡ true = ChainOk-true (held_clause last.arena) [] refutation.first (chain_of refutation.rest) refutation.chain s (λ id c named found. search.leaves.implied id c found s model) in
      let no : false ≡ true = value in
      cc;
}

-- what is left after the id of the empty clause was numbered
pub refuted-leaves : (start last end : HeldView) (root : ℕ) (origin before after : Option Told) → IsSearching start last origin before → TellsEmptyClause last end root before after → Leaves start end
refuted-leaves start last end root origin before after search refutation =
    subst (Leaves start) (sym refutation.numbered) (Leaves-numbered start last search.leaves)

pub refuted-ready : (last end : HeldView) (o : OrderView) (root : ℕ) (before after : Option Told) → IsReady last o → TellsEmptyClause last end root before after → IsReady end o
refuted-ready last end o root before after ready refutation =
    subst (λ (h : HeldView). IsReady h o) (sym refutation.numbered) (record { known = ready.known; given_back = ready.given_back })

-- fewer originals than allowed
pub Tells-weaker : (lent : ℕ → Option Clause) (first : ℕ) (P Q : ℕ → Type 0) (t u : Told) → ((id : ℕ) → P id → Q id) → Tells lent first P t u → Tells lent first Q t u
Tells-weaker lent first P Q t u weaker tells = record {
  steps = λ s here. elim (tells.steps s here) [
    | inl was ↦ inl was
    | inr of ↦ inr (record { later = of.later; originals = λ original. weaker s.id (of.originals original); antecedents = of.antecedents })
  ];
  stay = tells.stay;
  unforgotten = tells.unforgotten;
}

nothing-there : (k : ℕ) (a : Part × Literal) → slice_get [] k ≡ Some a → ⊥
nothing-there k a is = let no : None ≡ Some a = is in cc

no-units : (root id : ℕ) → IsUnitId root [] id → ⊥
no-units root id unit = omega (arith, unit.0, unit.1)

some-not_none : (o : Option Clause) (c : Clause) → o ≡ Some c → o ≡ None → ⊥
some-not_none o c is none = let no : None ≡ Some c = sym none ∙ is in cc

-- the empty clause has the last id
root-last : (last end : HeldView) (root : ℕ) (before after : Option Told) → IsArena end.arena → TellsEmptyClause last end root before after → (id : ℕ) (c : Clause) → held_clause end.arena id ≡ Some c → id < root
root-last last end root before after ok refutation id c held =
    let fresh : held_clause end.arena root ≡ None = subst (λ (h : HeldView). held_clause h.arena root ≡ None) (sym refutation.numbered) refutation.fresh in
    let low : id < end.arena.given = held-below end.arena id c ok held in
    let given : end.arena.given ≡ last.arena.given + 1 = ap (λ (h : HeldView). h.arena.given) refutation.numbered in
    let next : root ≡ last.arena.given = refutation.next in
    let other : id ≡ root → ⊥ = λ same. some-not_none (held_clause end.arena root) c (subst (λ (k : ℕ). held_clause end.arena k ≡ Some c) same held) fresh in
    omega (arith, low, given, next, other)

pub refuted-told : (start last end : HeldView) (root : ℕ) (origin before after : Option Told) (assumptions : Assumptions) (t u : Told) → IsArena end.arena → IsSearching start last origin before → TellsEmptyClause last end root before after → origin ≡ Some t → after ≡ Some u → Tells (held_clause start.arena) start.arena.given (IsUnitId root []) t u × IsRoot end assumptions root [] t u
refuted-told start last end root origin before after assumptions t u ok search refutation is also =
    let step : ToldStep = derived_step root [] refutation.first refutation.rest in
    let w = before_step before after step u refutation.told also in
    let so_far = Tells-weaker (held_clause start.arena) start.arena.given (λ id. ⊥) (IsUnitId root []) t w.0 (λ id no. absurd no) (search.tells t w.0 is w.1) in
    let of = derived-of_search (IsUnitId root []) start last root [] refutation.first refutation.rest search.leaves refutation.next refutation.chain in
    let tells = subst (Tells (held_clause start.arena) start.arena.given (IsUnitId root []) t) (sym w.2) (Tells-pushed (held_clause start.arena) start.arena.given (IsUnitId root []) t w.0 step so_far of) in (
      tells,
      record {
        first = refutation.first;
        rest = chain_of refutation.rest;
        told = subst (λ (v : Told). Contains v.steps step) (sym w.2) (Contains-push w.0.steps step);
        units = λ k a at. absurd (nothing-there k a at);
        needs = λ s here original needed. elim (tells.steps s here) [ inl was ↦ inl was | inr of ↦ inr (of.originals original) ];
        last = root-last last end root before after ok refutation;
        root_not_held = subst (λ (h : HeldView). held_clause h.arena root ≡ None) (sym refutation.numbered) refutation.fresh;
        units_not_held = λ id unit. absurd (no-units root id unit);
        units_not_needed = λ id unit held is_unit needed. no-units root unit is_unit;
      },
    )
