-- A solver after a search.
use Rattle.std.proofs.Common.{◌≡◌, ◌⊎◌, inl, inr, ℕ, ◌+◌, ◌<◌, ◌≤◌, Bool, true, false, ltb, List, [], ◌∷◌, Contains, Option, Some, None, length, get_or, refl, sym, ap, subst, ◌∙◌, arith}
use Rattle.std.specs.Option.{ForSome, is_some, option_map_or}
use Rattle.std.proofs.lemmas.Bool.{cases_lt, lt-ltb, ltb-true}
use Rattle.std.proofs.lemmas.List.{get_or-map, length-map}
use Rattle.std.proofs.lemmas.List.Elements.{All-weaker}
use Rattle.craig_spec.specs.Literal.{Clause}
use Rattle.craig_spec.specs.Chain.{Derived, SameLiterals, Told, ToldStep, IsTold, IsUnforgotten, clause_told}
use Rattle.craig_spec.specs.Needed.{IsOriginal}
use Rattle.craig_spec.specs.Occurs.{Occurs, occurs_in_clause}
use Rattle.craig_spec.specs.Truth.{Assignment, IsModel}
use Rattle.craig_spec.proofs.ClauseLemmas.{SameLiterals-trans}
use Rattle.craig_spec.proofs.MemberLemmas.{list_any-find}
use Rattle.craig_base.specs.Arena.{ArenaView, FlaggedClause, IsArena, clause_at, clauses_of, literals_at}
use Rattle.craig_base.specs.declared.clause_id.ClauseId.{ClauseId}
use Rattle.craig_base.specs.declared.script_part.Part.{Part}
use Rattle.craig_base.proofs.FoundLemmas.{IsModel-from_found, literals_of-Contains}
use Rattle.craig_proof.specs.Covers.{Covers, IsCovering}
use Rattle.craig_proof.specs.Tracer.{original_step}
use Rattle.craig_proof.proofs.AppendsLemmas.{told_before}
use Rattle.craig_proof.proofs.PartLemmas.{IsUnforgotten-step, clause_told-found}
use Rattle.craig_watch.specs.Held.{HeldView, held_clause}
use Rattle.craig_order.specs.Order.{OrderView}
use Rattle.craig_search.specs.declared.verdict.Verdict.{Verdict}
use Rattle.craig_search.specs.declared.verdict.Verdict.TheVariants.{Model, Failed, Limit}
use Rattle.craig_search.specs.Leaves.{Leaves}
use Rattle.craig_search.specs.Search.{IsSearched}
use Rattle.craig_search.specs.Tells.{IsRoot, IsUnitId, IsVerdictTold, Tells, TellsVerdict, WasTold}
use Rattle.craig_search.specs.Verdict.{Assumptions, HasUnitIds, IsVerdict}
use Rattle.craig_search.proofs.LawLemmas.{TellsVerdict-stay, unit-step, unit-told}
use Rattle.craig_solver.specs.Settling.{IsAtRoot, root_of_verdict, units_of_verdict}
use Rattle.craig_solver.specs.Answer.{accepted_clauses}
use Rattle.craig_solver.specs.Solver.{AreReordered}
use Rattle.craig_solver.specs.State.{AreHeldFor, AreHeldIds, AreOriginals, AreUnitsOf, IsAssumedStep, IsLastUnit, IsRootOf, IsState, RestOnAccepted, StateView, clauses_under}
use Rattle.craig_solver.specs.Told.{AreAllTold, IsAcceptedStep}
use Rattle.craig_solver.proofs.RestLemmas.{RestOnAccepted-searched}
use Rattle.craig_solver.proofs.ToldLemmas.{AreAllTold-still, IsAcceptedStep-same}

-- a model of the accepted clauses is one of the held ones
pub held-model : (accepted : List (Part × Clause)) (a : ArenaView) (vars : ℕ) → IsArena a → AreHeldFor accepted a vars → (s : Assignment) → IsModel s (accepted_clauses accepted) → IsModel s (clauses_of a)
held-model accepted a vars ok are s model = IsModel-from_found a s ok (λ id c is. are.implied id c is s model)

-- and what occurs in a held clause occurs in an accepted one
pub held-occurs : (accepted : List (Part × Clause)) (a : ArenaView) (vars : ℕ) → IsArena a → AreHeldFor accepted a vars → (x : ℕ) → Occurs x (clauses_of a) → Occurs x (accepted_clauses accepted)
held-occurs accepted a vars ok are x occurs =
    let m = list_any-find (occurs_in_clause x) (clauses_of a) occurs in
    let id = literals_of-Contains a m.0 ok m.1 in
    are.variables id.0 x m.0 id.1 m.2

module _ (h n : HeldView) (left : Leaves h n) where
  kept-still : (x : ClauseId) → (c : FlaggedClause) × (clause_at h.arena x.0 ≡ Some c) × (c.flags.learnt ≡ false) → (c : FlaggedClause) × (clause_at n.arena x.0 ≡ Some c) × (c.flags.learnt ≡ false)
  kept-still x was =
      let d = left.stay x.0 was.0 was.1 was.2 in
      (d.0, d.1, ap (λ (f : _). f.learnt) d.2.flags ∙ was.2)

  pub AreHeldIds-searched : (kept : List ClauseId) → AreHeldIds h.arena kept → AreHeldIds n.arena kept
  AreHeldIds-searched kept are = record {
    rising = are.rising;
    held = All-weaker (λ (x : ClauseId). (c : FlaggedClause) × (clause_at h.arena x.0 ≡ Some c) × (c.flags.learnt ≡ false)) (λ (x : ClauseId). (c : FlaggedClause) × (clause_at n.arena x.0 ≡ Some c) × (c.flags.learnt ≡ false)) kept-still kept are.held;
    every = λ id d is no. elim (cases_lt id h.arena.given) [
      | inl low ↦
          let c = left.older id d low is in
          are.every id c.0 c.1 (sym c.2.learnt ∙ no)
      | inr high ↦ absurd (let odd : true ≡ false = sym (left.learnt id d high is) ∙ no in cc)
    ];
  }

  pub AreHeldFor-searched : (accepted : List (Part × Clause)) (vars : ℕ) → IsArena h.arena → AreHeldFor accepted h.arena vars → AreHeldFor accepted n.arena vars
  AreHeldFor-searched accepted vars ok are = record {
    known = are.known;
    held = λ p here not.
        let o = are.held p here not in
        let d = left.stay o.id o.clause o.live o.not_learnt in
        record {
          id = o.id;
          clause = d.0;
          live = d.1;
          literals = SameLiterals-trans p.1 o.clause.literals d.0.literals o.literals d.2.literals;
          not_learnt = ap (λ (f : _). f.learnt) d.2.flags ∙ o.not_learnt;
        };
    implied = λ id c is s model. left.implied id c is s (held-model accepted h.arena vars ok are s model);
    variables = λ id x c is occurs. held-occurs accepted h.arena vars ok are x (left.variables id x c is occurs);
  }

  found-literals : (a : ArenaView) (id : ℕ) (c : FlaggedClause) → clause_at a id ≡ Some c → literals_at a id ≡ c.literals
  found-literals a id c is = ap (λ (o : Option FlaggedClause). option_map_or (λ f. f.literals) o []) is

  pub AreReordered-searched : (kept : List ClauseId) → AreHeldIds h.arena kept → AreReordered (clauses_under h.arena kept) (clauses_under n.arena kept)
  AreReordered-searched kept are = record {
    many = length-map kept (λ (x : ClauseId). literals_at n.arena x.0) ∙ sym (length-map kept (λ (x : ClauseId). literals_at h.arena x.0));
    same = λ k d within.
        let low : k < length kept = subst (λ (m : ℕ). k < m) (length-map kept (λ (x : ClauseId). literals_at h.arena x.0)) within in
        let x : ClauseId = get_or kept k (record { 0 = 0 }) in
        let c = are.held k (record { 0 = 0 }) low in
        let e = left.stay x.0 c.0 c.1 c.2 in
        let old : get_or (clauses_under h.arena kept) k d ≡ c.0.literals = get_or-map (λ (y : ClauseId). literals_at h.arena y.0) kept k (record { 0 = 0 }) d low ∙ found-literals h.arena x.0 c.0 c.1 in
        let new : get_or (clauses_under n.arena kept) k d ≡ e.0.literals = get_or-map (λ (y : ClauseId). literals_at n.arena y.0) kept k (record { 0 = 0 }) d low ∙ found-literals n.arena x.0 e.0 e.1 in
        subst (λ (f : Clause). SameLiterals f (get_or (clauses_under n.arena kept) k d)) (sym old) (subst (SameLiterals c.0.literals) (sym new) e.2.literals);
  }

-- an original from before, where no unit was left, is that of an accepted clause, or stays forgotten
was-original : (accepted : List (Part × Clause)) (units more : ℕ) (root : Option ClauseId) (t : Told) (s : ToldStep) (f : Bool) → AreOriginals accepted None units t → (was : WasTold t s) → was.0.forgotten ≡ f → IsOriginal s.origin → IsAcceptedStep accepted s ⊎ IsAssumedStep root more s
was-original accepted units more root t s f all was is original =
    elim (all was.0 was.1 (subst IsOriginal (sym was.4) original)) [
      | inl old ↦ inl (IsAcceptedStep-same accepted was.0 s (sym was.4) (sym was.3) old)
      | inr assumed ↦ inr (record {
        unit = (assumed.unit.0, sym was.3 ∙ assumed.unit.1);
        last = λ stays. absurd (elim (stays-or_not was.0.forgotten) [
          | inl gone ↦ (let odd : true ≡ false = sym (was.5 gone) ∙ stays in cc)
          | inr kept ↦ no-root (assumed.last kept)
        ]);
      })
    ] where
      stays-or_not : (b : Bool) → (b ≡ true) ⊎ (b ≡ false)
      stays-or_not true = inl refl
      stays-or_not false = inr refl

      no-root : IsLastUnit None units was.0.id → ⊥
      no-root unit = let no : None ≡ Some unit.0 = unit.1 in cc

-- the originals after a search
originals-kept : (accepted : List (Part × Clause)) (units more : ℕ) (root : Option ClauseId) (lent : ℕ → Option Clause) (first : ℕ) (IsUnitOf : ℕ → Type 0) (t u : Told) → AreOriginals accepted None units t → Tells lent first IsUnitOf t u → ((s : ToldStep) → Contains u.steps s → IsUnitOf s.id → IsAssumedStep root more s) → AreOriginals accepted root more u
originals-kept accepted units more root lent first IsUnitOf t u all tells assumed s here original =
    elim (tells.steps s here) [
      | inl was ↦ was-original accepted units more root t s was.0.forgotten all was refl original
      | inr of ↦ inr (assumed s here (of.originals original))
    ]

originals-cases : (accepted : List (Part × Clause)) (units : ℕ) (h n : HeldView) (assumptions : Assumptions) (limit : Option ℕ) (v : Verdict) (t u : Told) → AreOriginals accepted None units t → IsVerdict h n assumptions limit v → TellsVerdict h n assumptions v t u → IsTold u → AreOriginals accepted (root_of_verdict v) (units_of_verdict v) u
originals-cases accepted units h n assumptions limit Model t u all is told stands =
    originals-kept accepted units 0 None (held_clause h.arena) h.arena.given (λ id. ⊥) t u all told (λ s here no. absurd no)
originals-cases accepted units h n assumptions limit (Failed root places) t u all is told stands =
    originals-kept accepted units (length places) (Some root) (held_clause h.arena) h.arena.given (IsUnitId root.0 places) t u all told.0 (λ s here unit.
    let one = unit-step n assumptions root.0 places t u told.1 is.first_places stands s here unit in
    record { unit = (one.assumed.1, one.literals); last = λ stays. (root, refl, unit.0, unit.1) })
originals-cases accepted units h n assumptions limit (Limit lemmas) t u all is told stands =
    originals-kept accepted units 0 None (held_clause h.arena) h.arena.given (λ id. ⊥) t u all told (λ s here no. absurd no)

-- the held clauses come before the units
below-units : (n : HeldView) (assumptions : Assumptions) (root : ℕ) (places : List ℕ) (t u : Told) → IsRoot n assumptions root places t u → (id : ℕ) (c : Clause) → held_clause n.arena id ≡ Some c → id + length places < root
below-units n assumptions root places t u is id c held =
    let low : id < root = is.last id c held in
    elim (cases_lt (id + length places) root) [
      | inl below ↦ below
      | inr high ↦ absurd (let none = is.units_not_held id (low, high) in let no : None ≡ Some c = sym none ∙ held in cc)
    ]

-- what the held clauses rest on after it
rests-cases : (accepted : List (Part × Clause)) (h n : HeldView) (assumptions : Assumptions) (v : Verdict) (t u : Told) → IsArena h.arena → IsArena n.arena → Covers t (held_clause h.arena) h.arena.given → IsTold u → Leaves h n → TellsVerdict h n assumptions v t u → RestOnAccepted accepted h.arena t → RestOnAccepted accepted n.arena u
rests-cases accepted h n assumptions Model t u ok new_ok covers stands left told rest =
    RestOnAccepted-searched accepted h (λ id. ⊥) t u told ok covers stands rest (λ x. true) (λ x y le on. refl) n left (λ id c is. refl) (λ id no on. no)
rests-cases accepted h n assumptions (Failed root places) t u ok new_ok covers stands left told rest =
    RestOnAccepted-searched accepted h (IsUnitId root.0 places) t u told.0 ok covers stands rest (λ x. ltb (x + length places) root.0) (λ x y le on. (let low : x + length places < root.0 = ltb-true (x + length places) root.0 on in lt-ltb (y + length places) root.0 (omega (arith, low, le)))) n left (λ id c is.
    lt-ltb (id + length places) root.0 (below-units n assumptions root.0 places t u told.1 id c is)) (λ id unit on. (let low : id + length places < root.0 = ltb-true (id + length places) root.0 on in omega (arith, low, unit.1)))
rests-cases accepted h n assumptions (Limit lemmas) t u ok new_ok covers stands left told rest =
    RestOnAccepted-searched accepted h (λ id. ⊥) t u told ok covers stands rest (λ x. true) (λ x y le on. refl) n left (λ id c is. refl) (λ id no on. no)

-- each accepted clause is told still
all-told-searched : (accepted : List (Part × Clause)) (h n : HeldView) (assumptions : Assumptions) (v : Verdict) (before after : Option Told) → is_some after ≡ is_some before → IsVerdictTold h n assumptions v before after → ForSome before (AreAllTold accepted) → ForSome after (AreAllTold accepted)
all-told-searched accepted h n assumptions v before after tells told all u at =
    let t = told_before before after u tells at in
    AreAllTold-still accepted t.0 u (all t.0 t.1) (TellsVerdict-stay h n assumptions v t.0 u (told t.0 u t.1 at))

pub root-unforgotten : (n : HeldView) (assumptions : Assumptions) (root : ℕ) (places : List ℕ) (t u : Told) → IsRoot n assumptions root places t u → IsUnforgotten u.steps root
root-unforgotten n assumptions root places t u is =
    IsUnforgotten-step u.steps (record { id = root; literals = []; origin = Derived is.first is.rest; forgotten = false }) is.told refl

some-same : (a b : ClauseId) → Some a ≡ Some b → a ≡ b
some-same a b is = cc

root-searched : (h n : HeldView) (assumptions : Assumptions) (v : Verdict) (before after : Option Told) → is_some after ≡ is_some before → IsVerdictTold h n assumptions v before after → IsCovering after (held_clause n.arena) n.arena.given → IsRootOf after n.arena (root_of_verdict v)
root-searched h n assumptions Model before after tells told covers id is = absurd (let no : None ≡ Some id = is in cc)
root-searched h n assumptions (Failed root places) before after tells told covers id is = λ u at.
    let t = told_before before after u tells at in
    let r = (told t.0 u t.1 at).1 in
    let same = some-same root id is in
    let empty : clause_told u.steps root.0 ≡ Some [] = clause_told-found u (record { id = root.0; literals = []; origin = Derived r.first r.rest; forgotten = false }) (covers u at).stand r.told in
    (subst (λ (x : ClauseId). IsUnforgotten u.steps x.0) same (root-unforgotten n assumptions root.0 places t.0 u r), subst (λ (x : ClauseId). clause_told u.steps x.0 ≡ Some []) same empty, subst (λ (x : ClauseId). held_clause n.arena x.0 ≡ None) same r.root_not_held)
root-searched h n assumptions (Limit lemmas) before after tells told covers id is = absurd (let no : None ≡ Some id = is in cc)

-- and its units
units-searched : (h n : HeldView) (assumptions : Assumptions) (limit : Option ℕ) (v : Verdict) (before after : Option Told) → is_some after ≡ is_some before → IsVerdict h n assumptions limit v → HasUnitIds h v → IsVerdictTold h n assumptions v before after → AreUnitsOf after n.arena (root_of_verdict v) (units_of_verdict v)
units-searched h n assumptions limit Model before after tells is ids told = record {
  room = λ r none. absurd (let no : None ≡ Some r = none in cc);
  each = λ x unit. absurd (let no : None ≡ Some unit.0 = unit.1 in cc);
}
units-searched h n assumptions limit (Failed root places) before after tells is ids told = record {
  room = λ r at. (let enough : h.arena.given + length places ≤ root.0 = ids in let same : root.0 ≡ r.0 = ap (λ (c : ClauseId). c.0) (some-same root r at) in omega (arith, enough, same));
  each = λ x last u at.
      let t = told_before before after u tells at in
      let r = (told t.0 u t.1 at).1 in
      let same : last.0 ≡ root = sym (some-same root last.0 last.1) in
      let unit : IsUnitId root.0 places x = (subst (λ (c : ClauseId). x < c.0) same last.2, subst (λ (c : ClauseId). c.0 ≤ x + length places) same last.3) in
      let one = unit-told n assumptions root.0 places t.0 u r is.first_places x unit in
      (IsUnforgotten-step u.steps (original_step x (one.0).0.0 ((one.0).1 ∷ [])) one.2 refl, r.units_not_held x unit);
}
units-searched h n assumptions limit (Limit lemmas) before after tells is ids told = record {
  room = λ r none. absurd (let no : None ≡ Some r = none in cc);
  each = λ x unit. absurd (let no : None ≡ Some unit.0 = unit.1 in cc);
}

-- the state after a search, at level 0 again
pub IsState-searched : (s : StateView) (n m : HeldView) (o p : OrderView) (after : Option Told) (root : Option ClauseId) (units : ℕ) (assumptions : Assumptions) (limit : Option ℕ) (v : Verdict) → IsState s → s.root ≡ None → IsSearched s.held n o s.told after assumptions limit v → is_some after ≡ is_some s.told → o.dead ≡ s.order.dead → root ≡ root_of_verdict v → units ≡ units_of_verdict v → IsAtRoot n m p → p.dead ≡ o.dead → IsState (record s { held = m; order = p; told = after; root = root; units = units })
IsState-searched s n m o p after root units assumptions limit v state none searched tells alive root_is units_is at_root still_alive = record {
  begins = record {
    level = at_root.level;
    ready = at_root.ready;
    covers = subst (λ (a : ArenaView). IsCovering after (held_clause a) a.given) (sym at_root.arena) searched.covers;
  };
  consistent = at_root.consistent;
  held_alive = at_root.dead ∙ searched.alive;
  order_alive = still_alive ∙ alive ∙ state.order_alive;
  clauses = subst (λ (a : ArenaView). AreHeldFor s.accepted a m.vars) (sym at_root.arena) (subst (AreHeldFor s.accepted n.arena) (sym (at_root.vars ∙ searched.leaves.vars)) (AreHeldFor-searched s.held n searched.leaves s.accepted s.held.vars state.consistent.arena state.clauses));
  ids = subst (λ (a : ArenaView). AreHeldIds a s.held_ids) (sym at_root.arena) (AreHeldIds-searched s.held n searched.leaves s.held_ids state.ids);
  originals = λ u at.
      let t = told_before s.told after u tells at in
      subst (λ (k : ℕ). AreOriginals s.accepted root k u) (sym units_is) (subst (λ (r : Option ClauseId). AreOriginals s.accepted r (units_of_verdict v) u) (sym root_is) (originals-cases s.accepted s.units s.held n assumptions limit v t.0 u (subst (λ (r : Option ClauseId). AreOriginals s.accepted r s.units t.0) none (state.originals t.0 t.1)) searched.verdict (searched.told t.0 u t.1 at) (searched.covers u at).stand));
  rests = λ u at.
      let t = told_before s.told after u tells at in
      subst (λ (a : ArenaView). RestOnAccepted s.accepted a u) (sym at_root.arena) (rests-cases s.accepted s.held n assumptions v t.0 u state.consistent.arena searched.consistent.arena (state.begins.covers t.0 t.1) (searched.covers u at).stand searched.leaves (searched.told t.0 u t.1 at) (state.rests t.0 t.1));
  all_told = all-told-searched s.accepted s.held n assumptions v s.told after tells searched.told state.all_told;
  root_of = subst (λ (r : Option ClauseId). IsRootOf after m.arena r) (sym root_is) (subst (λ (a : ArenaView). IsRootOf after a (root_of_verdict v)) (sym at_root.arena) (root-searched s.held n assumptions v s.told after tells searched.told searched.covers));
  units_of = subst (AreUnitsOf after m.arena root) (sym units_is) (subst (λ (r : Option ClauseId). AreUnitsOf after m.arena r (units_of_verdict v)) (sym root_is) (subst (λ (a : ArenaView). AreUnitsOf after a (root_of_verdict v) (units_of_verdict v)) (sym at_root.arena) (units-searched s.held n assumptions limit v s.told after tells searched.verdict searched.ids searched.told)));
}

-- the held clauses after it
pub AreReordered-ids : (h n m : HeldView) (o : OrderView) (ids : List ClauseId) → Leaves h n → AreHeldIds h.arena ids → IsAtRoot n m o → AreReordered (clauses_under h.arena ids) (clauses_under m.arena ids)
AreReordered-ids h n m o ids left are at_root =
    subst (λ (a : ArenaView). AreReordered (clauses_under h.arena ids) (clauses_under a ids)) (sym at_root.arena) (AreReordered-searched h n left ids are)
