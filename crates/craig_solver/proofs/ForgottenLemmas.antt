-- A solver that forgets the root of its last refutation and its units.
use Rattle.std.proofs.Common.{◌≡◌, ◌≢◌, ℕ, ◌+◌, ◌-◌, ◌<◌, ◌≤◌, [], Option, Some, None, refl, sym, ap, subst, ◌∙◌, arith}
use Rattle.std.specs.Option.{ForSome, option_map}
use Rattle.craig_spec.specs.Literal.{Clause}
use Rattle.craig_spec.specs.Chain.{Told, IsUnforgotten, clause_told, without_id}
use Rattle.craig_base.specs.declared.clause_id.ClauseId.{ClauseId}
use Rattle.craig_proof.specs.Covers.{IsCovering}
use Rattle.craig_proof.proofs.AppendsLemmas.{before_forgotten}
use Rattle.craig_proof.proofs.CoversLemmas.{IsCovering-forgotten}
use Rattle.craig_proof.proofs.ToldLemmas.{clause_told-forgotten}
use Rattle.craig_watch.specs.Held.{held_clause}
use Rattle.craig_solver.specs.State.{AreOriginals, IsLastUnit, IsState, RestOnAccepted, StateView}
use Rattle.craig_solver.proofs.RestLemmas.{RestOnAccepted-forgotten}
use Rattle.craig_search.proofs.ForgottenLemmas.{IsUnforgotten-other}
use Rattle.craig_solver.proofs.ToldLemmas.{AreAllTold-forgotten, AreOriginals-forgotten}

covers-forgotten : (before after : Option Told) (f : ℕ → Option Clause) (given id : ℕ) → IsCovering before f given → after ≡ option_map (without_id id) before → ForSome before (λ t. f id ≡ None) → IsCovering after f given
covers-forgotten None after f given id covers is none = λ u at. absurd (let no : None ≡ Some u = sym is ∙ at in cc)
covers-forgotten (Some t) after f given id covers is none = IsCovering-forgotten (Some t) after f given id covers is (none t refl)

same-id : (a b : ClauseId) → Some a ≡ Some b → a ≡ b
same-id a b is = cc

-- the root may be forgotten
pub root-unforgotten : (s : StateView) (id : ClauseId) → IsState s → s.root ≡ Some id → ForSome s.told (λ t. IsUnforgotten t.steps id.0)
root-unforgotten s id state is t at = (state.root_of id is t at).0

-- and so may its first unit
pub first-unit : (s : StateView) (r : ClauseId) → IsState s → s.root ≡ Some r → 0 < s.units → IsLastUnit s.root s.units (r.0 - s.units)
first-unit s r state is some =
    let room : s.units ≤ r.0 = state.units_of.room r is in
    (r, is, omega (arith, room, some), omega (arith, room))

pub unit-unforgotten : (s : StateView) (r : ClauseId) → IsState s → s.root ≡ Some r → 0 < s.units → ForSome s.told (λ t. IsUnforgotten t.steps (r.0 - s.units))
unit-unforgotten s r state is some t at = (state.units_of.each (r.0 - s.units) (first-unit s r state is some) t at).0

-- one unit is forgotten
module _ (s : StateView) (r : ClauseId) (n : ℕ) (after : Option Told) (state : IsState s) (is : s.root ≡ Some r) (some : 0 < s.units) (left : n + 1 ≡ s.units) (forgotten : after ≡ option_map (without_id (r.0 - s.units)) s.told) where
  room : s.units ≤ r.0
  room = state.units_of.room r is

  fewer : (x : ℕ) → x ≢ r.0 - s.units → IsLastUnit s.root s.units x → IsLastUnit s.root n x
  fewer x other unit =
      let same : unit.0 ≡ r = same-id unit.0 r (sym unit.1 ∙ is) in
      let low : x < r.0 = subst (λ (q : ClauseId). x < q.0) same unit.2 in
      let high : r.0 ≤ x + s.units = subst (λ (q : ClauseId). q.0 ≤ x + s.units) same unit.3 in
      (r, is, low, omega (arith, high, room, other, left))

  more : (x : ℕ) → IsLastUnit s.root n x → IsLastUnit s.root s.units x
  more x unit = (unit.0, unit.1, unit.2, let high : unit.0.0 ≤ x + n = unit.3 in omega (arith, high, left))

  not-first : (x : ℕ) → IsLastUnit s.root n x → x ≢ r.0 - s.units
  not-first x unit e =
      let same : unit.0 ≡ r = same-id unit.0 r (sym unit.1 ∙ is) in
      let high : r.0 ≤ x + n = subst (λ (q : ClauseId). q.0 ≤ x + n) same unit.3 in
      omega (arith, high, left, room, e)

  pub IsState-unit_forgotten : IsState (record s { told = after; units = n })
  IsState-unit_forgotten = record {
    begins = record {
      level = state.begins.level;
      ready = state.begins.ready;
      covers = covers-forgotten s.told after (held_clause s.held.arena) s.held.arena.given (r.0 - s.units) state.begins.covers forgotten (λ t at. (state.units_of.each (r.0 - s.units) (first-unit s r state is some) t at).1);
    };
    consistent = state.consistent;
    held_alive = state.held_alive;
    order_alive = state.order_alive;
    clauses = state.clauses;
    ids = state.ids;
    originals = λ u at.
        let t = before_forgotten s.told after (r.0 - s.units) u forgotten at in
        subst (AreOriginals s.accepted s.root n) (sym t.2) (AreOriginals-forgotten s.accepted (r.0 - s.units) s.root s.root s.units n t.0 fewer (state.originals t.0 t.1));
    rests = λ u at.
        let t = before_forgotten s.told after (r.0 - s.units) u forgotten at in
        subst (RestOnAccepted s.accepted s.held.arena) (sym t.2) (RestOnAccepted-forgotten s.accepted s.held.arena (r.0 - s.units) t.0 (state.rests t.0 t.1));
    all_told = AreAllTold-forgotten s.accepted (r.0 - s.units) s.told after state.all_told forgotten;
    root_of = λ q root_is u at.
        let t = before_forgotten s.told after (r.0 - s.units) u forgotten at in
        let was = state.root_of q root_is t.0 t.1 in
        let same : q ≡ r = same-id q r (sym root_is ∙ is) in
        let other : q.0 ≢ r.0 - s.units = λ e. (let at_root : q.0 ≡ r.0 = ap (λ (c : ClauseId). c.0) same in omega (arith, e, at_root, room, some)) in (
          subst (λ (v : Told). IsUnforgotten v.steps q.0) (sym t.2) (IsUnforgotten-other t.0 (r.0 - s.units) q.0 other was.0),
          subst (λ (v : Told). clause_told v.steps q.0 ≡ Some []) (sym t.2) (clause_told-forgotten (r.0 - s.units) q.0 t.0.steps ∙ was.1),
          was.2,
        );
    units_of = record {
      room = λ q root_is. (let all : s.units ≤ q.0 = state.units_of.room q root_is in omega (arith, all, left));
      each = λ x unit u at.
          let t = before_forgotten s.told after (r.0 - s.units) u forgotten at in
          let was = state.units_of.each x (more x unit) t.0 t.1 in
          (subst (λ (v : Told). IsUnforgotten v.steps x) (sym t.2) (IsUnforgotten-other t.0 (r.0 - s.units) x (not-first x unit) was.0), was.1);
    };
  }

no-root : (r : ClauseId) → None ≡ Some r → ⊥
no-root r none = cc

no-unit-left : (s : StateView) (n : ℕ) (x : ℕ) → s.units ≡ 0 → IsLastUnit s.root s.units x → IsLastUnit None n x
no-unit-left s n x none unit = absurd (let low : x < unit.0.0 = unit.2 in let high : unit.0.0 ≤ x + s.units = unit.3 in omega (arith, low, high, none))

-- after the root was forgotten, whose units were
pub IsState-root_forgotten : (s : StateView) (after : Option Told) (id : ClauseId) → IsState s → s.root ≡ Some id → s.units ≡ 0 → after ≡ option_map (without_id id.0) s.told → IsState (record s { told = after; root = None })
IsState-root_forgotten s after id state root_is none is = record {
  begins = record {
    level = state.begins.level;
    ready = state.begins.ready;
    covers = covers-forgotten s.told after (held_clause s.held.arena) s.held.arena.given id.0 state.begins.covers is (λ t at. (state.root_of id root_is t at).2);
  };
  consistent = state.consistent;
  held_alive = state.held_alive;
  order_alive = state.order_alive;
  clauses = state.clauses;
  ids = state.ids;
  originals = λ u at.
      let t = before_forgotten s.told after id.0 u is at in
      subst (AreOriginals s.accepted None s.units) (sym t.2) (AreOriginals-forgotten s.accepted id.0 s.root None s.units s.units t.0 (λ x other unit. no-unit-left s s.units x none unit) (state.originals t.0 t.1));
  rests = λ u at.
      let t = before_forgotten s.told after id.0 u is at in
      subst (RestOnAccepted s.accepted s.held.arena) (sym t.2) (RestOnAccepted-forgotten s.accepted s.held.arena id.0 t.0 (state.rests t.0 t.1));
  all_told = AreAllTold-forgotten s.accepted id.0 s.told after state.all_told is;
  root_of = λ r no. absurd (no-root r no);
  units_of = record {
    room = λ r no. absurd (no-root r no);
    each = λ x unit. absurd (no-root unit.0 unit.1);
  };
}
