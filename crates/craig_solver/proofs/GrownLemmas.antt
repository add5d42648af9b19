-- A solver that knows more variables.
use Rattle.std.proofs.Common.{◌≡◌, ℕ, ◌<◌, inl, inr, List, All, length, max, sym, ap, subst, ◌∙◌, arith}
use Rattle.std.proofs.lemmas.Bool.{cases_lt}
use Rattle.std.proofs.lemmas.List.Elements.{All-weaker}
use Rattle.craig_spec.specs.Literal.{Clause, Literal}
use Rattle.craig_base.specs.declared.script_part.Part.{Part}
use Rattle.craig_watch.specs.Held.{HeldView, IsConsistent}
use Rattle.craig_order.specs.Order.{OrderView, IsGrown}
use Rattle.craig_search.specs.Leaves.{IsReady}
use Rattle.craig_solver.specs.State.{AreHeldFor, IsState, StateView}

below-max : (x m n : ℕ) → x < m → x < max m n
below-max x m n low = omega (arith, low)

abbrev wider : HeldView → ℕ → HeldView
wider h vars = record h { vars = max h.vars vars }

ready-grown : (h : HeldView) (o p : OrderView) (vars : ℕ) → IsReady h o → IsGrown o p vars → IsReady (wider h vars) p
ready-grown h o p vars ready grown = record {
  known = grown.known ∙ ap (λ (n : ℕ). max n vars) ready.known;
  given_back = λ v free.
      let known : length o.given_back ≡ h.vars = ready.known in
      let below : v < max h.vars vars = free.0 in
      elim (cases_lt v h.vars) [
        | inl low ↦ grown.as_before v (omega (arith, known, low)) ∙ ready.given_back v (low, free.1)
        | inr high ↦ grown.given_back v (omega (arith, known, high)) (omega (arith, below, high))
      ];
}

held-grown : (accepted : List (Part × Clause)) (h : HeldView) (vars : ℕ) → AreHeldFor accepted h.arena h.vars → AreHeldFor accepted h.arena (max h.vars vars)
held-grown accepted h vars are = record {
  known = All-weaker (λ (a : Part × Clause). All (λ (l : Literal). l.var < h.vars) a.1) (λ (a : Part × Clause). All (λ (l : Literal). l.var < max h.vars vars) a.1) (λ a all. All-weaker (λ (l : Literal). l.var < h.vars) (λ (l : Literal). l.var < max h.vars vars) (λ l low. below-max l.var h.vars vars low) a.1 all) accepted are.known;
  held = are.held;
  implied = are.implied;
  variables = are.variables;
}

pub IsState-grown : (s : StateView) (n : HeldView) (p : OrderView) (vars : ℕ) → IsState s → n ≡ wider s.held vars → IsConsistent n → IsGrown s.order p vars → IsState (record s { held = n; order = p })
IsState-grown s n p vars state is ok grown =
    subst (λ (m : HeldView). IsState (record s { held = m; order = p })) (sym is) (record {
      begins = record {
        level = state.begins.level;
        ready = ready-grown s.held s.order p vars state.begins.ready grown;
        covers = state.begins.covers;
      };
      consistent = subst IsConsistent is ok;
      held_alive = state.held_alive;
      order_alive = grown.dead ∙ state.order_alive;
      clauses = held-grown s.accepted s.held vars state.clauses;
      ids = state.ids;
      originals = state.originals;
      rests = state.rests;
      all_told = state.all_told;
      root_of = state.root_of;
      units_of = state.units_of;
    })
