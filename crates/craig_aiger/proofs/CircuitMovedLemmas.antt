-- A circuit whose gates are put into another order, each again after its operands, has the same values and cones.
use Rattle.std.proofs.Common.{◌≡◌, ℕ, zero, suc, ◌+◌, ◌-◌, ◌<◌, ◌≤◌, ◌/◌, ◌%◌, Bool, true, false, ◌&&◌, nat_lt, List, [], ◌∷◌, ◌++◌, length, get_or, take, drop, Some, slice_get, refl, sym, ap, ◌∙◌, arith}
use Rattle.std.proofs.Math.Seq.{drop-cons}
use Rattle.std.proofs.lemmas.Bool.Decides.{nat_tests}
use Rattle.std.proofs.lemmas.List.{length-take-le, take-append-drop}
use Rattle.std.proofs.lemmas.Option.{slice_get_within, slice_get-get_or, get_or_from_slice_get}
use Rattle.craig_spec.specs.Circuit.{Gate, each_variable, gate_cone, gate_value, literal_value_in}
use Rattle.craig_spec.specs.AigerReading.{moved, moved_gate, moved_gates, place_in}
use Rattle.craig_aiger.proofs.CircuitLemmas.{get_or-first, get_or-before, get_or-gate}
use Rattle.craig_spec.proofs.AigerDepthLemmas.{InOrder}
use Rattle.craig_spec.proofs.AigerOrderLemmas.{at_place}
use Rattle.craig_spec.proofs.AigerMovedLemmas.{IsOrder, half, moved_at, moved_variable, operands_moved, sign}

-- what each variable has
module _ {T : Type 0} (f : List T → Gate → T) (firsts : List T) (d : T) where
  -- what a gate has, by what the variables before it have
  record Local (gates : List Gate) (k : ℕ) (g : Gate) : Type 0 where
    before : List T
    value : get_or (each_variable f firsts gates) (length firsts + k) d ≡ f before g
    same : (w : ℕ) → w < length firsts + k → get_or before w d ≡ get_or (each_variable f firsts gates) w d

  local : (gates : List Gate) (k : ℕ) (g : Gate) → slice_get gates k ≡ Some g → Local gates k g
  local gates k g e =
      let within : k < length gates = slice_get_within gates k g e in
      let whole : gates ≡ take k gates ++ g ∷ drop (suc k) gates = sym (take-append-drop k gates) ∙ ap (λ z. take k gates ++ z) (drop-cons gates k g within) ∙ ap (λ x. take k gates ++ x ∷ drop (suc k) gates) (get_or_from_slice_get gates k g g e) in
      let count : length (take k gates) ≡ k = length-take-le k gates (omega (arith, within)) in
      record {
        before = each_variable f firsts (take k gates);
        value = ap (λ gs. get_or (each_variable f firsts gs) (length firsts + k) d) whole ∙ get_or-gate f firsts (take k gates) g (drop (suc k) gates) (length firsts + k) d (omega (arith, count));
        same = λ w below. sym (ap (λ gs. get_or (each_variable f firsts gs) w d) whole ∙ get_or-before f firsts (take k gates) g (drop (suc k) gates) w d (omega (arith, count, below)));
      }

  module _ (follows : (before after : List T) (g h : Gate) → get_or before (g.left / 2) d ≡ get_or after (h.left / 2) d → g.left % 2 ≡ h.left % 2 → get_or before (g.right / 2) d ≡ get_or after (h.right / 2) d → g.right % 2 ≡ h.right % 2 → f before g ≡ f after h)
      (first : ℕ) (gates : List Gate) (order : List ℕ) (firsts_are : length firsts ≡ first) (in_order : InOrder first gates) (h : IsOrder first gates order) where
    abbrev Kept : ℕ → Type 0
    Kept v = get_or (each_variable f firsts (moved_gates first gates order)) (moved_variable first order v) d ≡ get_or (each_variable f firsts gates) v d

    kept_gate : (j : ℕ) (g : Gate) → slice_get gates j ≡ Some g → Kept (g.left / 2) → Kept (g.right / 2) → get_or (each_variable f firsts (moved_gates first gates order)) (first + place_in order j) d ≡ get_or (each_variable f firsts gates) (first + j) d
    kept_gate j g e left right =
        let within : j < length gates = slice_get_within gates j g e in
        let o = in_order j g e in
        let m = operands_moved first gates order h j g e in
        let here : Local gates j g = local gates j g e in
        let there : Local (moved_gates first gates order) (place_in order j) (moved_gate first order g) = local (moved_gates first gates order) (place_in order j) (moved_gate first order g) (moved_at first gates order h j (place_in order j) g (h.within j within) (at_place order j (h.within j within)) e) in
        let l : get_or there.before (moved first order g.left / 2) d ≡ get_or here.before (g.left / 2) d = ap (λ v. get_or there.before v d) (half first order g.left) ∙ there.same (moved_variable first order (g.left / 2)) (omega (arith, m.0, firsts_are)) ∙ left ∙ sym (here.same (g.left / 2) (omega (arith, o.0, firsts_are))) in
        let r : get_or there.before (moved first order g.right / 2) d ≡ get_or here.before (g.right / 2) d = ap (λ v. get_or there.before v d) (half first order g.right) ∙ there.same (moved_variable first order (g.right / 2)) (omega (arith, m.1, firsts_are)) ∙ right ∙ sym (here.same (g.right / 2) (omega (arith, o.1, firsts_are))) in
        ap (λ n. get_or (each_variable f firsts (moved_gates first gates order)) (n + place_in order j) d) (sym firsts_are) ∙ there.value
        ∙ follows there.before here.before (moved_gate first order g) g l (sign first order g.left) r (sign first order g.right)
        ∙ sym here.value ∙ ap (λ n. get_or (each_variable f firsts gates) (n + j) d) firsts_are

    kept_by : (v : ℕ) (t : Bool) → nat_lt v first ≡ t → v < first + length gates → ((w : ℕ) → w < v → Kept w) → Kept v
    kept_by v true e within below =
        let b : v < length firsts = grind (arith, nat_tests, e, firsts_are) in
        rw e (get_or-first f firsts (moved_gates first gates order) v d b ∙ sym (get_or-first f firsts gates v d b))
    kept_by v false e within below =
        let b : first ≤ v = grind (arith, nat_tests, e) in
        let j_within : v - first < length gates = omega (arith, b) in
        let g : Gate = get_or gates (v - first) (record { left = 0; right = 0 }) in
        let there : slice_get gates (v - first) ≡ Some g = slice_get-get_or gates (v - first) (record { left = 0; right = 0 }) j_within in
        let o = in_order (v - first) g there in
        let back : first + (v - first) ≡ v = omega (arith, b) in
        rw e (kept_gate (v - first) g there (below (g.left / 2) (omega (arith, o.0, back))) (below (g.right / 2) (omega (arith, o.1, back))) ∙ ap (λ w. get_or (each_variable f firsts gates) w d) back)

    kept_up_to : (bound v : ℕ) → v < bound → v < first + length gates → Kept v
    kept_up_to zero v below within = absurd (omega arith)
    kept_up_to (suc bound) v below within = kept_by v (nat_lt v first) refl within (λ w less. kept_up_to bound w (omega arith) (omega arith))

    -- each variable has at its new place what it had
    pub kept_moved : (l : ℕ) → l / 2 < first + length gates → get_or (each_variable f firsts (moved_gates first gates order)) (moved first order l / 2) d ≡ get_or (each_variable f firsts gates) (l / 2) d
    kept_moved l within = ap (λ v. get_or (each_variable f firsts (moved_gates first gates order)) v d) (half first order l) ∙ kept_up_to (suc (l / 2)) (l / 2) (omega arith) within

follows_literal : (before after : List Bool) (l m : ℕ) → get_or before (l / 2) false ≡ get_or after (m / 2) false → l % 2 ≡ m % 2 → literal_value_in before l ≡ literal_value_in after m
follows_literal before after l m e s = rw (e, s) refl

follows_value : (before after : List Bool) (g h : Gate) → get_or before (g.left / 2) false ≡ get_or after (h.left / 2) false → g.left % 2 ≡ h.left % 2 → get_or before (g.right / 2) false ≡ get_or after (h.right / 2) false → g.right % 2 ≡ h.right % 2 → gate_value before g ≡ gate_value after h
follows_value before after g h l s r t =
    ap (λ b. b && literal_value_in before g.right) (follows_literal before after g.left h.left l s) ∙ ap (λ b. literal_value_in after h.left && b) (follows_literal before after g.right h.right r t)

follows_cone : (before after : List (List ℕ)) (g h : Gate) → get_or before (g.left / 2) [] ≡ get_or after (h.left / 2) [] → g.left % 2 ≡ h.left % 2 → get_or before (g.right / 2) [] ≡ get_or after (h.right / 2) [] → g.right % 2 ≡ h.right % 2 → gate_cone before g ≡ gate_cone after h
follows_cone before after g h l s r t = ap (λ c. c ++ get_or before (g.right / 2) []) l ∙ ap (λ c. get_or after (h.left / 2) [] ++ c) r

module _ (first : ℕ) (gates : List Gate) (order : List ℕ) (in_order : InOrder first gates) (h : IsOrder first gates order) where
  -- the value of a literal
  pub value_moved : (firsts : List Bool) (l : ℕ) → length firsts ≡ first → l / 2 < first + length gates → literal_value_in (each_variable gate_value firsts (moved_gates first gates order)) (moved first order l) ≡ literal_value_in (each_variable gate_value firsts gates) l
  value_moved firsts l firsts_are within = follows_literal (each_variable gate_value firsts (moved_gates first gates order)) (each_variable gate_value firsts gates) (moved first order l) l (kept_moved gate_value firsts false follows_value first gates order firsts_are in_order h l within) (sign first order l)

  -- the cone of a literal
  pub cone_moved : (firsts : List (List ℕ)) (l : ℕ) → length firsts ≡ first → l / 2 < first + length gates → get_or (each_variable gate_cone firsts (moved_gates first gates order)) (moved first order l / 2) [] ≡ get_or (each_variable gate_cone firsts gates) (l / 2) []
  cone_moved firsts l firsts_are within = kept_moved gate_cone firsts [] follows_cone first gates order firsts_are in_order h l within
