-- The operands of a gate of a layout, by its place.
use Rattle.std.proofs.Common.{◌≡◌, ◌∙◌, ap, ℕ, ◌^◌, ◌<◌, ◌≤◌, List, length, get_or, Some, slice_get, subst, sym, arith}
use Rattle.std.proofs.lemmas.Option.{slice_get-get_or}
use Rattle.craig_spec.proofs.MemberLemmas.{slice_get-to_map}
use Rattle.craig_aiger.specs.Layouts.{IsWritable, Layout}

-- neither operand is the constant, and both are small
pub record AreOperands (g : ℕ × ℕ) : Type 0 where
  pub left_some : 2 ≤ g.0
  pub left_small : g.0 < 2 ^ 62
  pub right_some : 2 ≤ g.1
  pub right_small : g.1 < 2 ^ 62

pub gate_at : (l : Layout) → IsWritable l → (gates : List (ℕ × ℕ)) (j : ℕ) → gates ≡ l.gates → j < length gates → AreOperands (get_or gates j (0, 0))
gate_at l h gates j is within =
    let inside : j < length l.gates = subst (λ gs. j < length gs) is within in
    let there : slice_get l.gates j ≡ Some (get_or gates j (0, 0)) = slice_get-get_or l.gates j (0, 0) inside ∙ ap (λ gs. Some (get_or gs j (0, 0))) (sym is) in
    let s = h.strict.operands j (record { left = (get_or gates j (0, 0)).0; right = (get_or gates j (0, 0)).1 }) (slice_get-to_map (λ (p : ℕ × ℕ). record { left = p.0; right = p.1 }) l.gates j (get_or gates j (0, 0)) there) in
    let o = h.operands j (get_or gates j (0, 0)) there in
    record {
      left_some = omega (arith, s.0, s.1);
      left_small = omega (arith, o.1, h.few_inputs, h.few_gates, inside);
      right_some = omega (arith, s.0);
      right_small = omega (arith, o.0, o.1, h.few_inputs, h.few_gates, inside);
    }
