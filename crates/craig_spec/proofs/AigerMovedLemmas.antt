-- The order of gates by depth, in which each stands after its operands.
use Rattle.std.proofs.Common.{◌≡◌, ℕ, ◌+◌, ◌-◌, ◌<◌, ◌≤◌, ◌/◌, ◌%◌, Bool, true, false, nat_lt, eqb, List, length, get_or, Option, Some, None, slice_get, refl, sym, ap, ◌∙◌, inl, inr, arith}
use Rattle.std.specs.Bool.{if◌then◌else◌}
use Rattle.std.proofs.Math.ListN.{get_or-map}
use Rattle.std.proofs.lemmas.Bool.Decides.{nat_tests}
use Rattle.std.proofs.lemmas.List.{length-map}
use Rattle.std.proofs.lemmas.Option.{same_Some, slice_get_within, slice_get-get_or, get_or_from_slice_get}
use Rattle.craig_spec.specs.Circuit.{Gate}
use Rattle.craig_spec.specs.AigerReading.{by_depth, gate_depth, is_depth, moved, moved_gate, moved_gates, place_in}
use Rattle.craig_spec.proofs.AigerDepthLemmas.{HaveDepths, InOrder, Operand, depth-le, gate-deep, operand-depth}
use Rattle.craig_spec.proofs.AigerOrderLemmas.{first_place, ordered_before, ordered_below, ordered_within}

-- a variable at its new place
abbrev pub moved_variable : ℕ → List ℕ → ℕ → ℕ
moved_variable first order v = if nat_lt v first then v else first + place_in order (v - first)

half_by : (first : ℕ) (order : List ℕ) (l : ℕ) (t : Bool) → nat_lt (l / 2) first ≡ t → moved first order l / 2 ≡ moved_variable first order (l / 2)
half_by first order l true e = rw e refl
half_by first order l false e = rw e (omega arith)

-- a moved literal is of the moved variable
pub half : (first : ℕ) (order : List ℕ) (l : ℕ) → moved first order l / 2 ≡ moved_variable first order (l / 2)
half first order l = half_by first order l (nat_lt (l / 2) first) refl

sign_by : (first : ℕ) (order : List ℕ) (l : ℕ) (t : Bool) → nat_lt (l / 2) first ≡ t → moved first order l % 2 ≡ l % 2
sign_by first order l true e = rw e refl
sign_by first order l false e = rw e (omega arith)

-- and has its sign
pub sign : (first : ℕ) (order : List ℕ) (l : ℕ) → moved first order l % 2 ≡ l % 2
sign first order l = sign_by first order l (nat_lt (l / 2) first) refl

-- an order of gates in which each stands after its operands
pub record IsOrder (first : ℕ) (gates : List Gate) (order : List ℕ) : Type 0 where
  pub within : (j : ℕ) → j < length gates → place_in order j < length order
  pub below : (p : ℕ) → p < length order → get_or order p 0 < length gates
  pub left : (j k : ℕ) (g : Gate) → slice_get gates j ≡ Some g → g.left / 2 ≡ first + k → place_in order k < place_in order j
  pub right : (j k : ℕ) (g : Gate) → slice_get gates j ≡ Some g → g.right / 2 ≡ first + k → place_in order k < place_in order j

-- where a variable is moved to, if it is moved before a place
moved_before : (first : ℕ) (order : List ℕ) (v p : ℕ) (t : Bool) → nat_lt v first ≡ t → ((k : ℕ) → v ≡ first + k → place_in order k < p) → moved_variable first order v < first + p
moved_before first order v p true e h = rw e (let b : v < first = grind (arith, nat_tests, e) in omega (arith, b))
moved_before first order v p false e h = rw e (let b : first ≤ v = grind (arith, nat_tests, e) in omega (arith, h (v - first) (omega (arith, b))))

module _ (first : ℕ) (gates : List Gate) (order : List ℕ) (h : IsOrder first gates order) where
  -- the operands of a gate in its new place
  pub operands_moved : (j : ℕ) (g : Gate) → slice_get gates j ≡ Some g → (moved_variable first order (g.left / 2) < first + place_in order j) × (moved_variable first order (g.right / 2) < first + place_in order j)
  operands_moved j g e = (
    moved_before first order (g.left / 2) (place_in order j) (nat_lt (g.left / 2) first) refl (λ k is. h.left j k g e is),
    moved_before first order (g.right / 2) (place_in order j) (nat_lt (g.right / 2) first) refl (λ k is. h.right j k g e is),
  )

  -- the gate at a place of the new order
  pub moved_at : (j p : ℕ) (g : Gate) → p < length order → get_or order p 0 ≡ j → slice_get gates j ≡ Some g → slice_get (moved_gates first gates order) p ≡ Some (moved_gate first order g)
  moved_at j p g within is e =
      let inside : p < length (moved_gates first gates order) = omega (arith, within, length-map order (λ i. moved_gate first order (get_or gates i (record { left = 0; right = 0 })))) in
      let read : get_or gates j (record { left = 0; right = 0 }) ≡ g = get_or_from_slice_get gates j g (record { left = 0; right = 0 }) e in
      slice_get-get_or (moved_gates first gates order) p (moved_gate first order (get_or gates 0 (record { left = 0; right = 0 }))) inside
      ∙ ap Some (get_or-map (λ i. moved_gate first order (get_or gates i (record { left = 0; right = 0 }))) order p 0)
      ∙ ap (λ i. Some (moved_gate first order (get_or gates i (record { left = 0; right = 0 })))) is ∙ ap (λ g. Some (moved_gate first order g)) read

-- the operands of gates are variables that are there
abbrev pub AreInside : ℕ → List Gate → Type 0
AreInside first gates = (j : ℕ) (g : Gate) → slice_get gates j ≡ Some g → (g.left / 2 < first + length gates) × (g.right / 2 < first + length gates)

-- gates that stand each after its operands
pub AreInside-ordered : (first : ℕ) (gates : List Gate) → InOrder first gates → AreInside first gates
AreInside-ordered first gates order j g is =
    let inside : j < length gates = slice_get_within gates j g is in
    let o = order j g is in
    (omega (arith, o.0, inside), omega (arith, o.1, inside))

deep_value : Option ℕ → ℕ
deep_value None = 0
deep_value (Some d) = d

-- the depth of a gate that has one
deep : ℕ → List Gate → ℕ → ℕ
deep first gates j = deep_value (gate_depth first gates j)

deep-is : (first : ℕ) (gates : List Gate) (j d : ℕ) → gate_depth first gates j ≡ Some d → deep first gates j ≡ d
unfolding deep deep_value
deep-is first gates j d e = ap deep_value e

module _ (first : ℕ) (gates : List Gate) (inside : AreInside first gates) (depths : HaveDepths first gates) where
  depth_test : (n j : ℕ) → j < length gates → is_depth n (gate_depth first gates j) ≡ eqb (deep first gates j) n
  depth_test n j within =
      let d = depths j within in
      ap (is_depth n) d.1 ∙ ap (λ m. eqb m n) (sym (deep-is first gates j d.0 d.1))

  deep_some : (j : ℕ) → j < length gates → (1 ≤ deep first gates j) × (deep first gates j ≤ length gates)
  unfolding gate_depth
  deep_some j within =
      let d = depths j within in
      let g : Gate = get_or gates j (record { left = 0; right = 0 }) in
      let is : deep first gates j ≡ d.0 = deep-is first gates j d.0 d.1 in
      (omega (arith, is, gate-deep first gates (length gates) j d.0 g (slice_get-get_or gates j (record { left = 0; right = 0 }) within) d.1), omega (arith, is, depth-le first gates (length gates) (first + j) d.0 d.1))

  -- an operand lies less deep
  deep_less : (j k : ℕ) → Operand first gates j (first + k) → j < length gates → k < length gates → deep first gates k < deep first gates j
  unfolding gate_depth
  deep_less j k o j_within k_within =
      let d = depths j j_within in
      let e = operand-depth first gates (length gates) j (first + k) d.0 o d.1 in
      omega (arith, deep-is first gates j d.0 d.1, deep-is first gates k e.0 e.1, e.2)

  stands_before : (j k : ℕ) → Operand first gates j (first + k) → j < length gates → k < length gates → place_in (by_depth first gates) k < place_in (by_depth first gates) j
  stands_before j k o j_within k_within =
      let s = deep_some k k_within in
      ordered_before (length gates) (λ n i. is_depth n (gate_depth first gates i)) (deep first gates) depth_test 1 (length gates) k j k_within j_within s.0 (omega (arith, s.1)) (deep_less j k o j_within k_within)

  -- by rising depth, each gate stands after its operands
  pub IsOrder-by_depth : IsOrder first gates (by_depth first gates)
  IsOrder-by_depth = record {
    within = λ j within.
        let s = deep_some j within in
        ordered_within (length gates) (λ n i. is_depth n (gate_depth first gates i)) (deep first gates) depth_test 1 (length gates) j within s.0 (omega (arith, s.1));
    below = ordered_below (length gates) (λ n i. is_depth n (gate_depth first gates i)) (deep first gates) depth_test 1 (length gates);
    left = λ j k g e is. stands_before j k (record { gate = g; is = e; operand = inl is }) (slice_get_within gates j g e) (omega (arith, (inside j g e).0, is));
    right = λ j k g e is. stands_before j k (record { gate = g; is = e; operand = inr is }) (slice_get_within gates j g e) (omega (arith, (inside j g e).1, is));
  }

module _ (first : ℕ) (gates : List Gate) (order : List ℕ) (h : IsOrder first gates order) where
  pub length-moved : length (moved_gates first gates order) ≡ length order
  length-moved = length-map order (λ i. moved_gate first order (get_or gates i (record { left = 0; right = 0 })))

  the_gate : (p : ℕ) (g : Gate) → slice_get (moved_gates first gates order) p ≡ Some g → (old : Gate) × (j : ℕ) × (slice_get gates j ≡ Some old) × (g ≡ moved_gate first order old) × (place_in order j ≤ p)
  the_gate p g e =
      let inside : p < length order = omega (arith, length-moved, slice_get_within (moved_gates first gates order) p g e) in
      let j : ℕ = get_or order p 0 in
      let j_within : j < length gates = h.below p inside in
      let old : Gate = get_or gates j (record { left = 0; right = 0 }) in
      let there : slice_get gates j ≡ Some old = slice_get-get_or gates j (record { left = 0; right = 0 }) j_within in
      (old, j, there, same_Some g (moved_gate first order old) (sym e ∙ moved_at first gates order h j p old inside refl there), first_place order p inside)

  -- the moved gates stand each after its operands
  pub InOrder-moved : InOrder first (moved_gates first gates order)
  InOrder-moved p g e =
      let o = the_gate p g e in
      let m = operands_moved first gates order h o.1 o.0 o.2 in
      let l : g.left / 2 ≡ moved_variable first order (o.0.left / 2) = ap (λ (x : Gate). x.left / 2) o.3 ∙ half first order o.0.left in
      let r : g.right / 2 ≡ moved_variable first order (o.0.right / 2) = ap (λ (x : Gate). x.right / 2) o.3 ∙ half first order o.0.right in
      (omega (arith, l, m.0, o.4), omega (arith, r, m.1, o.4))

  -- a moved literal is one of the moved circuit
  pub moved_within : (l : ℕ) → l / 2 < first + length gates → moved first order l / 2 < first + length (moved_gates first gates order)
  moved_within l within =
      omega (arith, half first order l, length-moved, moved_before first order (l / 2) (length order) (nat_lt (l / 2) first) refl (λ k is. h.within k (omega (arith, within, is))))
