-- The parts that the range of a variable spans, as parts are noted.
use Rattle.std.proofs.Common.{◌≡◌, ◌∙◌, sym, ap, refl, ℕ, ◌≤◌, Bool, cond, eq-eqb, nat_eq, Option, Some, None, arith, inl, inr}
use Rattle.std.proofs.lemmas.Bool.{cases_Bool, eqb-true}
use Rattle.craig_label.specs.Sides.{Range, SidesView, IsNoted, range_of, widened}
use Rattle.craig_itp.specs.Interpolants.{Spans}

-- a range with one part more has that part, and those that it had
spans_new : (r : Option Range) (part : ℕ) → ((widened r part).first ≤ part) × (part ≤ (widened r part).last)
spans_new None part = (omega arith, omega arith)
spans_new (Some r) part = (omega arith, omega arith)

spans_old : (r : Range) (part other : ℕ) → r.first ≤ other → other ≤ r.last → ((widened (Some r) part).first ≤ other) × (other ≤ (widened (Some r) part).last)
spans_old r part other low high = (omega arith, omega arith)

-- the variable that was noted spans its part
pub spans_noted : (mid new : SidesView) (x part : ℕ) → IsNoted mid x part new → Spans new x part
spans_noted mid new x part noted =
    let wide = spans_new (range_of mid x) part in
    (widened (range_of mid x) part, noted.ranges x ∙ ap (λ (b : Bool). cond b (Some (widened (range_of mid x) part)) (range_of mid x)) (eq-eqb x x refl), wide.0, wide.1)

-- and what spanned a part goes on to
pub spans_kept : (mid new : SidesView) (x part y other : ℕ) → IsNoted mid x part new → Spans mid y other → Spans new y other
spans_kept mid new x part y other noted spans = elim (cases_Bool (nat_eq y x)) [
  | inl t ↦ (
      let same : y ≡ x = eqb-true y x t in
      let old : range_of mid x ≡ Some spans.0 = ap (range_of mid) (sym same) ∙ spans.1 in
      let wide = spans_old spans.0 part other spans.2 spans.3 in
      (widened (Some spans.0) part, noted.ranges y ∙ ap (λ (b : Bool). cond b (Some (widened (range_of mid x) part)) (range_of mid y)) t ∙ ap (λ r. Some (widened r part)) old, wide.0, wide.1))
  | inr f ↦ (spans.0, noted.ranges y ∙ ap (λ (b : Bool). cond b (Some (widened (range_of mid x) part)) (range_of mid y)) f ∙ spans.1, spans.2, spans.3)
]
