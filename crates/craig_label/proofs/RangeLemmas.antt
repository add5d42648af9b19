-- The sides of a variable after one more part was noted for it.
use Rattle.std.proofs.Common.{◌≡◌, ℕ, ◌≤◌, ◌<◌, min, max, Bool, true, false, ◌||◌, nat_eq, nat_le, nat_lt, IfSome, Option, Some, None, inl, inr, refl, sym, ap, ◌∙◌, arith}
use Rattle.std.proofs.lemmas.Bool.{cases_Bool, or_left, or_right, or_cases, eqb-true, eq-eqb, leb-true, le-leb, leb-false, ltb-true, ltb-false, lt-ltb}
use Rattle.craig_label.specs.Sides.{IsRange, IsSides, Range, SidesView, widened, is_in_a, is_in_b, range_of}

-- two tests with the same answer
pub same_answer : (a b : Bool) → (a ≡ true → b ≡ true) → (b ≡ true → a ≡ true) → a ≡ b
same_answer true true f g = refl
same_answer true false f g = sym (f refl)
same_answer false true f g = g refl
same_answer false false f g = refl

min_within : (a b n : ℕ) → nat_le (min a b) n ≡ (nat_le a n || nat_le b n)
min_within a b n = same_answer _ _
    (λ e. (let h : min a b ≤ n = leb-true (min a b) n e in elim (cases_Bool (nat_le a n)) [
      | inl t ↦ or_left _ _ t
      | inr f ↦ or_right _ _ (le-leb b n (omega (arith, leb-false a n f)))
    ]))
    (λ e. elim (or_cases _ _ e) [
      | inl t ↦ le-leb (min a b) n (let h : a ≤ n = leb-true a n t in omega arith)
      | inr t ↦ le-leb (min a b) n (let h : b ≤ n = leb-true b n t in omega arith)
    ])

max_after : (a b n : ℕ) → nat_lt n (max a b) ≡ (nat_lt n a || nat_lt n b)
max_after a b n = same_answer _ _
    (λ e. (let h : n < max a b = ltb-true n (max a b) e in elim (cases_Bool (nat_lt n a)) [
      | inl t ↦ or_left _ _ t
      | inr f ↦ or_right _ _ (lt-ltb n b (omega (arith, ltb-false n a f)))
    ]))
    (λ e. elim (or_cases _ _ e) [
      | inl t ↦ lt-ltb n (max a b) (let h : n < a = ltb-true n a t in omega arith)
      | inr t ↦ lt-ltb n (max a b) (let h : n < b = ltb-true n b t in omega arith)
    ])

min_zero : (a b : ℕ) → nat_eq (min a b) 0 ≡ (nat_eq a 0 || nat_eq b 0)
min_zero a b = same_answer _ _
    (λ e. (let h : min a b ≡ 0 = eqb-true (min a b) 0 e in elim (cases_Bool (nat_le a 0)) [
      | inl t ↦ or_left _ _ (eq-eqb a 0 (let k : a ≤ 0 = leb-true a 0 t in omega arith))
      | inr f ↦ or_right _ _ (eq-eqb b 0 (omega (arith, leb-false a 0 f)))
    ]))
    (λ e. elim (or_cases _ _ e) [
      | inl t ↦ eq-eqb (min a b) 0 (let h : a ≡ 0 = eqb-true a 0 t in omega arith)
      | inr t ↦ eq-eqb (min a b) 0 (let h : b ≡ 0 = eqb-true b 0 t in omega arith)
    ])

regroup : (p q r s : Bool) → ((p || q) || (r || s)) ≡ ((p || r) || (q || s))
regroup true q r s = refl
regroup false true true s = refl
regroup false true false s = refl
regroup false false r s = refl

-- on side A come the cuts from the part on
pub is_in_a-widened : (cut part : ℕ) (r : Option Range) → is_in_a cut (Some (widened r part)) ≡ (is_in_a cut r || nat_le part cut)
is_in_a-widened cut part None = refl
is_in_a-widened cut part (Some r) = min_within r.first part cut

-- on side B come those before the part, and all where it is the common one
pub is_in_b-widened : (cut part : ℕ) (r : Option Range) → is_in_b cut (Some (widened r part)) ≡ (is_in_b cut r || (nat_eq part 0 || nat_lt cut part))
is_in_b-widened cut part None = refl
is_in_b-widened cut part (Some r) =
    ap (λ b. b || nat_lt cut (max r.last part)) (min_zero r.first part) ∙ ap (λ b. (nat_eq r.first 0 || nat_eq part 0) || b) (max_after r.last part cut)
    ∙ regroup (nat_eq r.first 0) (nat_eq part 0) (nat_lt cut r.last) (nat_lt cut part)

-- the range of a variable, where it has one, is one of the parts
pub is_range-of : (sides : SidesView) (x : ℕ) (range : Option Range) → IsSides sides → range ≡ range_of sides x → IfSome range (λ r. IsRange sides.parts r)
is_range-of sides x None are is = tt
is_range-of sides x (Some r) are is = are.ranges x r (sym is)
