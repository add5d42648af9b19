-- Whether a test passes at some number below a bound.
use Rattle.std.proofs.Common.{ℕ, zero, suc, ◌<◌, ◌≡◌, ◌≢◌, ◌∙◌, sym, ap, arith, refl, Bool, true, false, ◌||◌, inl, inr}
use Rattle.std.proofs.lemmas.Bool.{or_from, or_left, or_right, or_cases, cases_eq, cases_Bool}

abbrev pub any_below : (ℕ → Bool) → ℕ → Bool
any_below f zero = false
any_below f (suc n) = any_below f n || f n

pub any_below-none : (f : ℕ → Bool) (n : ℕ) → ((k : ℕ) → k < n → f k ≡ false) → any_below f n ≡ false
any_below-none f zero h = refl
any_below-none f (suc n) h = or_from _ _ (any_below-none f n (λ k l. h k (omega arith))) (h n (omega arith))

pub any_below-some : (f : ℕ → Bool) (n k : ℕ) → k < n → f k ≡ true → any_below f n ≡ true
any_below-some f zero k l e = absurd (omega arith)
any_below-some f (suc n) k l e = elim (cases_eq k n) [
  | inl same ↦ or_right _ _ (sym (ap f same) ∙ e)
  | inr other ↦ or_left _ _ (any_below-some f n k (omega (arith, other)) e)
]

pub any_below-find : (f : ℕ → Bool) (n : ℕ) → any_below f n ≡ true → (k : ℕ) × (k < n) × (f k ≡ true)
any_below-find f zero e = cc
any_below-find f (suc n) e = elim (or_cases _ _ e) [
  | inl before ↦ (let found = any_below-find f n before in (found.0, omega (arith, found.1), found.2))
  | inr here ↦ (n, omega arith, here)
]

-- where it fails everywhere else, the answer is the one at j
pub any_below-one : (f : ℕ → Bool) (n j : ℕ) → j < n → ((k : ℕ) → k < n → k ≢ j → f k ≡ false) → any_below f n ≡ f j
any_below-one f n j l others = elim (cases_Bool (f j)) [
  | inl t ↦ any_below-some f n j l t ∙ sym t
  | inr e ↦ any_below-none f n (λ k h. elim (cases_eq k j) [ inl same ↦ ap f same ∙ e | inr other ↦ others k h other ]) ∙ sym e
]
