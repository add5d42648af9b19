-- Numbers that rise, read from the front.
use Rattle.std.proofs.Common.{◌≡◌, ◌∙◌, ap, refl, ℕ, zero, suc, ◌+◌, ◌<◌, ◌≤◌, true, false, List, [], ◌∷◌, length, get_or, drop, Some, None, ℤ, add-one, drop-cons, arith}
use Rattle.craig_script.specs.Reading.{are_rising_within, goes_on, natural, next_least}

-- a number more
pub rising-step : (least greatest : ℕ) (zs : List ℤ) (i next : ℕ) (d : ℤ) → i < length zs → next_least least greatest (natural (get_or zs i d)) ≡ Some next
    → are_rising_within least greatest (drop i zs) ≡ are_rising_within next greatest (drop (i + 1) zs)
rising-step least greatest zs i next d within found =
    ap (are_rising_within least greatest) (drop-cons zs i d within) ∙ ap (λ n. goes_on n (λ m. are_rising_within m greatest (drop (suc i) zs))) found ∙ rw add-one refl

-- a number that doesn't pass
pub rising-stop : (least greatest : ℕ) (zs : List ℤ) (i : ℕ) (d : ℤ) → i < length zs → next_least least greatest (natural (get_or zs i d)) ≡ None
    → are_rising_within least greatest (drop i zs) ≡ false
rising-stop least greatest zs i d within found =
    ap (are_rising_within least greatest) (drop-cons zs i d within) ∙ ap (λ n. goes_on n (λ m. are_rising_within m greatest (drop (suc i) zs))) found

-- no number more
pub rising-end : (least greatest : ℕ) (zs : List ℤ) (i : ℕ) → length zs ≤ i → are_rising_within least greatest (drop i zs) ≡ true
rising-end least greatest [] zero past = refl
rising-end least greatest [] (suc i) past = refl
rising-end least greatest (z ∷ zs) zero past = absurd (omega (arith, past))
rising-end least greatest (z ∷ zs) (suc i) past = rising-end least greatest zs i (omega (arith, past))
