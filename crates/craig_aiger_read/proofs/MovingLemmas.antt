-- Laws of the new variables of gates.
use Rattle.std.proofs.Common.{◌≡◌, ℕ, suc, ◌+◌, ◌-◌, ◌*◌, ◌/◌, ◌%◌, ◌<◌, ◌≤◌, true, false, eqb, ltb, Fits, w64, refl, List, ◌∷◌, length, drop, set, get_or, replicate, inl, inr, ◌∙◌, ap, arith, ne_eqb}
use Rattle.craig_aiger_read.proofs.SettleLemmas.{same-place}
use Rattle.std.proofs.lemmas.Bool.Decides.{nat_tests}
use Rattle.std.proofs.lemmas.List.{drop_all, drop_more, get_or-replicate, get_or-set_other, get_or-set_same, length-replicate, length-set}
use Rattle.craig_spec.specs.AigerReading.{place_in}
use Rattle.craig_aiger_read.specs.ReadOrder.{AreNewVariables, AreSmall, moved_by}
use Rattle.craig_aiger_read.proofs.CutLemmas.{position_or_len-go, position_or_len-le, position_or_len-stop}

-- the variables of the places in the order from one on
pub record PlacesFrom (first : ℕ) (order : List ℕ) (i : ℕ) (variables : List ℕ) : Type 0 where
  pub long : length variables ≡ length order
  pub within : i ≤ length order
  pub are : (j : ℕ) → j < length variables → get_or variables j 0 ≡ first + (i + place_in (drop i order) j)

pub places-last : (first : ℕ) (order variables : List ℕ) → variables ≡ replicate (length order) (first + length order) → PlacesFrom first order (length order) variables
places-last first order variables is = record {
  long = ap length is ∙ length-replicate (length order) (first + length order);
  within = omega arith;
  are = λ j inside.
      let low : j < length order = omega (arith, inside, ap length is, length-replicate (length order) (first + length order)) in
      let none : place_in (drop (length order) order) j ≡ 0 = ap (λ z. place_in z j) (drop_all (length order) order (omega arith)) in
      ap (λ z. get_or z j 0) is ∙ get_or-replicate (length order) j (first + length order) 0 low ∙ omega (arith, none);
}

-- one place more, from the back
pub places-more : (first : ℕ) (order variables : List ℕ) (i : ℕ) → PlacesFrom first order (i + 1) variables → get_or order i 0 < length order →
    PlacesFrom first order i (set variables (get_or order i 0) (first + i))
places-more first order variables i h inside =
    let x : ℕ = get_or order i 0 in
    let low : i < length order = omega (arith, h.within) in
    let split : drop i order ≡ x ∷ drop (i + 1) order = drop_more order i 0 low in
    record {
      long = length-set variables x (first + i) ∙ h.long;
      within = omega (arith, low);
      are = λ j within.
          let size : j < length variables = omega (arith, within, length-set variables x (first + i)) in
          elim (same-place j x) as (λ _. get_or (set variables x (first + i)) j 0 ≡ first + (i + place_in (drop i order) j)) [
            | inl same ↦
                let here : get_or (set variables x (first + i)) j 0 ≡ first + i = ap (λ z. get_or (set variables x (first + i)) z 0) same ∙ get_or-set_same variables x (first + i) 0 (omega (arith, inside, h.long)) in
                let test : eqb j x ≡ true = grind (arith, nat_tests, same) in
                let none : place_in (drop i order) j ≡ 0 = ap (λ z. place_in z j) split ∙ position_or_len-stop (eqb j) x (drop (i + 1) order) test in
                here ∙ omega (arith, none)
            | inr other ↦
                let there : get_or (set variables x (first + i)) j 0 ≡ first + (i + 1 + place_in (drop (i + 1) order) j) = get_or-set_other variables x j (first + i) 0 other ∙ h.are j size in
                let next : place_in (drop i order) j ≡ suc (place_in (drop (i + 1) order) j) = ap (λ z. place_in z j) split ∙ position_or_len-go (eqb j) x (drop (i + 1) order) (ne_eqb j x other) in
                there ∙ omega (arith, next)
          ];
    }

pub places-all : (first : ℕ) (order variables : List ℕ) (i : ℕ) → PlacesFrom first order i variables → i ≡ 0 → AreNewVariables first order variables
places-all first order variables i h none = λ j inside. h.are j inside ∙ ap (λ z. first + (z + place_in (drop z order) j)) none ∙ omega arith

-- and they are small
pub places-small : (first : ℕ) (order variables : List ℕ) → AreNewVariables first order variables → first + length order ≤ 1000000000000000001 → AreSmall variables
places-small first order variables h few = λ j inside. omega (arith, h j inside, position_or_len-le (eqb j) order, few)

-- where the new variable of a gate stands, and how small it is
pub gate-place : (first n l : ℕ) → first ≤ l / 2 → l / 2 < first + n → l / 2 - first < n
gate-place first n l above within = omega arith

pub double-fits : (variables : List ℕ) (j : ℕ) → AreSmall variables → j < length variables → Fits w64 (2 * get_or variables j 0)
double-fits variables j small inside = omega (arith, small j inside)

pub moved-fits : (variables : List ℕ) (j l : ℕ) → AreSmall variables → j < length variables → Fits w64 (2 * get_or variables j 0 + l % 2)
moved-fits variables j l small inside = omega (arith, small j inside)

-- literals that are moved and others
pub moved_by-leaf : (first : ℕ) (variables : List ℕ) (l : ℕ) → l / 2 < first → l ≡ moved_by first variables l
moved_by-leaf first variables l low = let t : ltb (l / 2) first ≡ true = grind (arith, nat_tests, low) in rw t refl

pub moved_by-gate : (first : ℕ) (variables : List ℕ) (l : ℕ) → first ≤ l / 2 → 2 * get_or variables (l / 2 - first) 0 + l % 2 ≡ moved_by first variables l
moved_by-gate first variables l high = let t : ltb (l / 2) first ≡ false = grind (arith, nat_tests, high) in rw t refl
