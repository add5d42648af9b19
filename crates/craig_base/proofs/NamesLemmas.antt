-- The list of names stays a list of names, and has each name at one place.
use Rattle.std.proofs.Common.{◌≡◌, ℕ, ◌*◌, ◌<◌, ◌≤◌, Bool, true, false, cond, eqb, List, [], ◌∷◌, ◌++◌, length, get_or, All, Contains, Some, slice_get, sym, refl, ap, ◌∙◌, arith, eqb-true, ne_eqb}
use Rattle.std.specs.Cmp.{nat_eq_equiv}
use Rattle.std.specs.List.{IsDistinct, list_any, position}
use Rattle.std.proofs.lemmas.List.Elements.{All-push, All-cons, All-weaker, recursion_from_All}
use Rattle.std.proofs.lemmas.List.Quantifiers.{position-Some}
use Rattle.std.proofs.lemmas.Map.Keys.{IsDistinct-push, IsDistinct-cons}
use Rattle.std.proofs.lemmas.Option.{slice_get-get_or}
use Rattle.craig_base.specs.Names.{IsName, AreNames, with_name}
use Rattle.craig_base.proofs.CountingLemmas.{length-le_from_counts, NoneMoreThan-IsDistinct}

-- with 0 in front they are different numbers below 2147483648
length-le_from_names : (names : List ℕ) → IsDistinct eqb names → All IsName names → length names ≤ 2147483647
length-le_from_names names distinct in_range =
    let apart : All (λ y. eqb 0 y ≡ false) names = All-weaker IsName (λ y. eqb 0 y ≡ false) (λ y h. ne_eqb 0 y (λ e. omega arith)) names in_range in
    let small : All (λ x. x < 2147483648) names = All-weaker IsName (λ x. x < 2147483648) (λ x h. omega arith) names in_range in
    let all_distinct : IsDistinct eqb (0 ∷ names) = IsDistinct-cons eqb 0 names (recursion_from_All (λ y. eqb 0 y ≡ false) names apart) distinct in
    let all_small : All (λ x. x < 2147483648) (0 ∷ names) = All-cons (λ x. x < 2147483648) 0 names (omega arith) small in
    let few : length (0 ∷ names) ≤ 1 * 2147483648 =
    length-le_from_counts 2147483648 1 (0 ∷ names) all_small (NoneMoreThan-IsDistinct (0 ∷ names) all_distinct) in
    omega arith

with_name-cases : (names : List ℕ) (name : ℕ) (known : Bool) → list_any (eqb name) names ≡ known → AreNames names → IsName name → AreNames (cond known names (names ++ name ∷ []))
with_name-cases names name true e h n = h
with_name-cases names name false e h n =
    let distinct : IsDistinct eqb (names ++ name ∷ []) = IsDistinct-push nat_eq_equiv names name h.distinct e in
    let in_range : All IsName (names ++ name ∷ []) = All-push IsName names name h.in_range n in
    record { distinct = distinct; in_range = in_range; few = length-le_from_names (names ++ name ∷ []) distinct in_range }

pub AreNames-with_name : (names : List ℕ) (name : ℕ) → AreNames names → IsName name → AreNames (with_name names name)
AreNames-with_name names name h n = with_name-cases names name (list_any (eqb name) names) refl h n

-- a name stands at its first place
pub slice_get-position : (name : ℕ) (names : List ℕ) (i : ℕ) → position (eqb name) names ≡ Some i → slice_get names i ≡ Some name
slice_get-position name names i e =
    let p : (i < length names) × (eqb name (get_or names i 0) ≡ true) × ((k : ℕ) → k < i → eqb name (get_or names k 0) ≡ false) = position-Some (eqb name) names i 0 e in
    slice_get-get_or names i 0 p.0 ∙ ap Some (sym (eqb-true name (get_or names i 0) p.1))

-- so it is in the list
pub Contains-position : (name : ℕ) (names : List ℕ) (i : ℕ) → position (eqb name) names ≡ Some i → Contains names name
Contains-position name names i e =
    let p : (i < length names) × (eqb name (get_or names i name) ≡ true) × ((k : ℕ) → k < i → eqb name (get_or names k name) ≡ false) = position-Some (eqb name) names i name e in
    (i, p.0, sym (eqb-true name (get_or names i name) p.1))
