-- Clauses under a list of values, and clauses over so many variables.
use Rattle.std.proofs.Common.{get_or, sym, subst, ◌∙◌, length, ℕ, zero, suc, ◌<◌, ◌≡◌, List, [], ◌∷◌, All, arith, refl, ap, Bool, true, false, ◌||◌, map}
use Rattle.std.proofs.lemmas.Bool.{and_parts, ltb-true}
use Rattle.std.specs.List.{list_any, list_all}
use Rattle.craig_spec.specs.Literal.{Clause}
use Rattle.craig_spec.specs.Truth.{IsModel, variable_value, clause_value}
use Rattle.craig_base.specs.Values.{assignment_of_values}
use Rattle.craig_top.specs.Values.{value_at, all_hold, IsOver, AreOver}

-- a test of the images is a test of the elements
pub list_any-map : {X Y : Type 0} (p : Y → Bool) (f : X → Y) (xs : List X) → list_any p (map f xs) ≡ list_any (λ x. p (f x)) xs
list_any-map p f [] = refl
list_any-map p f (x ∷ xs) = ap (λ b. p (f x) || b) (list_any-map p f xs)

-- values make the clauses true that their assignment does
module _ (law : (values : List Bool) (x : ℕ) → variable_value (assignment_of_values values) x ≡ get_or values x false) (values : List Bool) where
  clause_value-values : (c : Clause) → clause_value (assignment_of_values values) c ≡ list_any (value_at values) c
  clause_value-values [] = refl
  clause_value-values (l ∷ c) = rw (law values l.var, clause_value-values c) refl

  pub all_hold-values : (cs : List Clause) → list_all (clause_value (assignment_of_values values)) cs ≡ all_hold values cs
  all_hold-values [] = refl
  all_hold-values (c ∷ cs) = rw (clause_value-values c, all_hold-values cs) refl

  -- so does a model
  pub all_hold-from_model : (cs : List Clause) → IsModel (assignment_of_values values) cs → all_hold values cs ≡ true
  all_hold-from_model cs model = sym (all_hold-values cs) ∙ model

-- clauses over n variables are so one by one
pub IsOver-at : {A : Type 0} (n : ℕ) (labelled : List (A × Clause)) (i : ℕ) (d : A × Clause) → AreOver n (map (λ c. c.1) labelled) → i < length labelled → IsOver n (get_or labelled i d).1
IsOver-at n [] i d over h = absurd (omega arith)
IsOver-at n (c ∷ cs) zero d over h = (and_parts _ _ over).0
IsOver-at n (c ∷ cs) (suc i) d over h = IsOver-at n cs i d (and_parts _ _ over).1 (omega arith)

-- the same at an element as a loop sees it
pub IsOver-item : {A : Type 0} (n m : ℕ) (labelled : List (A × Clause)) (i : ℕ) (item : A × Clause) (c : Clause) → AreOver n (map (λ c. c.1) labelled) → i < length labelled
    → item ≡ get_or labelled i item → c ≡ item.1 → m ≡ n → IsOver m c
IsOver-item {A = A} n m labelled i item c over h is e f =
    let here : IsOver n (get_or labelled i item).1 = IsOver-at n labelled i item over h in
    let there : IsOver n item.1 = subst (λ (d : A × Clause). IsOver n d.1) (sym is) here in
    rw (f, e) there

-- and literal by literal
pub All-IsOver : (n : ℕ) (c : Clause) → IsOver n c → All (λ l. l.var < n) c
All-IsOver n [] over i d within = absurd (omega arith)
All-IsOver n (l ∷ c) over zero d within = ltb-true l.var n (and_parts _ _ over).0
All-IsOver n (l ∷ c) over (suc i) d within = All-IsOver n c (and_parts _ _ over).1 i d (omega arith)
