-- The literals that say the values of the named variables, put in order, are a model reply.
use Rattle.std.proofs.Common.{get_or, sym, subst, ◌∙◌, length, ℕ, zero, suc, ◌<◌, ◌≤◌, ◌≡◌, ◌≢◌, List, [], ◌∷◌, ◌++◌, arith, refl, ap, Bool, true, false, not, ◌&&◌, ◌||◌, map, cond, nat_eq, inl, inr}
use Rattle.std.proofs.Math.Bool.{or-false}
use Rattle.std.proofs.lemmas.List.{map-append, append-nil}
use Rattle.std.proofs.lemmas.List.Folds.{list_any-append}
use Rattle.std.proofs.lemmas.List.Sorted.{list_any-IsPermutation, IsPermutation-map}
use Rattle.std.proofs.lemmas.Map.Keys.{apart_from_distinct, IsDistinct-push, IsDistinct-IsPermutation, IsStrictlyIncreasing-from_distinct}
use Rattle.std.proofs.lemmas.Bool.{and_parts, and_from, and_right, eqb-true, eq-eqb, cases_order}
use Rattle.std.proofs.lemmas.Cmp.{nat_eq_equiv}
use Rattle.std.specs.List.{list_any, IsDistinct}
use Rattle.std.specs.List.Sorted.{IsPermutation, IsNonDecreasing}
use Rattle.craig_spec.specs.Literal.{Literal, Clause}
use Rattle.craig_spec.specs.Truth.{variable_value}
use Rattle.craig_spec.specs.Occurs.{occurs, occurs_in_clause}
use Rattle.craig_top.specs.Values.{all_hold, AreOver}
use Rattle.craig_top.specs.Naming.{named_clause, model_below}
use Rattle.craig_top.specs.ModelReply.{IsModelReply, positives}
use Rattle.craig_top.proofs.BelowLemmas.{any_below, any_below-some, any_below-find, any_below-one, any_below-none}
use Rattle.craig_label.proofs.RangeLemmas.{same_answer}
use Rattle.craig_top.proofs.ValueLemmas.{list_any-map}
use Rattle.craig_top.proofs.NamingLemmas.{agree-clauses, occurs-below, occurs-named, occurs-origin}

-- the literal that says the value of the dense variable k
abbrev literal_at : List ℕ → List Bool → ℕ → Literal
literal_at names values k = record { var = get_or names k 0; negated = not (get_or values k false) }

list_any-optional : (p : Literal → Bool) (b : Bool) (l : Literal) → list_any p (cond b (l ∷ []) []) ≡ (b && p l)
list_any-optional p true l = or-false (p l)
list_any-optional p false l = refl

-- a test over the literals is a test over the named variables
list_any-model_below : (p : Literal → Bool) (names : List ℕ) (named values : List Bool) (n : ℕ)
    → list_any p (model_below names named values n) ≡ any_below (λ k. get_or named k false && p (literal_at names values k)) n
list_any-model_below p names named values zero = refl
list_any-model_below p names named values (suc n) =
    list_any-append p (model_below names named values n) _
    ∙ ap (λ b. b || list_any p (cond (get_or named n false) (literal_at names values n ∷ []) [])) (list_any-model_below p names named values n)
    ∙ ap (λ b. any_below (λ k. get_or named k false && p (literal_at names values k)) n || b) (list_any-optional p (get_or named n false) (literal_at names values n))

positives-first : (x : ℕ) (negated : Bool) (v : ℕ) (ls : List Literal)
    → variable_value (positives (record { var = v; negated = negated } ∷ ls)) x ≡ (not negated && nat_eq x v || variable_value (positives ls) x)
positives-first x true v ls = refl
positives-first x false v ls = refl

-- the variables that the literals make true
variable_value-positives : (x : ℕ) (literals : List Literal) → variable_value (positives literals) x ≡ list_any (λ l. not l.negated && nat_eq x l.var) literals
variable_value-positives x [] = refl
variable_value-positives x (l ∷ ls) = positives-first x l.negated l.var ls ∙ ap (λ b. (not l.negated && nat_eq x l.var) || b) (variable_value-positives x ls)

eqb-sym : (a b : ℕ) → nat_eq a b ≡ nat_eq b a
eqb-sym a b = same_answer _ _ (λ e. eq-eqb b a (sym (eqb-true a b e))) (λ e. eq-eqb a b (sym (eqb-true b a e)))

value_alone : (a v e : Bool) → a ≡ true → e ≡ true → (a && (not (not v) && e)) ≡ v
value_alone true true true p q = refl
value_alone true true false p q = cc
value_alone true false e p q = refl
value_alone false v e p q = cc

-- different places have different names
apart : (names : List ℕ) (i j : ℕ) → IsDistinct nat_eq names → i < length names → j < length names → i ≢ j → nat_eq (get_or names i 0) (get_or names j 0) ≡ false
apart names i j d l k other = elim (cases_order i j) [
  | inl same ↦ absurd (other same)
  | inr order ↦ elim order [
    | inl less ↦ apart_from_distinct nat_eq names i j 0 d less k
    | inr more ↦ eqb-sym (get_or names i 0) (get_or names j 0) ∙ apart_from_distinct nat_eq names j i 0 d more l
  ]
]

IsDistinct-nil : IsDistinct nat_eq []
unfolding IsDistinct
IsDistinct-nil = tt

module _ (names : List ℕ) (named values : List Bool) (cs : List Clause) (distinct : IsDistinct nat_eq names)
    (named_is : (x : ℕ) → x < length names → get_or named x false ≡ occurs x cs) (over : AreOver (length names) cs) where
  -- the literals have the variables that occur
  named_variables : (x : ℕ) → occurs_in_clause x (model_below names named values (length names)) ≡ occurs x (map (named_clause names) cs)
  named_variables x = list_any-model_below (λ l. nat_eq x l.var) names named values (length names) ∙ same_answer _ _ to from
    where
      to : any_below (λ k. get_or named k false && nat_eq x (get_or names k 0)) (length names) ≡ true → occurs x (map (named_clause names) cs) ≡ true
      to h =
          let found : (k : ℕ) × (k < length names) × ((get_or named k false && nat_eq x (get_or names k 0)) ≡ true) = any_below-find _ _ h in
          let parts : (get_or named found.0 false ≡ true) × (nat_eq x (get_or names found.0 0) ≡ true) = and_parts _ _ found.2 in
          let there : occurs (get_or names found.0 0) (map (named_clause names) cs) ≡ true = occurs-named names found.0 cs (sym (named_is found.0 found.1) ∙ parts.0) in
          ap (λ y. occurs y (map (named_clause names) cs)) (eqb-true x (get_or names found.0 0) parts.1) ∙ there

      from : occurs x (map (named_clause names) cs) ≡ true → any_below (λ k. get_or named k false && nat_eq x (get_or names k 0)) (length names) ≡ true
      from h =
          let found : (k : ℕ) × (occurs k cs ≡ true) × (nat_eq x (get_or names k 0) ≡ true) = occurs-origin names x cs h in
          let below : found.0 < length names = occurs-below (length names) found.0 cs over found.1 in
          any_below-some _ _ found.0 below (and_from _ _ (named_is found.0 below ∙ found.1) found.2)

  -- under the literals a named variable has the value of its dense one
  value_named : (literals : List Literal) → IsPermutation (model_below names named values (length names)) literals
      → (x : ℕ) → occurs x cs ≡ true → get_or values x false ≡ variable_value (positives literals) (get_or names x 0)
  value_named literals permuted x h =
      let l : x < length names = occurs-below (length names) x cs over h in
      let y : ℕ = get_or names x 0 in
      let here : (get_or named x false && (not (not (get_or values x false)) && nat_eq (get_or names x 0) (get_or names x 0))) ≡ get_or values x false = value_alone _ _ _ (named_is x l ∙ h) (eq-eqb (get_or names x 0) (get_or names x 0) refl) in
      sym (variable_value-positives (get_or names x 0) literals
      ∙ sym (list_any-IsPermutation (λ m. not m.negated && nat_eq (get_or names x 0) m.var) _ literals permuted)
      ∙ list_any-model_below (λ m. not m.negated && nat_eq (get_or names x 0) m.var) names named values (length names)
      ∙ any_below-one _ (length names) x l (λ k m other. and_right _ _ (and_right _ _ (apart names x k distinct l m (λ e. other (sym e)))))
      ∙ here)

  -- no two of them have one variable
  fresh : (n : ℕ) → n < length names → list_any (nat_eq (get_or names n 0)) (map (λ l. l.var) (model_below names named values n)) ≡ false
  fresh n h =
      list_any-map (nat_eq (get_or names n 0)) (λ (l : Literal). l.var) (model_below names named values n)
      ∙ list_any-model_below (λ l. nat_eq (get_or names n 0) l.var) names named values n
      ∙ any_below-none _ n (λ k l. and_right _ _ (apart names n k distinct h (omega arith) (omega arith)))

  distinct_names : (n : ℕ) → n ≤ length names → IsDistinct nat_eq (map (λ l. l.var) (model_below names named values n))
  distinct_names zero h = IsDistinct-nil
  distinct_names (suc n) h = subst (IsDistinct nat_eq) (sym (map-append (λ (l : Literal). l.var) (model_below names named values n) _))
      (more (get_or named n false) (distinct_names n (omega arith)) (fresh n (omega arith)))
    where
      more : (b : Bool) → IsDistinct nat_eq (map (λ l. l.var) (model_below names named values n)) → list_any (nat_eq (get_or names n 0)) (map (λ l. l.var) (model_below names named values n)) ≡ false
          → IsDistinct nat_eq (map (λ l. l.var) (model_below names named values n) ++ map (λ l. l.var) (cond b (literal_at names values n ∷ []) []))
      more true d f = IsDistinct-push nat_eq_equiv _ _ d f
      more false d f = subst (IsDistinct nat_eq) (sym (append-nil _)) d

  pub model_reply : (literals : List Literal) → IsPermutation (model_below names named values (length names)) literals → IsNonDecreasing (map (λ l. l.var) literals)
      → all_hold values cs ≡ true → IsModelReply (map (named_clause names) cs) literals
  model_reply literals permuted sorted holds = record {
    named = λ x. sym (list_any-IsPermutation (λ l. nat_eq x l.var) _ literals permuted) ∙ named_variables x;
    rising = IsStrictlyIncreasing-from_distinct _ sorted
        (IsDistinct-IsPermutation nat_eq eqb-sym _ _ (IsPermutation-map (λ (l : Literal). l.var) _ literals permuted) (distinct_names (length names) (omega arith)));
    satisfies = sym (agree-clauses names values (positives literals) cs (value_named literals permuted)) ∙ holds;
  }

-- the variables that were noted or are assumed are those of the clauses and the units
pub named-occurs : (count : ℕ) (named : List Bool) (noted : ℕ → Bool) (clauses assumed : List Clause) → ((x : ℕ) → x < count → get_or named x false ≡ (noted x || occurs x assumed)) → ((x : ℕ) → noted x ≡ occurs x clauses)
    → (x : ℕ) → x < count → get_or named x false ≡ occurs x (clauses ++ assumed)
named-occurs count named noted clauses assumed is has x below =
    is x below ∙ ap (λ b. b || occurs x assumed) (has x) ∙ sym (list_any-append (occurs_in_clause x) clauses assumed)
