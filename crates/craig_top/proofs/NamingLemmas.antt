-- Dense clauses and values, and the clauses and assignments of the script that they stand for.
use Rattle.std.proofs.Common.{get_or, length, slice_index, take, ◌∙◌, sym, ℕ, ◌+◌, ◌<◌, ◌≡◌, List, [], ◌∷◌, ◌++◌, arith, refl, ap, Bool, true, false, not, map, cond, nat_lt, nat_eq, inl, inr, Some, slice_get, add-one, append-nil}
use Rattle.std.proofs.lemmas.List.{map-append, take_more}
use Rattle.std.proofs.lemmas.Option.{get_or_from_slice_get}
use Rattle.craig_base.specs.declared.script_part.Part.{Part}
use Rattle.std.proofs.lemmas.Bool.{and_parts, or_left, or_right, or_cases, eqb-true, eq-eqb, ltb-true}
use Rattle.std.specs.List.{list_any, list_all}
use Rattle.craig_spec.specs.Literal.{Literal, Clause}
use Rattle.craig_spec.specs.Truth.{Assignment, variable_value, literal_value, clause_value}
use Rattle.craig_spec.specs.Occurs.{occurs, occurs_in_clause}
use Rattle.craig_top.specs.Values.{value_at, all_hold, IsOver, AreOver}
use Rattle.craig_top.specs.Naming.{named_literal, named_clause, model_below}

-- one named variable more
pub model_below-named : (names : List ℕ) (named values : List Bool) (n name : ℕ) (before new : List Literal) → before ≡ model_below names named values n → get_or named n false ≡ true
    → slice_get names n ≡ Some name → new ≡ before ++ record { var = name; negated = not (get_or values n false) } ∷ [] → new ≡ model_below names named values (n + 1)
model_below-named names named values n name before new b t s e =
    let at : get_or names n 0 ≡ name = get_or_from_slice_get names n name 0 s in
    rw (add-one, e, b, t, at) refl

-- one more that occurs in no clause
pub model_below-unnamed : (names : List ℕ) (named values : List Bool) (n : ℕ) (before new : List Literal) → before ≡ model_below names named values n → get_or named n false ≡ false
    → new ≡ before → new ≡ model_below names named values (n + 1)
model_below-unnamed names named values n before new b t e = rw (add-one, e, b, t) (sym (append-nil _))

-- values that agree with an assignment of the script on the variables that occur make the same clauses true
module _ (names : List ℕ) (values : List Bool) (s : Assignment) where
  agree-literal : (l : Literal) → get_or values l.var false ≡ variable_value s (get_or names l.var 0) → value_at values l ≡ literal_value s (named_literal names l)
  agree-literal l e = ap (λ b. cond l.negated (not b) b) e

  agree-clause : (c : Clause) → ((x : ℕ) → occurs_in_clause x c ≡ true → get_or values x false ≡ variable_value s (get_or names x 0))
      → list_any (value_at values) c ≡ clause_value s (named_clause names c)
  agree-clause [] agree = refl
  agree-clause (l ∷ c) agree =
      let here : value_at values l ≡ literal_value s (named_literal names l) = agree-literal l (agree l.var (or_left _ _ (eq-eqb l.var l.var refl))) in
      let rest : list_any (value_at values) c ≡ clause_value s (named_clause names c) = agree-clause c (λ x h. agree x (or_right _ _ h)) in
      rw (here, rest) refl

  pub agree-clauses : (cs : List Clause) → ((x : ℕ) → occurs x cs ≡ true → get_or values x false ≡ variable_value s (get_or names x 0))
      → all_hold values cs ≡ list_all (clause_value s) (map (named_clause names) cs)
  agree-clauses [] agree = refl
  agree-clauses (c ∷ cs) agree =
      let here : list_any (value_at values) c ≡ clause_value s (named_clause names c) = agree-clause c (λ x h. agree x (or_left _ _ h)) in
      let rest : all_hold values cs ≡ list_all (clause_value s) (map (named_clause names) cs) = agree-clauses cs (λ x h. agree x (or_right _ _ h)) in
      rw (here, rest) refl

-- a literal with the name of its variable is the named one
pub named_literal-from : (names : List ℕ) (l : Literal) (variable name : ℕ) → variable ≡ l.var → slice_get names variable ≡ Some name → record { var = name; negated = l.negated } ≡ named_literal names l
named_literal-from names l variable name is at = ap (λ x. record { var = x; negated = l.negated }) (sym (get_or_from_slice_get names variable name 0 at) ∙ ap (slice_index names) is)

-- one literal more is named
pub named_clause-next : (names : List ℕ) (lits : Clause) (i : ℕ) (item : Literal) (before pushed : Clause) (l : Literal) → before ≡ named_clause names (take i lits) → i < length lits → item ≡ get_or lits i item → l ≡ named_literal names item → pushed ≡ before ++ l ∷ [] → pushed ≡ named_clause names (take (i + 1) lits)
named_clause-next names lits i item before pushed l so within is named put =
    put ∙ ap (λ c. c ++ l ∷ []) so ∙ ap (λ m. named_clause names (take i lits) ++ m ∷ []) named
    ∙ sym (ap (named_clause names) (take_more lits i item within) ∙ map-append (named_literal names) (take i lits) (get_or lits i item ∷ []) ∙ ap (λ m. named_clause names (take i lits) ++ named_literal names m ∷ []) (sym is))

-- one literal more is named
pub named_clause-more : (names : List ℕ) (assumptions : List (Part × Literal)) (i : ℕ) (item : Part × Literal) (before pushed : Clause) (l : Literal) → before ≡ named_clause names (map (λ (a : Part × Literal). a.1) (take i assumptions))
    → i < length assumptions → item ≡ get_or assumptions i item → l ≡ named_literal names item.1 → pushed ≡ before ++ l ∷ [] → pushed ≡ named_clause names (map (λ (a : Part × Literal). a.1) (take (i + 1) assumptions))
named_clause-more names assumptions i item before pushed l so within is named push =
    push ∙ ap (λ m. before ++ m ∷ []) named ∙ ap (λ ms. ms ++ named_literal names item.1 ∷ []) so
    ∙ ap (λ (a : Part × Literal). named_clause names (map (λ (b : Part × Literal). b.1) (take i assumptions)) ++ named_literal names a.1 ∷ []) is
    ∙ sym (ap (λ (xs : List (Part × Literal)). named_clause names (map (λ (b : Part × Literal). b.1) xs)) (take_more assumptions i item within)
    ∙ ap (named_clause names) (map-append (λ (b : Part × Literal). b.1) (take i assumptions) (get_or assumptions i item ∷ []))
    ∙ map-append (named_literal names) (map (λ (b : Part × Literal). b.1) (take i assumptions)) ((get_or assumptions i item).1 ∷ []))

-- a variable that occurs is below the bound
pub occurs_in_clause-below : (n x : ℕ) (c : Clause) → IsOver n c → occurs_in_clause x c ≡ true → x < n
occurs_in_clause-below n x [] over h = cc
occurs_in_clause-below n x (l ∷ c) over h =
    let parts : (nat_lt l.var n ≡ true) × (IsOver n c) = and_parts _ _ over in
    elim (or_cases _ _ h) [
      | inl here ↦ (let same : x ≡ l.var = eqb-true x l.var here in omega (arith, ltb-true l.var n parts.0))
      | inr later ↦ occurs_in_clause-below n x c parts.1 later
    ]

pub occurs-below : (n x : ℕ) (cs : List Clause) → AreOver n cs → occurs x cs ≡ true → x < n
occurs-below n x [] over h = cc
occurs-below n x (c ∷ cs) over h =
    let parts : (IsOver n c) × (AreOver n cs) = and_parts _ _ over in
    elim (or_cases _ _ h) [
      | inl here ↦ occurs_in_clause-below n x c parts.0 here
      | inr later ↦ occurs-below n x cs parts.1 later
    ]

-- the name of a variable that occurs occurs in the script's clauses
occurs_in_clause-named : (names : List ℕ) (k : ℕ) (c : Clause) → occurs_in_clause k c ≡ true → occurs_in_clause (get_or names k 0) (named_clause names c) ≡ true
occurs_in_clause-named names k [] h = cc
occurs_in_clause-named names k (l ∷ c) h = elim (or_cases _ _ h) [
  | inl here ↦ or_left _ _ (eq-eqb _ _ (ap (λ j. get_or names j 0) (eqb-true k l.var here)))
  | inr later ↦ or_right _ _ (occurs_in_clause-named names k c later)
]

pub occurs-named : (names : List ℕ) (k : ℕ) (cs : List Clause) → occurs k cs ≡ true → occurs (get_or names k 0) (map (named_clause names) cs) ≡ true
occurs-named names k [] h = cc
occurs-named names k (c ∷ cs) h = elim (or_cases _ _ h) [
  | inl here ↦ or_left _ _ (occurs_in_clause-named names k c here)
  | inr later ↦ or_right _ _ (occurs-named names k cs later)
]

-- a variable that occurs in the script's clauses is the name of one that occurs
occurs_in_clause-origin : (names : List ℕ) (x : ℕ) (c : Clause) → occurs_in_clause x (named_clause names c) ≡ true → (k : ℕ) × (occurs_in_clause k c ≡ true) × (nat_eq x (get_or names k 0) ≡ true)
occurs_in_clause-origin names x [] h = cc
occurs_in_clause-origin names x (l ∷ c) h = elim (or_cases _ _ h) [
  | inl here ↦ (l.var, or_left _ _ (eq-eqb l.var l.var refl), here)
  | inr later ↦ (let found = occurs_in_clause-origin names x c later in (found.0, or_right _ _ found.1, found.2))
]

pub occurs-origin : (names : List ℕ) (x : ℕ) (cs : List Clause) → occurs x (map (named_clause names) cs) ≡ true → (k : ℕ) × (occurs k cs ≡ true) × (nat_eq x (get_or names k 0) ≡ true)
occurs-origin names x [] h = cc
occurs-origin names x (c ∷ cs) h = elim (or_cases _ _ h) [
  | inl here ↦ (let found = occurs_in_clause-origin names x c here in (found.0, or_left _ _ found.1, found.2))
  | inr later ↦ (let found = occurs-origin names x cs later in (found.0, or_right _ _ found.1, found.2))
]
