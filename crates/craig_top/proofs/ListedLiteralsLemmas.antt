-- What the literals of a model reply list.
use Rattle.std.proofs.Common.{◌≡◌, ◌∙◌, sym, ap, subst, refl, ℕ, ◌+◌, ◌<◌, Bool, true, false, not, List, [], ◌∷◌, length, map, get_or, Contains, Some, slice_get, arith, inl, inr, eqb-true, eq-eqb}
use Rattle.std.specs.List.Sorted.{IsStrictlyIncreasing}
use Rattle.std.proofs.lemmas.Bool.{or_cases, or_left, or_right, cases_order}
use Rattle.std.proofs.lemmas.List.{get_or-map, length-map}
use Rattle.std.proofs.lemmas.List.Kept.{AllPairs-from_increasing}
use Rattle.std.proofs.lemmas.Option.{get_or_from_slice_get, slice_get-get_or}
use Rattle.craig_spec.specs.Literal.{Literal, Clause}
use Rattle.craig_spec.specs.Truth.{Assignment, IsModel, clause_value, literal_value, variable_value}
use Rattle.craig_spec.specs.Occurs.{occurs_in_clause}
use Rattle.craig_spec.proofs.ClauseLemmas.{clause_value-find, clause_value-member, occurs_in_clause-find, occurs_in_clause-member}
use Rattle.craig_spec.proofs.MemberLemmas.{Contains-cases, Contains-front, Contains-later, list_all-member, list_all-members, list_any-find, list_any-member, slice_get-below, slice_get-to_map}
use Rattle.craig_top.specs.ListedLiterals.{EachHasOne, HasVariable, ListsEachVariable, MakesTrue, SomeHasVariable, VariablesRise}
use Rattle.craig_top.specs.ModelReply.{IsModelReply, positives}

same_literal : (l m : Literal) → l.var ≡ m.var → l.negated ≡ m.negated → l ≡ m
same_literal l m v s = λ i. record { var = v i; negated = s i }

-- nothing is both true and false
pub not_both : (b : Bool) → b ≡ true → not b ≡ true → ⊥
not_both true t f = absurd (let no : false ≡ true = f in cc)
not_both false t f = absurd (let no : false ≡ true = t in cc)

-- a variable that the literals make true is one of a literal without a sign
positives-find-cases : (negated : Bool) (v : ℕ) (ls : List Literal) (x : ℕ) → variable_value (positives (record { var = v; negated = negated } ∷ ls)) x ≡ true → (variable_value (positives ls) x ≡ true → (l : Literal) × Contains ls l × (l.negated ≡ false) × (l.var ≡ x))
    → (l : Literal) × Contains (record { var = v; negated = negated } ∷ ls) l × (l.negated ≡ false) × (l.var ≡ x)
positives-find-cases true v ls x h later = let found = later h in (found.0, Contains-later (record { var = v; negated = true }) ls found.0 found.1, found.2, found.3)
positives-find-cases false v ls x h later = elim (or_cases _ _ h) [
  | inl here ↦ (record { var = v; negated = false }, Contains-front (record { var = v; negated = false }) ls, refl, sym (eqb-true x v here))
  | inr more ↦ (let found = later more in (found.0, Contains-later (record { var = v; negated = false }) ls found.0 found.1, found.2, found.3))
]

positives-find : (ls : List Literal) (x : ℕ) → variable_value (positives ls) x ≡ true → (l : Literal) × Contains ls l × (l.negated ≡ false) × (l.var ≡ x)
positives-find [] x h = absurd (let no : false ≡ true = h in cc)
positives-find (l ∷ ls) x h = positives-find-cases l.negated l.var ls x h (positives-find ls x)

-- and each of those is made true
positives-later : (negated : Bool) (v : ℕ) (ls : List Literal) (x : ℕ) → variable_value (positives ls) x ≡ true → variable_value (positives (record { var = v; negated = negated } ∷ ls)) x ≡ true
positives-later true v ls x h = h
positives-later false v ls x h = or_right _ _ h

positives-first : (negated : Bool) (v : ℕ) (ls : List Literal) → negated ≡ false → variable_value (positives (record { var = v; negated = negated } ∷ ls)) v ≡ true
positives-first true v ls e = absurd (cc)
positives-first false v ls e = or_left _ _ (eq-eqb v v refl)

positives-member : (ls : List Literal) (l : Literal) → Contains ls l → l.negated ≡ false → variable_value (positives ls) l.var ≡ true
positives-member [] l (k, within, at) e = absurd (omega (arith, within))
positives-member (m ∷ ls) l here e = elim (Contains-cases m ls l here) [
  | inl same ↦ subst (λ (n : Literal). variable_value (positives (m ∷ ls)) n.var ≡ true) same (positives-first m.negated m.var ls (ap (λ (n : Literal). n.negated) same ∙ e))
  | inr later ↦ positives-later m.negated m.var ls l.var (positives-member ls l later e)
]

-- no two literals have one variable where the variables rise
one_of_variable : (ls : List Literal) → IsStrictlyIncreasing (map (λ l. l.var) ls) → (l m : Literal) → Contains ls l → Contains ls m → l.var ≡ m.var → l ≡ m
one_of_variable ls rising l m (i, l_within, l_at) (j, m_within, m_at) same =
    let pairs = AllPairs-from_increasing (map (λ (n : Literal). n.var) ls) rising in
    let l_var : get_or (map (λ (n : Literal). n.var) ls) i 0 ≡ l.var = get_or-map (λ (n : Literal). n.var) ls i l 0 l_within ∙ ap (λ (n : Literal). n.var) l_at in
    let m_var : get_or (map (λ (n : Literal). n.var) ls) j 0 ≡ m.var = get_or-map (λ (n : Literal). n.var) ls j m 0 m_within ∙ ap (λ (n : Literal). n.var) m_at in
    let count : length (map (λ (n : Literal). n.var) ls) ≡ length ls = length-map ls (λ (n : Literal). n.var) in
    elim (cases_order i j) [
      | inl place ↦ (
          let a : slice_get ls i ≡ Some l = slice_get-get_or ls i l l_within ∙ ap Some l_at in
          let b : slice_get ls j ≡ Some m = slice_get-get_or ls j m m_within ∙ ap Some m_at in
          let c : slice_get ls i ≡ slice_get ls j = ap (slice_get ls) place in
          let d : Some l ≡ Some m = sym a ∙ c ∙ b in
          cc)
      | inr order ↦ elim order [
        | inl less ↦ absurd (let up : get_or (map (λ (n : Literal). n.var) ls) i 0 < get_or (map (λ (n : Literal). n.var) ls) j 0 = pairs i j 0 less (omega (arith, m_within, count)) in omega (arith, up, l_var, m_var, same))
        | inr more ↦ absurd (let up : get_or (map (λ (n : Literal). n.var) ls) j 0 < get_or (map (λ (n : Literal). n.var) ls) i 0 = pairs j i 0 more (omega (arith, l_within, count)) in omega (arith, up, l_var, m_var, same))
      ]
    ]

pub lists_each : (clauses : List Clause) (literals : List Literal) → IsModelReply clauses literals → ListsEachVariable clauses literals
lists_each clauses literals reply x = (to, from)
  where
    to : HasVariable literals x → SomeHasVariable clauses x
    to (l, here, is) =
        let c = list_any-find (occurs_in_clause x) clauses (sym (reply.named x) ∙ occurs_in_clause-member x literals l here is) in
        (c.0, c.1, occurs_in_clause-find x c.0 c.2)

    from : SomeHasVariable clauses x → HasVariable literals x
    from (c, member, (l, here, is)) = occurs_in_clause-find x literals (reply.named x ∙ list_any-member (occurs_in_clause x) clauses c member (occurs_in_clause-member x c l here is))

pub variables_rise : (clauses : List Clause) (literals : List Literal) → IsModelReply clauses literals → VariablesRise literals
variables_rise clauses literals reply i l m one next =
    let a : get_or (map (λ (n : Literal). n.var) literals) i 0 ≡ l.var = get_or_from_slice_get (map (λ (n : Literal). n.var) literals) i l.var 0 (slice_get-to_map (λ (n : Literal). n.var) literals i l one) in
    let b : get_or (map (λ (n : Literal). n.var) literals) (i + 1) 0 ≡ m.var = get_or_from_slice_get (map (λ (n : Literal). n.var) literals) (i + 1) m.var 0 (slice_get-to_map (λ (n : Literal). n.var) literals (i + 1) m next) in
    let within : i + 1 < length literals = slice_get-below literals (i + 1) m next in
    let count : length (map (λ (n : Literal). n.var) literals) ≡ length literals = length-map literals (λ (n : Literal). n.var) in
    let up = reply.rising i (omega (arith, within, count)) in
    omega (arith, up, a, b)

-- a true literal of a clause is listed
listed-negated : (literals : List Literal) (l m : Literal) → l.negated ≡ true → not (variable_value (positives literals) l.var) ≡ true → Contains literals m → m.var ≡ l.var → (b : Bool) → m.negated ≡ b → Contains literals l
listed-negated literals l m negated value here same true sign = subst (Contains literals) (same_literal m l same (sign ∙ sym negated)) here
listed-negated literals l m negated value here same false sign =
    absurd (not_both (variable_value (positives literals) l.var) (ap (variable_value (positives literals)) (sym same) ∙ positives-member literals m here sign) value)

listed : (literals : List Literal) (var : ℕ) (negated : Bool) → HasVariable literals var → literal_value (positives literals) (record { var = var; negated = negated }) ≡ true → Contains literals (record { var = var; negated = negated })
listed literals var true (m, here, same) value = listed-negated literals (record { var = var; negated = true }) m refl value here same m.negated refl
listed literals var false has value =
    let found = positives-find literals var value in
    subst (Contains literals) (same_literal found.0 (record { var = var; negated = false }) found.3 found.2) found.1

pub each_has_one : (clauses : List Clause) (literals : List Literal) → IsModelReply clauses literals → EachHasOne clauses literals
each_has_one clauses literals reply c member =
    let l = clause_value-find (positives literals) c (list_all-member (clause_value (positives literals)) clauses c member reply.satisfies) in
    let has : HasVariable literals (l.0).var = (lists_each clauses literals reply (l.0).var).1 (c, member, (l.0, l.1, refl)) in
    (l.0, l.1, listed literals (l.0).var (l.0).negated has l.2)

pub makes_model : (clauses : List Clause) (literals : List Literal) → IsModelReply clauses literals → (s : Assignment) → MakesTrue s literals → IsModel s clauses
makes_model clauses literals reply s holds = list_all-members (clause_value s) clauses (λ c member.
    let l = each_has_one clauses literals reply c member in
    clause_value-member s c l.0 l.1 (holds l.0 l.2))

-- the literals are true together
positive_or_not : (literals : List Literal) → IsStrictlyIncreasing (map (λ l. l.var) literals) → (var : ℕ) (negated b : Bool) → Contains literals (record { var = var; negated = negated }) → variable_value (positives literals) var ≡ b → literal_value (positives literals) (record { var = var; negated = negated }) ≡ true
positive_or_not literals rising var true false here value = ap not value
positive_or_not literals rising var true true here value =
    let found = positives-find literals var value in
    let same : found.0 ≡ record { var = var; negated = true } = one_of_variable literals rising found.0 (record { var = var; negated = true }) found.1 here found.3 in
    absurd (let no : false ≡ true = sym found.2 ∙ ap (λ (n : Literal). n.negated) same in cc)
positive_or_not literals rising var false b here value = positives-member literals (record { var = var; negated = false }) here refl

pub true_together : (clauses : List Clause) (literals : List Literal) → IsModelReply clauses literals → (s : Assignment) × MakesTrue s literals
true_together clauses literals reply = (positives literals, λ l here. positive_or_not literals reply.rising l.var l.negated (variable_value (positives literals) l.var) here refl)
