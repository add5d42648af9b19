-- Ascending clauses, tautologies and normal clauses.
use Rattle.std.proofs.Common.{◌≡◌, ◌≢◌, ℕ, ◌+◌, ◌<◌, ◌≤◌, ◌↔◌, Bool, true, false, length, get_or, Contains, AllPairs, sym, ap, ◌∙◌, subst, Ordering, eqb, eqb-true, arith}
use Rattle.std.specs.Cmp.{IsTotalOrder, IsEquivalence, nat_cmp_total, nat_eq_equiv, unsigned_ties, ranks}
use Rattle.std.specs.List.Sorted.{IsSorted, IsPermutation, IsStrictlySortedBy}
use Rattle.std.specs.List.{AllAdjacentBelow, dedup}
use Rattle.std.specs.Ordering.{nat_cmp, MatchOrdering}
use Rattle.std.specs.declared.cmp.Ordering.TheVariants.{Less}
use Rattle.std.proofs.lemmas.List.Elements.{Contains-get_or}
use Rattle.std.proofs.lemmas.List.Kept.{IsStrictlySortedBy-dedup, Contains-dedup, Contains-from_dedup}
use Rattle.std.proofs.lemmas.List.Sorted.{Contains-permutation, IsPermutation-sym}
use Rattle.std.proofs.lemmas.List.{get_or_default}
use Rattle.std.proofs.lemmas.Map.Keys.{Less-from_sorted}
use Rattle.craig_spec.specs.Literal.{Literal, Clause, negation}
use Rattle.craig_spec.specs.Chain.{SameLiterals}
use Rattle.craig_base.specs.Clauses.{IsTautology, IsNormal, IsAscending, SameVariableAt}
use Rattle.craig_base.specs.Literals.{literal_code}
use Rattle.craig_base.proofs.LiteralsLemmas.{literal_code-injective, literal_code-near, negation-from_codes, negation-from_differs, negation-differs}

any_literal : Literal
any_literal = record { var = 0; negated = false }

-- neighbours of one variable are a literal and its negation
pub IsTautology-neighbours : (c : Clause) (k : ℕ) → IsAscending c → k + 1 < length c → SameVariableAt c k → IsTautology c
IsTautology-neighbours c k up h same =
    let l : Literal = get_or c k any_literal in
    let m : Literal = get_or c (k + 1) any_literal in
    let e : negation l ≡ m = negation-from_codes l m (same any_literal) (up k (k + 1) any_literal (omega arith) h) in
    (l, Contains-get_or c k any_literal (omega arith), subst (Contains c) (sym e) (Contains-get_or c (k + 1) any_literal h))

-- in an ascending clause literals of one variable are neighbours
pub vars_apart-ascending : (c : Clause) → IsAscending c → AllAdjacentBelow (λ l m. l.var ≢ m.var) c (length c) → AllPairs (λ l m. l.var ≢ m.var) c
vars_apart-ascending c up apart i j d before within e =
    let near : literal_code (get_or c j d) ≤ literal_code (get_or c i d) + 1 = literal_code-near (get_or c i d) (get_or c j d) e in
    let next : i + 1 < j → ⊥ = λ far.
    let one : literal_code (get_or c i d) < literal_code (get_or c (i + 1) d) = up i (i + 1) d (omega arith) (omega arith) in
    let two : literal_code (get_or c (i + 1) d) < literal_code (get_or c j d) = up (i + 1) j d far within in
    omega arith in
    let is : j ≡ i + 1 = omega (arith, next) in
    apart i d (rw is at within) (rw is at e)

-- where no variable stands twice, no literal stands beside its negation
not_tautology-vars_apart : (c : Clause) → AllPairs (λ l m. l.var ≢ m.var) c → IsTautology c → ⊥
not_tautology-vars_apart c apart (l, (i, i_within, at_i), (j, j_within, at_j)) =
    let there : get_or c j l ≡ negation l = get_or_default c j l (negation l) j_within ∙ at_j in
    let same : (get_or c i l).var ≡ (get_or c j l).var = ap (λ (m : Literal). m.var) at_i ∙ sym (ap (λ (m : Literal). m.var) there) in
    let not_before : i < j → ⊥ = λ before. apart i j l before j_within same in
    let not_after : j < i → ⊥ = λ after. apart j i l after i_within (sym same) in
    let e : i ≡ j = omega (arith, not_before, not_after) in
    negation-differs l (sym at_i ∙ ap (λ k. get_or c k l) e ∙ there)

-- where no variable stands twice, neither does a literal, and none stands beside its negation
pub IsNormal-vars_apart : (c : Clause) → AllPairs (λ l m. l.var ≢ m.var) c → IsNormal c
IsNormal-vars_apart c apart = record {
  distinct = λ i j d before within e. apart i j d before within (ap (λ (l : Literal). l.var) e);
  not_tautology = not_tautology-vars_apart c apart;
}

-- the way back
pub vars_apart-IsNormal : (c : Clause) → IsNormal c → AllPairs (λ l m. l.var ≢ m.var) c
vars_apart-IsNormal c normal i j d before within e =
    let n : negation (get_or c i d) ≡ get_or c j d = negation-from_differs (get_or c i d) (get_or c j d) e (normal.distinct i j d before within) in
    normal.not_tautology (get_or c i d, Contains-get_or c i d (omega arith), subst (Contains c) (sym n) (Contains-get_or c j d within))

-- whether a clause is a tautology depends on its members alone
pub IsTautology-SameLiterals : (c d : Clause) → SameLiterals c d → IsTautology c ↔ IsTautology d
IsTautology-SameLiterals c d same =
    (λ (l, here, there). (l, (same l).0 here, (same (negation l)).0 there), λ (l, here, there). (l, (same l).1 here, (same (negation l)).1 there))

-- the order of literals, and the test whether two are the same
abbrev pub code_cmp : Literal → Literal → Ordering
code_cmp l m = nat_cmp (literal_code l) (literal_code m)

abbrev pub code_eq : Literal → Literal → Bool
code_eq l m = eqb (literal_code l) (literal_code m)

code_cmp-total : IsTotalOrder code_cmp
code_cmp-total = record {
  antisymm = λ l m. nat_cmp_total.antisymm (literal_code l) (literal_code m);
  trans = λ l m n. nat_cmp_total.trans (literal_code l) (literal_code m) (literal_code n);
  congr = λ l m n. nat_cmp_total.congr (literal_code l) (literal_code m) (literal_code n);
}

code_eq-equiv : IsEquivalence code_eq
code_eq-equiv = record {
  refl = λ l. nat_eq_equiv.refl (literal_code l);
  symm = λ l m. nat_eq_equiv.symm (literal_code l) (literal_code m);
  congr = λ l m n. nat_eq_equiv.congr (literal_code l) (literal_code m) (literal_code n);
}

code_eq-same : (l m : Literal) → code_eq l m ≡ true → l ≡ m
code_eq-same l m e = literal_code-injective l m (eqb-true (literal_code l) (literal_code m) e)

below-Less : (a b : ℕ) → nat_cmp a b ≡ Less → a < b
below-Less a b e = subst (λ r. MatchOrdering r (a < b) (a ≡ b) (b < a)) e (ranks a b)

-- sorted literals ascend once the repeats are gone
pub IsAscending-dedup : (c : Clause) → IsSorted code_cmp c → IsAscending (dedup code_eq c)
IsAscending-dedup c sorted i j d before within =
    let strict : IsStrictlySortedBy code_cmp (dedup code_eq c) =
    IsStrictlySortedBy-dedup code_cmp-total (λ l m. unsigned_ties (literal_code l) (literal_code m)) c sorted in
    below-Less _ _ (Less-from_sorted code_cmp (dedup code_eq c) i j d strict before within)

-- a sort and the removal of repeats keep the members
pub SameLiterals-dedup : (c d : Clause) → IsPermutation c d → SameLiterals c (dedup code_eq d)
SameLiterals-dedup c d moved l = (
  λ h. Contains-dedup code_eq-equiv code_eq-same d l (Contains-permutation c d l moved h),
  λ h. Contains-permutation d c l (IsPermutation-sym c d moved) (Contains-from_dedup code_eq d l h),
)
