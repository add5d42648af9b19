-- Which variables occur in clauses that are named anew, and the sides of a cut.
use Rattle.std.proofs.Common.{◌≡◌, ℕ, ◌<◌, Bool, true, false, cond, List, [], ◌∷◌, length, map, refl, ap, sym, ◌∙◌, nat_eq, nat_lt, slice_index, eq-eqb, ne_eqb, ltb-true, inl, inr, filter}
use Rattle.std.proofs.lemmas.Bool.{and_parts, cases_eq}
use Rattle.craig_spec.specs.Literal.{Clause}
use Rattle.craig_spec.specs.Occurs.{occurs_in_clause, occurs}
use Rattle.craig_spec.specs.Cut.{PartClause, clauses_within, is_on_side_a, is_on_side_b, side_a, side_b}
use Rattle.craig_top.specs.Named.{named_part_clause, bare_clauses, AreDifferent}
use Rattle.craig_top.specs.Naming.{named_clause}
use Rattle.craig_top.specs.Values.{IsOver, AreOver}
use Rattle.craig_top.proofs.OverLemmas.{AreOver-within}

module _ (names : List ℕ) (differ : AreDifferent names) where
  -- the names of two variables are equal where the variables are
  nat_eq-named : (x y : ℕ) → x < length names → y < length names → nat_eq (slice_index names x) (slice_index names y) ≡ nat_eq x y
  nat_eq-named x y a b = elim (cases_eq x y) [
    | inl same ↦ eq-eqb _ _ (ap (slice_index names) same) ∙ sym (eq-eqb x y same)
    | inr other ↦ ne_eqb _ _ (λ e. other (differ x y a b e)) ∙ sym (ne_eqb x y other)
  ]

  -- a name occurs where its variable does
  pub occurs_in_clause-same : (x : ℕ) (c : Clause) → x < length names → IsOver (length names) c → occurs_in_clause (slice_index names x) (named_clause names c) ≡ occurs_in_clause x c
  occurs_in_clause-same x [] below over = refl
  occurs_in_clause-same x (l ∷ c) below over =
      let parts : (nat_lt l.var (length names) ≡ true) × IsOver (length names) c = and_parts _ _ over in
      rw (nat_eq-named x l.var below (ltb-true l.var (length names) parts.0), occurs_in_clause-same x c below parts.1) refl

  pub occurs-same : (x : ℕ) (cs : List Clause) → x < length names → AreOver (length names) cs → occurs (slice_index names x) (map (named_clause names) cs) ≡ occurs x cs
  occurs-same x [] below over = refl
  occurs-same x (c ∷ cs) below over =
      let parts : IsOver (length names) c × AreOver (length names) cs = and_parts _ _ over in
      rw (occurs_in_clause-same x c below parts.0, occurs-same x cs below parts.1) refl

-- the named clauses of some parts
within-cases : (names : List ℕ) (c : PartClause) (named rest : List PartClause) (b : Bool) → bare_clauses named ≡ map (named_clause names) (bare_clauses rest)
    → bare_clauses (cond b (named_part_clause names c ∷ named) named) ≡ map (named_clause names) (bare_clauses (cond b (c ∷ rest) rest))
within-cases names c named rest true later = ap (λ cs. named_clause names c.clause ∷ cs) later
within-cases names c named rest false later = later

pub clauses_within-named : (test : ℕ → Bool) (names : List ℕ) (clauses : List PartClause) → clauses_within test (map (named_part_clause names) clauses) ≡ map (named_clause names) (clauses_within test clauses)
clauses_within-named test names [] = refl
clauses_within-named test names (c ∷ clauses) =
    within-cases names c (filter (λ (d : PartClause). test d.part) (map (named_part_clause names) clauses)) (filter (λ (d : PartClause). test d.part) clauses) (test c.part) (clauses_within-named test names clauses)

-- the sides and the parts of named clauses
pub side_a-named : (names : List ℕ) (clauses : List PartClause) (cut : ℕ) → side_a (map (named_part_clause names) clauses) cut ≡ map (named_clause names) (side_a clauses cut)
side_a-named names clauses cut = clauses_within-named (is_on_side_a cut) names clauses

pub side_b-named : (names : List ℕ) (clauses : List PartClause) (cut : ℕ) → side_b (map (named_part_clause names) clauses) cut ≡ map (named_clause names) (side_b clauses cut)
side_b-named names clauses cut = clauses_within-named (is_on_side_b cut) names clauses

module _ (names : List ℕ) (differ : AreDifferent names) (clauses : List PartClause) (over : AreOver (length names) (bare_clauses clauses)) where
  -- a name occurs in the clauses of some parts where its variable does
  pub occurs_within-named : (test : ℕ → Bool) (x : ℕ) → x < length names → occurs (slice_index names x) (clauses_within test (map (named_part_clause names) clauses)) ≡ occurs x (clauses_within test clauses)
  occurs_within-named test x below =
      ap (occurs (slice_index names x)) (clauses_within-named test names clauses) ∙ occurs-same names differ x (clauses_within test clauses) below (AreOver-within (length names) test clauses over)
