-- Partial interpolants of steps whose variables are named anew.
use Rattle.std.proofs.Common.{◌≡◌, ℕ, ◌<◌, Bool, true, false, cond, not, ◌&&◌, ◌||◌, List, [], ◌∷◌, length, map, fold, filter, refl, ap, sym, ◌∙◌, ltb, ltb-true, slice_index}
use Rattle.std.specs.List.{list_any, list_all}
use Rattle.std.proofs.lemmas.Bool.{and_parts}
use Rattle.craig_spec.specs.Literal.{Literal, Clause}
use Rattle.craig_spec.specs.Truth.{Assignment, variable_value, literal_value}
use Rattle.craig_spec.specs.Chain.{ChainStep, Origin, Original, Derived, ToldStep}
use Rattle.craig_spec.specs.PartialInterpolant.{Labelling, is_a, is_b, leaf_a_value, leaf_b_value, join_value, chain_value, origin_value, with_value, partial_values, partial_interpolant}
use Rattle.craig_top.specs.Named.{named_chain_step, named_origin, named_step, ArePivotsOver, IsOverOrigin, IsOverStep, AreStepsOver}
use Rattle.craig_top.specs.Naming.{named_literal, named_clause}
use Rattle.craig_top.specs.Values.{IsOver}
use Rattle.craig_spec.proofs.MemberLemmas.{Contains-front, Contains-later}

-- a literal that may be left out
list_any-kept : (p : Literal → Bool) (b : Bool) (l : Literal) (c : Clause) → list_any p (cond b (l ∷ c) c) ≡ ((b && p l) || list_any p c)
list_any-kept p true l c = refl
list_any-kept p false l c = refl

list_all-kept : (p : Literal → Bool) (b : Bool) (l : Literal) (c : Clause) → list_all p (cond b (l ∷ c) c) ≡ (cond b (p l) true && list_all p c)
list_all-kept p true l c = refl
list_all-kept p false l c = refl

module _ (names : List ℕ) (high low : Labelling) (s dense : Assignment)
    (sides : (part : ℕ) → high.is_leaf_of_a part ≡ low.is_leaf_of_a part)
    (labels : (x : ℕ) → x < length names → high.label (slice_index names x) ≡ low.label x)
    (values : (x : ℕ) → x < length names → variable_value dense x ≡ variable_value s (slice_index names x)) where
  -- a named literal has the value of the literal
  pub literal_value-named : (l : Literal) → l.var < length names → literal_value s (named_literal names l) ≡ literal_value dense l
  literal_value-named l below = ap (λ b. cond l.negated (not b) b) (sym (values l.var below))

  -- and so have the values of leaves
  pub leaf_a-named : (c : Clause) → IsOver (length names) c → leaf_a_value high.label s (named_clause names c) ≡ leaf_a_value low.label dense c
  leaf_a-named [] over = refl
  leaf_a-named (l ∷ c) over =
      let parts : (ltb l.var (length names) ≡ true) × IsOver (length names) c = and_parts _ _ over in
      let below : l.var < length names = ltb-true l.var (length names) parts.0 in
      list_any-kept (literal_value s) (is_b (high.label (slice_index names l.var))) (named_literal names l) (filter (λ m. is_b (high.label m.var)) (named_clause names c))
      ∙ rw (labels l.var below, literal_value-named l below, leaf_a-named c parts.1) refl
      ∙ sym (list_any-kept (literal_value dense) (is_b (low.label l.var)) l (filter (λ m. is_b (low.label m.var)) c))

  pub leaf_b-named : (c : Clause) → IsOver (length names) c → leaf_b_value high.label s (named_clause names c) ≡ leaf_b_value low.label dense c
  leaf_b-named [] over = refl
  leaf_b-named (l ∷ c) over =
      let parts : (ltb l.var (length names) ≡ true) × IsOver (length names) c = and_parts _ _ over in
      let below : l.var < length names = ltb-true l.var (length names) parts.0 in
      list_all-kept (λ m. not (literal_value s m)) (is_a (high.label (slice_index names l.var))) (named_literal names l) (filter (λ m. is_a (high.label m.var)) (named_clause names c))
      ∙ rw (labels l.var below, literal_value-named l below, leaf_b-named c parts.1) refl
      ∙ sym (list_all-kept (λ m. not (literal_value dense m)) (is_a (low.label l.var)) l (filter (λ m. is_a (low.label m.var)) c))

  -- a chain on named pivots has the value of the chain, where its antecedents have theirs
  module _ (value before : ℕ → Bool) (agree : (id : ℕ) → value id ≡ before id) where
    pub chain_value-named : (left right : Bool) (rest : List ChainStep) → ArePivotsOver (length names) rest → left ≡ right
        → chain_value high.label s value left (map (named_chain_step names) rest) ≡ chain_value low.label dense before right rest
    chain_value-named left right [] over same = same
    chain_value-named left right (step ∷ rest) over same =
        let parts : (ltb step.pivot.var (length names) ≡ true) × ArePivotsOver (length names) rest = and_parts _ _ over in
        let below : step.pivot.var < length names = ltb-true step.pivot.var (length names) parts.0 in
        chain_value-named
        (join_value (high.label (slice_index names step.pivot.var)) (literal_value s (named_literal names step.pivot)) left (value step.antecedent))
        (join_value (low.label step.pivot.var) (literal_value dense step.pivot) right (before step.antecedent))
        rest parts.1 (rw (labels step.pivot.var below, literal_value-named step.pivot below, same, agree step.antecedent) refl)

    pub origin_value-named : (c : Clause) (origin : Origin) → IsOver (length names) c → IsOverOrigin (length names) origin
        → origin_value high s value (named_clause names c) (named_origin names origin) ≡ origin_value low dense before c origin
    origin_value-named c (Original part) over pivots = rw (sides part, leaf_a-named c over, leaf_b-named c over) refl
    origin_value-named c (Derived first rest) over pivots = chain_value-named (value first) (before first) rest pivots (agree first)

    step_value-named : (step : ToldStep) → IsOverStep (length names) step → (id : ℕ)
        → with_value value step.id (origin_value high s value (named_clause names step.literals) (named_origin names step.origin)) id ≡ with_value before step.id (origin_value low dense before step.literals step.origin) id
    step_value-named step over id = rw (origin_value-named step.literals step.origin over.0 over.1, agree id) refl

  -- from the same values on, the named steps give the values of the steps
  values-named : (steps : List ToldStep) (value before : ℕ → Bool) → AreStepsOver (length names) steps → ((id : ℕ) → value id ≡ before id) → (id : ℕ)
      → fold (λ v (step : ToldStep). with_value v step.id (origin_value high s v step.literals step.origin)) value (map (named_step names) steps) id
      ≡ fold (λ v (step : ToldStep). with_value v step.id (origin_value low dense v step.literals step.origin)) before steps id
  values-named [] value before over agree id = agree id
  values-named (step ∷ steps) value before over agree id =
      values-named steps
      (with_value value step.id (origin_value high s value (named_clause names step.literals) (named_origin names step.origin)))
      (with_value before step.id (origin_value low dense before step.literals step.origin))
      (λ r here. over r (Contains-later step steps r here)) (step_value-named value before agree step (over step (Contains-front step steps))) id

  pub partial_interpolant-named : (steps : List ToldStep) → AreStepsOver (length names) steps → (id : ℕ)
      → partial_interpolant high (map (named_step names) steps) id s ≡ partial_interpolant low steps id dense
  unfolding partial_values
  partial_interpolant-named steps over id = values-named steps (λ i. false) (λ i. false) over (λ i. refl) id
