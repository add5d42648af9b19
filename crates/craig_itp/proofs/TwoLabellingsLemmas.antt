-- The values of one refutation under two labellings.
use Rattle.std.proofs.Common.{◌≡◌, inl, inr, ℕ, Bool, true, false, not, List, [], ◌∷◌, map, Contains, Option, Some, refl, ap, sym, subst, subst₂, ◌∙◌, arith}
use Rattle.craig_spec.specs.Literal.{Literal, Clause, negation}
use Rattle.craig_spec.specs.Truth.{Assignment, literal_value}
use Rattle.craig_spec.specs.Chain.{ChainStep, Origin, Original, Derived, ToldStep, Told, antecedents, clause_told, IsResolvent, IsChain, StandsOn, IsTold}
use Rattle.craig_spec.specs.PartialInterpolant.{Labelling, IsBelow, join_value, chain_value, origin_value, partial_values}
use Rattle.craig_spec.proofs.LiteralLemmas.{literal_value-negation, same_or_not}
use Rattle.craig_spec.proofs.MemberLemmas.{Contains-front, Contains-later}
use Rattle.craig_spec.proofs.ToldLemmas.{IsNeeded-below, IsNeeded-root, clause_told-find}
use Rattle.craig_itp.specs.Labellings.{MeetsRules, crosses, CrossingAreFalse, AddedHold, ValueImplies}
use Rattle.craig_itp.proofs.StandingLemmas.{each_stands, by_antecedents}
use Rattle.craig_itp.proofs.PartialValuesLemmas.{MeetsRules-partial_values}
use Rattle.craig_itp.proofs.JoinLemmas.{join-implied}
use Rattle.craig_itp.proofs.LeafLemmas.{leaf-implied}

module _ (low high : Labelling) (s : Assignment) where
  -- the claim of a clause with its two values
  abbrev Implied : Clause → Bool → Bool → Type 0
  Implied c one two = CrossingAreFalse low high s c → one ≡ true → two ≡ true

  -- what is asked of a resolvent's literals holds of a parent's but for the pivot
  crossing-first : (p : Literal) (c d r : Clause) → IsResolvent p c d r → CrossingAreFalse low high s r → (crosses low high p.var ≡ true → literal_value s p ≡ false) → CrossingAreFalse low high s c
  crossing-first p c d r resolved crossing pivot m here cross =
      elim (same_or_not m p) [
        | inl same ↦ subst (λ (q : Literal). crosses low high q.var ≡ true → literal_value s q ≡ false) (sym same) pivot cross
        | inr other ↦ crossing m ((resolved.literals m).1 (inl (here, other))) cross
      ]

  crossing-second : (p : Literal) (c d r : Clause) → IsResolvent p c d r → CrossingAreFalse low high s r → (crosses low high p.var ≡ true → not (literal_value s p) ≡ false) → CrossingAreFalse low high s d
  crossing-second p c d r resolved crossing pivot m here cross =
      elim (same_or_not m (negation p)) [
        | inl same ↦ subst (λ (q : Literal). crosses low high q.var ≡ true → literal_value s q ≡ false) (sym same) (λ over. literal_value-negation s p ∙ pivot over) cross
        | inr other ↦ crossing m ((resolved.literals m).1 (inr (here, other))) cross
      ]

  module _ (below : IsBelow low high) where
    -- one resolution
    resolvent-implied : (p : Literal) (c d r : Clause) (left right left_high right_high : Bool) → IsResolvent p c d r → Implied c left left_high → Implied d right right_high → Implied r (join_value (low.label p.var) (literal_value s p) left right) (join_value (high.label p.var) (literal_value s p) left_high right_high)
    resolvent-implied p c d r left right left_high right_high resolved first second crossing =
        join-implied (low.label p.var) (high.label p.var) (literal_value s p) left right left_high right_high (below.labels p.var) (λ pivot. first (crossing-first p c d r resolved crossing pivot)) (λ pivot. second (crossing-second p c d r resolved crossing pivot))

    -- a chain of them
    chain-implied : (f g : ℕ → Bool) (look_up : ℕ → Option Clause) (c : Clause) (left left_high : Bool) (rest : List ChainStep) (last : Clause) → IsChain look_up c rest last → Implied c left left_high → ((x : ℕ) (d : Clause) → Contains (map (λ q. q.antecedent) rest) x → look_up x ≡ Some d → Implied d (f x) (g x)) → Implied last (chain_value low.label s f left rest) (chain_value high.label s g left_high rest)
    chain-implied f g look_up c left left_high [] last chain first known = λ crossing. first (λ m here. crossing m ((chain m).0 here))
    chain-implied f g look_up c left left_high (q ∷ rest) last (d, r, is, resolved, more) first known =
        let ids : List ℕ = map (λ q. q.antecedent) rest in
        chain-implied f g look_up r (join_value (low.label q.pivot.var) (literal_value s q.pivot) left (f q.antecedent)) (join_value (high.label q.pivot.var) (literal_value s q.pivot) left_high (g q.antecedent)) rest last more (resolvent-implied q.pivot c d r left (f q.antecedent) left_high (g q.antecedent) resolved first (known q.antecedent d (Contains-front q.antecedent ids) is)) (λ x e here. known x e (Contains-later q.antecedent ids x here))

    module _ (steps : List ToldStep) (f g : ℕ → Bool) where
      -- the claim of a step
      abbrev StepImplied : ToldStep → Type 0
      StepImplied q = AddedHold low high steps q.id s → Implied q.literals (f q.id) (g q.id)

      antecedent-implied : (q : ToldStep) (x : ℕ) (d : Clause) → Contains steps q → ((r : ToldStep) → Contains steps r → Contains (antecedents q.origin) r.id → StepImplied r) → AddedHold low high steps q.id s → Contains (antecedents q.origin) x → clause_told steps x ≡ Some d → Implied d (f x) (g x)
      antecedent-implied q x d here earlier added ante is =
          let r = clause_told-find steps x d is in
          let ante_r : Contains (antecedents q.origin) (r.0).id = subst (λ (y : ℕ). Contains (antecedents q.origin) y) (sym r.2) ante in
          let claim : Implied (r.0).literals (f (r.0).id) (g (r.0).id) = earlier r.0 r.1 ante_r (λ o part there need. added o part there (IsNeeded-below steps q (r.0).id o.id here ante_r need)) in
          subst₂ (λ (y : ℕ) (e : Clause). Implied e (f y) (g y)) r.2 r.3 claim

      origin-implied : (q : ToldStep) (o : Origin) → q.origin ≡ o → Contains steps q → StandsOn steps q.literals o → ((r : ToldStep) → Contains steps r → Contains (antecedents q.origin) r.id → StepImplied r) → AddedHold low high steps q.id s → Implied q.literals (origin_value low s f q.literals o) (origin_value high s g q.literals o)
      origin-implied q (Original part) is here stands earlier added = λ crossing.
          leaf-implied low high s q.literals crossing (low.is_leaf_of_a part) (high.is_leaf_of_a part) (below.leaves part) (λ b a. added q part here (IsNeeded-root steps q.id) is b a)
      origin-implied q (Derived first rest) is here stands earlier added =
          let ids : List ℕ = map (λ q. q.antecedent) rest in
          let same : antecedents q.origin ≡ first ∷ ids = ap antecedents is in
          let known = λ (x : ℕ) (d : Clause) (ante : Contains (first ∷ ids) x). antecedent-implied q x d here earlier added (subst (λ (xs : List ℕ). Contains xs x) (sym same) ante) in
          chain-implied f g (clause_told steps) stands.start (f first) (g first) rest q.literals stands.chain (known first stands.start (Contains-front first ids) stands.start_is) (λ x d ante. known x d (Contains-later first ids x ante))

    -- each step, for values that meet the rules
    step-implied : (t : Told) (f g : ℕ → Bool) → IsTold t → MeetsRules low s t.steps f → MeetsRules high s t.steps g → (q : ToldStep) → Contains t.steps q → StepImplied t.steps f g q
    step-implied t f g told one two =
        by_antecedents t.steps (StepImplied t.steps f g) (each_stands t told) (λ q here earlier added crossing h.
        two q here ∙ origin-implied t.steps f g q q.origin refl here (each_stands t told q here).stands earlier added crossing (sym (one q here) ∙ h))

-- the value of a clause by the low labelling gives that by the high one
pub two_labellings-implied : (low high : Labelling) → IsBelow low high → (t : Told) → IsTold t → (q : ToldStep) → Contains t.steps q → (s : Assignment) → AddedHold low high t.steps q.id s → CrossingAreFalse low high s q.literals → ValueImplies low high t.steps q.id s
two_labellings-implied low high below t told q here s =
    step-implied low high s below t (partial_values low s t.steps) (partial_values high s t.steps) told (MeetsRules-partial_values low s t told) (MeetsRules-partial_values high s t told) q here

-- of the empty clause nothing is asked
pub root-implied : (low high : Labelling) → IsBelow low high → (t : Told) → IsTold t → (root : ℕ) → clause_told t.steps root ≡ Some [] → (s : Assignment) → AddedHold low high t.steps root s → ValueImplies low high t.steps root s
root-implied low high below t told root empty s =
    let r = clause_told-find t.steps root [] empty in
    let none : CrossingAreFalse low high s (r.0).literals = subst (λ (c : Clause). CrossingAreFalse low high s c) (sym r.3) (λ m (k, within, at). absurd (omega arith)) in
    subst (λ (id : ℕ). AddedHold low high t.steps id s → ValueImplies low high t.steps id s) r.2 (λ added. two_labellings-implied low high below t told r.0 r.1 s added none)
