-- The places of assumptions whose negations are in a clause.
use Rattle.std.proofs.Common.{◌≡◌, ◌≢◌, inl, inr, ℕ, ◌+◌, ◌<◌, List, [], ◌∷◌, ◌++◌, length, get_or, take, All, Contains, Some, sym, ap, subst, ◌∙◌, arith}
use Rattle.std.specs.List.{slice_get}
use Rattle.std.proofs.lemmas.Bool.{cases_lt}
use Rattle.std.proofs.lemmas.List.{get_or-take, length-take}
use Rattle.std.proofs.lemmas.List.Elements.{Contains-append_left, Contains-get_or, Contains-push, Contains-push_cases}
use Rattle.std.proofs.lemmas.List.Quantifiers.{all_pairs_push}
use Rattle.std.proofs.lemmas.Option.{slice_get-get_or, slice_get_within, same_Some}
use Rattle.craig_spec.specs.Literal.{Literal, Clause, negation}
use Rattle.craig_base.specs.declared.script_part.Part.{Part}
use Rattle.craig_search.specs.Assuming.{AreNegated, NegatesAt}
use Rattle.craig_search.specs.Verdict.{AreFirstPlaces, Assumptions}

pub negated-none : (assumptions : Assumptions) (c : Clause) → AreNegated assumptions c 0 []
negated-none assumptions c = record {
  rising = λ i j d before within. absurd (omega (arith, within));
  each = λ p has. absurd (let w : has.0 < 0 = has.1 in omega arith);
  all = λ p a low is has. absurd (omega (arith, low));
}

-- the assumption at the bound
module _ (assumptions : Assumptions) (c : Clause) (bound : ℕ) (places : List ℕ) (a : Part × Literal) (at : slice_get assumptions bound ≡ Some a) (n : AreNegated assumptions c bound places) where
  each-next : (p : ℕ) → Contains places p → (p < bound + 1) × NegatesAt assumptions c p
  each-next p has = let e = n.each p has in (omega (arith, e.0), e.1)

  same-place : (p : ℕ) (b : Part × Literal) → ¬ (p < bound) → p < bound + 1 → slice_get assumptions p ≡ Some b → a ≡ b
  same-place p b high low is =
      let same : p ≡ bound = omega (arith, high, low) in
      same_Some _ _ (sym at ∙ ap (slice_get assumptions) (sym same) ∙ is)

  pub negated-push : Contains c (negation a.1) → ((q : ℕ) (b : Part × Literal) → q < bound → slice_get assumptions q ≡ Some b → b.1 ≢ a.1) → AreNegated assumptions c (bound + 1) (places ++ bound ∷ [])
  negated-push has first = record {
    rising = all_pairs_push (λ p q. p < q) places bound n.rising (λ k d within. (n.each (get_or places k d) (Contains-get_or places k d within)).0);
    each = λ p there. elim (Contains-push_cases places bound p there) [
      | inl before ↦ each-next p before
      | inr is ↦ (omega (arith, is), subst (NegatesAt assumptions c) is (a, at, has, first))
    ];
    all = λ p b low is there. elim (cases_lt p bound) [
      | inl lower ↦ (let q = n.all p b lower is there in (q.0, q.1, Contains-append_left places (bound ∷ []) q.0 q.2, q.3, q.4))
      | inr high ↦ (bound, a, Contains-push places bound, at, ap (λ (x : Part × Literal). x.1) (same-place p b (λ lower. omega (arith, high, lower)) low is))
    ];
  }

  pub negated-absent : ¬ Contains c (negation a.1) → AreNegated assumptions c (bound + 1) places
  negated-absent absent = record {
    rising = n.rising;
    each = each-next;
    all = λ p b low is there. elim (cases_lt p bound) [
      | inl lower ↦ n.all p b lower is there
      | inr high ↦ absurd (absent (subst (λ (x : Part × Literal). Contains c (negation x.1)) (sym (same-place p b (λ lower. omega (arith, high, lower)) low is)) there))
    ];
  }

  pub negated-known : (q : ℕ) (o : Part × Literal) → q < bound → slice_get assumptions q ≡ Some o → o.1 ≡ a.1 → AreNegated assumptions c (bound + 1) places
  negated-known q o under here equal = record {
    rising = n.rising;
    each = each-next;
    all = λ p b low is there. elim (cases_lt p bound) [
      | inl lower ↦ n.all p b lower is there
      | inr high ↦
          let same : a.1 ≡ b.1 = ap (λ (x : Part × Literal). x.1) (same-place p b (λ lower. omega (arith, high, lower)) low is) in
          let found = n.all q o under here (subst (λ (l : Literal). Contains c (negation l)) (sym (equal ∙ same)) there) in
          (found.0, found.1, found.2, found.3, found.4 ∙ equal ∙ same)
    ];
  }

-- what stands before a place
pub new-before : (assumptions : Assumptions) (bound : ℕ) (l : Literal) → All (λ a. a.1 ≢ l) (take bound assumptions) → (q : ℕ) (b : Part × Literal) → q < bound → slice_get assumptions q ≡ Some b → b.1 ≢ l
new-before assumptions bound l all q b low is =
    let within : q < length assumptions = slice_get_within assumptions q b is in
    let long = length-take bound assumptions in
    let at : get_or assumptions q b ≡ b = same_Some _ _ (sym (slice_get-get_or assumptions q b within) ∙ is) in
    subst (λ (x : Part × Literal). x.1 ≢ l) (get_or-take bound assumptions q b low ∙ at) (all q b (omega arith))

pub known-before : (assumptions : Assumptions) (bound : ℕ) (b : Part × Literal) → Contains (take bound assumptions) b → (q : ℕ) × (q < bound) × (slice_get assumptions q ≡ Some b)
known-before assumptions bound b (q, within, is) =
    let long = length-take bound assumptions in
    let low : q < bound = omega (arith, within) in
    (q, low, slice_get-get_or assumptions q b (omega (arith, within)) ∙ ap (λ (x : Part × Literal). Some x) (sym (get_or-take bound assumptions q b low) ∙ is))

-- so they are first places
pub negated-first : (assumptions : Assumptions) (c : Clause) (bound : ℕ) (places : List ℕ) → AreNegated assumptions c bound places → AreFirstPlaces assumptions places
negated-first assumptions c bound places n = record {
  rising = λ k low. n.rising k (k + 1) 0 (omega arith) low;
  first = λ k d within. (let e = n.each (get_or places k d) (Contains-get_or places k d within) in (e.1.0, e.1.1, e.1.3));
}
