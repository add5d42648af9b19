-- Arenas stay arenas when they grow and when they go back.
use Rattle.std.proofs.Common.{◌≡◌, ◌≢◌, ℕ, zero, suc, ◌+◌, ◌-◌, ◌<◌, ◌≤◌, List, [], ◌∷◌, ◌++◌, length, get_or, take, Contains, None, Some, inl, inr, slice_get, refl, sym, ap, ◌∙◌, subst, arith, length-append}
use Rattle.std.proofs.lemmas.List.{get_or_append_left, get_or_at, get_or-take, get_or_default, length-take-le}
use Rattle.std.proofs.lemmas.Bool.{cases_lt}
use Rattle.std.proofs.lemmas.List.Quantifiers.{all_pairs_push}
use Rattle.craig_aig.specs.Arenas.{IsPlaced, IsAig}
use Rattle.craig_aig.specs.declared.node.Node.{Node}
use Rattle.craig_aig.specs.declared.node.Node.TheVariants.{Constant}

-- the first node stays the first
first-append : (nodes added : List Node) → slice_get nodes 0 ≡ Some Constant → slice_get (nodes ++ added) 0 ≡ Some Constant
first-append [] added h = absurd (let e : None ≡ Some Constant = h in cc)
first-append (n ∷ nodes) added h = h

first-take : (n : ℕ) (nodes : List Node) → 1 ≤ n → slice_get nodes 0 ≡ Some Constant → slice_get (take n nodes) 0 ≡ Some Constant
first-take zero nodes le h = absurd (omega arith)
first-take (suc n) [] le h = h
first-take (suc n) (x ∷ nodes) le h = h

placed-push : (nodes : List Node) (n : Node) → ((k : ℕ) → k < length nodes → IsPlaced k (get_or nodes k Constant)) → IsPlaced (length nodes) n →
    (k : ℕ) → k < length (nodes ++ n ∷ []) → IsPlaced k (get_or (nodes ++ n ∷ []) k Constant)
placed-push nodes n h here k within =
    let l : length (nodes ++ n ∷ []) ≡ length nodes + length (n ∷ []) = length-append nodes (n ∷ []) in
    elim (cases_lt k (length nodes)) [
      | inl lt ↦ subst (IsPlaced k) (sym (get_or_append_left nodes (n ∷ []) Constant k lt)) (h k lt)
      | inr ge ↦
          let is : k ≡ length nodes = omega arith in
          subst (λ j. IsPlaced j (get_or (nodes ++ n ∷ []) j Constant)) (sym is) (subst (IsPlaced (length nodes)) (sym (get_or_at nodes n [] Constant (length nodes) refl)) here)
    ]

-- a node that isn't there yet may be added
pub IsAig-push : (nodes : List Node) (n : Node) → IsAig nodes → IsPlaced (length nodes) n → (Contains nodes n → ⊥) → IsAig (nodes ++ n ∷ [])
IsAig-push nodes n h here new = record {
  first = first-append nodes (n ∷ []) h.first;
  placed = placed-push nodes n h.placed here;
  distinct = all_pairs_push (λ a b. a ≢ b) nodes n h.distinct (λ k d within e. new (k, within, get_or_default nodes k n d within ∙ e));
}

-- what is left of an arena is one
pub IsAig-take : (nodes : List Node) (n : ℕ) → IsAig nodes → 1 ≤ n → n ≤ length nodes → IsAig (take n nodes)
IsAig-take nodes n h positive within =
    let l : length (take n nodes) ≡ n = length-take-le n nodes within in
    record {
      first = first-take n nodes positive h.first;
      placed = λ k below. let lt : k < n = omega arith in subst (IsPlaced k) (sym (get_or-take n nodes k Constant lt)) (h.placed k (omega arith));
      distinct = λ i j d before below e.
          let lt : j < n = omega arith in
          h.distinct i j d before (omega arith) (sym (get_or-take n nodes i d (omega arith)) ∙ e ∙ get_or-take n nodes j d lt);
    }

-- the nodes after the constant are cut one place earlier
take-behind : (items : List Node) (n : ℕ) → 1 ≤ n → Constant ∷ take (n - 1) items ≡ take n (Constant ∷ items)
take-behind items zero h = absurd (omega arith)
take-behind items (suc n) h = let e : suc n - 1 ≡ n = omega arith in ap (λ k. Constant ∷ take k items) e

pub cut-is : (old : List Node) (items fewer : List Node) (n : ℕ) → fewer ≡ take (n - 1) items → Constant ∷ items ≡ old → 1 ≤ n → Constant ∷ fewer ≡ take n old
cut-is old items fewer n e view positive = ap (λ l. Constant ∷ l) e ∙ take-behind items n positive ∙ ap (take n) view

pub IsAig-cut : (old : List Node) (items fewer : List Node) (n : ℕ) → fewer ≡ take (n - 1) items → Constant ∷ items ≡ old → IsAig (Constant ∷ items) → 1 ≤ n → n ≤ length old → IsAig (Constant ∷ fewer)
IsAig-cut old items fewer n e view h positive within =
    subst IsAig (sym (cut-is old items fewer n e view positive)) (IsAig-take old n (subst IsAig view h) positive within)
