-- Disjunctions and choices that are built from conjunctions.
use Rattle.std.proofs.Common.{◌≡◌, ◌⊎◌, inl, inr, ℕ, ◌<◌, Bool, true, false, not, cond, ◌&&◌, ◌||◌, List, length, Contains, refl, ap, ◌∙◌, subst}
use Rattle.craig_spec.specs.Truth.{Assignment}
use Rattle.craig_aig.specs.Cones.{cone, ConeWithin}
use Rattle.craig_aig.specs.Edges.{Edge}
use Rattle.craig_aig.specs.Growth.{Extends}
use Rattle.craig_aig.specs.Values.{edge_value}
use Rattle.craig_aig.specs.declared.node.Node.{Node}
use Rattle.craig_aig.proofs.ConjunctionLemmas.{kept_value, kept_cone}

-- the negations of edges reach what the edges reach
pub ConeWithin-equal : (old : List Node) (left right nleft nright : Edge) (new : List Node) (e ne : Edge) → cone old nleft ≡ cone old left → cone old nright ≡ cone old right → cone new ne ≡ cone new e →
    ConeWithin old nleft nright new e → ConeWithin old left right new ne
ConeWithin-equal old left right nleft nright new e ne l r n h = λ x reached.
    elim (h x (subst (λ (k : List ℕ). Contains k x) n reached)) [
      | inl a ↦ inl (subst (λ (k : List ℕ). Contains k x) l a)
      | inr b ↦ inr (subst (λ (k : List ℕ). Contains k x) r b)
    ]

chosen_value : (a b c : Bool) → ((a && b) || (not a && c)) ≡ cond a b c
chosen_value true true c = refl
chosen_value true false c = refl
chosen_value false b c = refl

-- the value of a choice
pub edge_value-mux : (s : Assignment) (old a b new : List Node) (select when_true when_false opposite chosen other e : Edge) → Extends old a → Extends a b →
    select.place < length old → when_false.place < length old → chosen.place < length a →
    edge_value s a chosen ≡ (edge_value s old select && edge_value s old when_true) → edge_value s a opposite ≡ not (edge_value s a select) →
    edge_value s b other ≡ (edge_value s a opposite && edge_value s a when_false) → edge_value s new e ≡ (edge_value s b chosen || edge_value s b other) →
    edge_value s new e ≡ cond (edge_value s old select) (edge_value s old when_true) (edge_value s old when_false)
edge_value-mux s old a b new select when_true when_false opposite chosen other e one two sel_in false_in chosen_in chosen_is opposite_is other_is e_is =
    let first : edge_value s b chosen ≡ (edge_value s old select && edge_value s old when_true) = kept_value s a b chosen two chosen_in ∙ chosen_is in
    let sign : edge_value s a opposite ≡ not (edge_value s old select) = opposite_is ∙ ap not (kept_value s old a select one sel_in) in
    let second : edge_value s b other ≡ (not (edge_value s old select) && edge_value s old when_false) =
    other_is ∙ ap (λ v. v && edge_value s a when_false) sign ∙ ap (λ v. not (edge_value s old select) && v) (kept_value s old a when_false one false_in) in
    e_is ∙ ap (λ v. v || edge_value s b other) first ∙ ap (λ v. (edge_value s old select && edge_value s old when_true) || v) second
    ∙ chosen_value (edge_value s old select) (edge_value s old when_true) (edge_value s old when_false)

-- what a choice reaches
pub cone-mux : (old a b new : List Node) (select when_true when_false opposite chosen other e : Edge) → Extends old a → Extends a b →
    select.place < length old → when_false.place < length old → chosen.place < length a →
    ConeWithin old select when_true a chosen → cone a opposite ≡ cone a select → ConeWithin a opposite when_false b other → ConeWithin b chosen other new e →
    (x : ℕ) → Contains (cone new e) x → Contains (cone old select) x ⊎ Contains (cone old when_true) x ⊎ Contains (cone old when_false) x
cone-mux old a b new select when_true when_false opposite chosen other e one two sel_in false_in chosen_in chosen_within opposite_is other_within e_within x h =
    elim (e_within x h) [
      | inl c ↦ elim (chosen_within x (subst (λ (k : List ℕ). Contains k x) (kept_cone a b chosen two chosen_in) c)) [ inl p ↦ inl p | inr q ↦ inr (inl q) ]
      | inr d ↦
          elim (other_within x d) [
            | inl p ↦ inl (subst (λ (k : List ℕ). Contains k x) (opposite_is ∙ kept_cone old a select one sel_in) p)
            | inr q ↦ inr (inr (subst (λ (k : List ℕ). Contains k x) (kept_cone old a when_false one false_in) q))
          ]
    ]
