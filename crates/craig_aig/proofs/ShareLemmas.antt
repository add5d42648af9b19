-- A node that is asked for: where it stands, or added behind.
use Rattle.std.proofs.Common.{◌≡◌, ◌⊎◌, inl, inr, ℕ, zero, suc, ◌+◌, Bool, true, false, cond, List, [], ◌∷◌, ◌++◌, length, Contains, Some, slice_get, refl, sym, ap, ◌∙◌, subst, arith, add-one, true≢false}
use Rattle.std.specs.Cmp.{IsEquivalence}
use Rattle.std.specs.List.{list_any}
use Rattle.std.proofs.lemmas.List.{append-nil}
use Rattle.std.proofs.lemmas.Map.Views.{list_any-from_Contains, Contains-from_any}
use Rattle.indexmap.specs.IndexSet.{insert_key}
use Rattle.craig_aig.specs.Arenas.{IsPlaced, IsAig}
use Rattle.craig_aig.specs.Edges.{Edge}
use Rattle.craig_aig.specs.Growth.{Extends, IsShared}
use Rattle.craig_aig.specs.declared.node.Node.{Node}
use Rattle.craig_aig.specs.declared.node.Node.TheVariants.{Constant}
use Rattle.craig_aig.proofs.ArenaLemmas.{IsAig-push}

-- a node that may stand behind the constant isn't the constant
not_constant : (k : ℕ) (node : Node) → IsPlaced (suc k) node → Constant ≡ node → ⊥
not_constant k node h e = let p : suc k ≡ 0 = subst (IsPlaced (suc k)) (sym e) h in omega arith

absent : (items : List Node) (node : Node) → (Contains items node → ⊥) → IsPlaced (length (Constant ∷ items)) node → Contains (Constant ∷ items) node → ⊥
absent items node none here (zero, within, at) = not_constant (length items) node here at
absent items node none here (suc k, within, at) = none (k, omega arith, at)

behind : (items : List Node) (node : Node) → Contains items node → Contains (Constant ∷ items) node
behind items node (k, within, at) = (suc k, omega arith, at)

-- the nodes after the constant stay where the node is one of them, and else it goes last
abbrev pub IsInserted : List Node → Node → List Node → Type 0
IsInserted items node more = (Contains items node × (more ≡ items)) ⊎ ((Contains items node → ⊥) × (more ≡ items ++ node ∷ []))

inserted-cases : (eq : Node → Node → Bool) → IsEquivalence eq → ((m n : Node) → eq m n ≡ true → m ≡ n) → (items : List Node) (node : Node) (found : Bool) → list_any (eq node) items ≡ found →
    IsInserted items node (cond found items (items ++ node ∷ []))
inserted-cases eq laws same items node true is = inl (Contains-from_any same node items is, refl)
inserted-cases eq laws same items node false is = inr (λ here. true≢false (sym (list_any-from_Contains laws node items here) ∙ is), refl)

-- so it is in a set of nodes, where equal nodes are the same
pub IsInserted-insert_key : (eq : Node → Node → Bool) → IsEquivalence eq → ((m n : Node) → eq m n ≡ true → m ≡ n) → (items : List Node) (node : Node) (more : List Node) → more ≡ insert_key eq items node →
    IsInserted items node more
IsInserted-insert_key eq laws same items node more is = subst (IsInserted items node) (sym is) (inserted-cases eq laws same items node (list_any (eq node) items) refl)

-- the node at the index is the one that was asked for
pub IsShared-inserted : (old items more : List Node) (node : Node) (i : ℕ) (e : Edge) → Constant ∷ items ≡ old → IsPlaced (length old) node → IsInserted items node more →
    slice_get more i ≡ Some node → e ≡ record { place = i + 1; negated = false } → IsShared old node (Constant ∷ more) e
IsShared-inserted old items more node i e view here by at is =
    let there : slice_get (Constant ∷ more) (i + 1) ≡ Some node = rw add-one at in
    let placed : IsPlaced (length (Constant ∷ items)) node = subst (λ l. IsPlaced (length l) node) (sym view) here in
    record {
      known = λ h.
          let h : Contains (Constant ∷ items) node = subst (λ l. Contains l node) (sym view) h in
          elim by [
            | inl (_, same) ↦ ap (λ l. Constant ∷ l) same ∙ view
            | inr (none, _) ↦ absurd (absent items node none placed h)
          ];
      added = λ no.
          elim by [
            | inl (found, _) ↦ absurd (no (subst (λ l. Contains l node) view (behind items node found)))
            | inr (_, more_is) ↦ ap (λ l. Constant ∷ l) more_is ∙ ap (λ l. l ++ node ∷ []) view
          ];
      place = rw is there;
      plain = ap (λ (f : Edge). f.negated) is;
    }

pub Extends-inserted : (old items more : List Node) (node : Node) → Constant ∷ items ≡ old → IsInserted items node more → Extends old (Constant ∷ more)
Extends-inserted old items more node view (inl (_, same)) = ([], ap (λ l. Constant ∷ l) same ∙ view ∙ sym (append-nil old))
Extends-inserted old items more node view (inr (_, more_is)) = (node ∷ [], ap (λ l. Constant ∷ l) more_is ∙ ap (λ l. l ++ node ∷ []) view)

pub IsAig-inserted : (old items more : List Node) (node : Node) → Constant ∷ items ≡ old → IsAig (Constant ∷ items) → IsPlaced (length old) node → IsInserted items node more → IsAig (Constant ∷ more)
IsAig-inserted old items more node view h here (inl (_, same)) = subst (λ l. IsAig (Constant ∷ l)) (sym same) h
IsAig-inserted old items more node view h here (inr (none, more_is)) =
    let placed : IsPlaced (length (Constant ∷ items)) node = subst (λ l. IsPlaced (length l) node) (sym view) here in
    subst (λ l. IsAig (Constant ∷ l)) (sym more_is) (IsAig-push (Constant ∷ items) node h placed (absent items node none placed))
