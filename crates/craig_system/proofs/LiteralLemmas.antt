-- Disjunctions of edges and literals.
use Rattle.std.proofs.Common.{◌≡◌, ℕ, ◌<◌, ◌||◌, List, length, Contains, inl, inr, sym, ap, ◌∙◌, subst}
use Rattle.craig_spec.specs.Literal.{Literal}
use Rattle.craig_spec.specs.Truth.{Assignment}
use Rattle.craig_spec.proofs.MemberLemmas.{Contains-one}
use Rattle.craig_aig.specs.Cones.{ConeWithin}
use Rattle.craig_aig.specs.Growth.{ArenaGrows}
use Rattle.craig_aig.specs.Edges.{Edge}
use Rattle.craig_aig.specs.Values.{edge_value}
use Rattle.craig_aig.specs.declared.node.Node.{Node}
use Rattle.craig_system.specs.Building.{IsLiteral, IsMore}
use Rattle.craig_aig.proofs.GrowthLemmas.{value-ArenaGrows, cone-ArenaGrows}

-- the edge of a literal and an older one, joined by `or`
pub IsMore-or : (l : Literal) (old a new : List Node) (before literal e : Edge) → ArenaGrows old a → before.place < length old → IsLiteral l a literal →
    ((s : Assignment) → edge_value s new e ≡ (edge_value s a before || edge_value s a literal)) → ConeWithin a before literal new e → IsMore l old before new e
IsMore-or l old a new before literal e grows within is value inputs = record {
  value = λ s. value s ∙ ap (λ v. v || edge_value s a literal) (value-ArenaGrows s old a before grows within) ∙ ap (λ v. edge_value s old before || v) (is.value s);
  inputs = λ x reached.
      elim (inputs x reached) [
        | inl p ↦ inl (subst (λ (k : List ℕ). Contains k x) (cone-ArenaGrows old a before grows within) p)
        | inr q ↦ inr (sym (Contains-one l.var x (subst (λ (k : List ℕ). Contains k x) is.inputs q)))
      ];
}
