-- The value of an edge depends on the variables of its cone alone.
use Rattle.std.proofs.Common.{◌≡◌, ℕ, zero, suc, ◌<◌, not, cond, ◌&&◌, List, [], ◌∷◌, ◌++◌, length, get_or, Contains, Some, slice_get, refl, sym, ap, ◌∙◌, subst, arith}
use Rattle.std.proofs.lemmas.List.Elements.{Contains-append_left, Contains-append_right}
use Rattle.std.proofs.lemmas.Option.{slice_get-get_or}
use Rattle.craig_spec.specs.Truth.{Assignment, variable_value}
use Rattle.craig_aig.specs.Arenas.{AreOperands, IsAig}
use Rattle.craig_aig.specs.Cones.{cone}
use Rattle.craig_aig.specs.Edges.{Edge, plain_edge}
use Rattle.craig_aig.specs.Values.{edge_value}
use Rattle.craig_aig.specs.declared.node.Node.{Node}
use Rattle.craig_aig.specs.declared.node.Node.TheVariants.{Constant, Input, Gate}
use Rattle.craig_aig.proofs.FunctionLemmas.{cone-node, edge_value-node, placed_at}

module _ (nodes : List Node) (arena : IsAig nodes) (s t : Assignment) where
  -- the two assignments agree on what the edge reaches
  abbrev Agree : Edge → Type 0
  Agree e = (x : ℕ) → Contains (cone nodes e) x → variable_value s x ≡ variable_value t x

  abbrev Same : Edge → Type 0
  Same e = edge_value s nodes e ≡ edge_value t nodes e

  -- an edge by its node
  signed : (e : Edge) → Same (plain_edge e.place) → Same e
  signed e h = ap (λ b. cond e.negated (not b) b) h

  by_node : (k : ℕ) (n : Node) → slice_get nodes k ≡ Some n → Agree (plain_edge k) → ((e : Edge) → e.place < k → Agree e → Same e) → Same (plain_edge k)
  by_node k Constant is agree below = edge_value-node s nodes k Constant arena is ∙ sym (edge_value-node t nodes k Constant arena is)
  by_node k (Input x) is agree below =
      let c : cone nodes (plain_edge k) ≡ x.0 ∷ [] = cone-node nodes k (Input x) arena is in
      edge_value-node s nodes k (Input x) arena is ∙ agree x.0 (subst (λ l. Contains l x.0) (sym c) (0, omega arith, refl)) ∙ sym (edge_value-node t nodes k (Input x) arena is)
  by_node k (Gate left right) is agree below =
      let c : cone nodes (plain_edge k) ≡ cone nodes left ++ cone nodes right = cone-node nodes k (Gate left right) arena is in
      let placed : AreOperands k left right = placed_at nodes k (Gate left right) arena is in
      let l : Same left = below left placed.below (λ x m. agree x (subst (λ l. Contains l x) (sym c) (Contains-append_left (cone nodes left) (cone nodes right) x m))) in
      let r : Same right = below right (omega (arith, placed.below, placed.ordered)) (λ x m. agree x (subst (λ l. Contains l x) (sym c) (Contains-append_right (cone nodes left) (cone nodes right) x m))) in
      edge_value-node s nodes k (Gate left right) arena is ∙ ap (λ b. b && edge_value s nodes right) l ∙ ap (λ b. edge_value t nodes left && b) r ∙ sym (edge_value-node t nodes k (Gate left right) arena is)

  up_to : (bound : ℕ) (e : Edge) → e.place < bound → e.place < length nodes → Agree e → Same e
  up_to zero e below within agree = absurd (omega arith)
  up_to (suc bound) e below within agree =
      signed e (by_node e.place (get_or nodes e.place Constant) (slice_get-get_or nodes e.place Constant within) agree (λ f less agrees. up_to bound f (omega arith) (omega arith) agrees))

pub by_cone : (nodes : List Node) (e : Edge) (s t : Assignment) → IsAig nodes → e.place < length nodes → ((x : ℕ) → Contains (cone nodes e) x → variable_value s x ≡ variable_value t x) → edge_value s nodes e ≡ edge_value t nodes e
by_cone nodes e s t arena within agree = up_to nodes arena s t (suc e.place) e (omega arith) within agree
