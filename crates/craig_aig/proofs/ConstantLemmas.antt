-- Each node but the constant reaches an input.
use Rattle.std.proofs.Common.{◌≡◌, ℕ, zero, suc, ◌<◌, Bool, true, false, not, cond, List, [], ◌∷◌, ◌++◌, length, get_or, Contains, Some, slice_get, refl, sym, ap, ◌∙◌, subst, arith}
use Rattle.std.proofs.lemmas.List.Elements.{Contains-append_right}
use Rattle.std.proofs.lemmas.Option.{slice_get-get_or}
use Rattle.craig_spec.specs.Truth.{Assignment}
use Rattle.craig_aig.specs.Arenas.{AreOperands, IsAig}
use Rattle.craig_aig.specs.Cones.{cone}
use Rattle.craig_aig.specs.Conjunctions.{constant_edge}
use Rattle.craig_aig.specs.Edges.{Edge, plain_edge}
use Rattle.craig_aig.specs.Values.{edge_value}
use Rattle.craig_aig.specs.declared.node.Node.{Node}
use Rattle.craig_aig.specs.declared.node.Node.TheVariants.{Constant, Input, Gate}
use Rattle.craig_aig.proofs.FunctionLemmas.{cone-node, edge_value-node, placed_at}

module _ (nodes : List Node) (arena : IsAig nodes) where
  -- the edge reaches a variable
  abbrev Reaches : Edge → Type 0
  Reaches e = (x : ℕ) × Contains (cone nodes e) x

  by_node : (k : ℕ) (n : Node) → slice_get nodes k ≡ Some n → 0 < k → ((e : Edge) → e.place < k → 0 < e.place → Reaches e) → Reaches (plain_edge k)
  by_node k Constant is above below = absurd (let zero_is : k ≡ 0 = placed_at nodes k Constant arena is in omega arith)
  by_node k (Input x) is above below =
      let c : cone nodes (plain_edge k) ≡ x.0 ∷ [] = cone-node nodes k (Input x) arena is in
      (x.0, subst (λ l. Contains l x.0) (sym c) (0, omega arith, refl))
  by_node k (Gate left right) is above below =
      let c : cone nodes (plain_edge k) ≡ cone nodes left ++ cone nodes right = cone-node nodes k (Gate left right) arena is in
      let placed : AreOperands k left right = placed_at nodes k (Gate left right) arena is in
      let r : Reaches right = below right (omega (arith, placed.below, placed.ordered)) placed.not_constant in
      (r.0, subst (λ l. Contains l r.0) (sym c) (Contains-append_right (cone nodes left) (cone nodes right) r.0 r.1))

  up_to : (bound : ℕ) (e : Edge) → e.place < bound → e.place < length nodes → 0 < e.place → Reaches e
  up_to zero e below within above = absurd (omega arith)
  up_to (suc bound) e below within above =
      by_node e.place (get_or nodes e.place Constant) (slice_get-get_or nodes e.place Constant within) above (λ f less positive. up_to bound f (omega arith) (omega arith) positive)

-- so an edge that reaches none is of the constant
pub constant_place : (nodes : List Node) (e : Edge) → IsAig nodes → e.place < length nodes → ((x : ℕ) → Contains (cone nodes e) x → ⊥) → e.place ≡ 0
constant_place nodes e arena within none =
    let not_above : 0 < e.place → ⊥ = λ above. let r = up_to nodes arena (suc e.place) e (omega arith) within above in none r.0 r.1 in
    omega (arith, not_above)

value_is_sign : (n b : Bool) → cond n (not false) false ≡ b → n ≡ b
value_is_sign true b e = e
value_is_sign false b e = e

-- and is the constant that has its value
pub constant_by_value : (nodes : List Node) (e : Edge) (s : Assignment) (value : Bool) → IsAig nodes → e.place < length nodes → ((x : ℕ) → Contains (cone nodes e) x → ⊥) → edge_value s nodes e ≡ value → e ≡ constant_edge value
constant_by_value nodes e s value arena within none is =
    let place : e.place ≡ 0 = constant_place nodes e arena within none in
    let node : edge_value s nodes (plain_edge 0) ≡ false = edge_value-node s nodes 0 Constant arena arena.first in
    let at : edge_value s nodes (plain_edge e.place) ≡ false = ap (λ (k : ℕ). edge_value s nodes (plain_edge k)) place ∙ node in
    let sign : e.negated ≡ value = value_is_sign e.negated value (sym (ap (λ (b : Bool). cond e.negated (not b) b) at) ∙ is) in
    ap (λ (k : ℕ). record { place = k; negated = e.negated }) place ∙ ap (λ (b : Bool). constant_edge b) sign
