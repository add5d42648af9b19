-- Values and cones of edges: those of nodes by their operands, and what an arena that grows keeps.
use Rattle.std.proofs.Common.{◌≡◌, ℕ, ◌<◌, ◌≤◌, Bool, false, not, cond, ◌&&◌, List, [], ◌++◌, length, get_or, take, Some, slice_get, refl, sym, ap, ◌∙◌, arith, true}
use Rattle.std.proofs.lemmas.List.{length-take-le}
use Rattle.std.proofs.lemmas.Option.{slice_get_within, get_or_from_slice_get}
use Rattle.std.proofs.Common.{subst}
use Rattle.craig_spec.specs.Truth.{Assignment}
use Rattle.craig_aig.specs.Arenas.{IsPlaced, IsAig}
use Rattle.craig_aig.specs.Cones.{node_cone, cones, cone}
use Rattle.craig_aig.specs.Edges.{Edge, edge_negation, plain_edge}
use Rattle.craig_aig.specs.Growth.{Extends, KeepsEdge, KeepsEdges}
use Rattle.craig_aig.specs.Values.{edge_value_in, node_value, values, edge_value}
use Rattle.craig_aig.specs.declared.node.Node.{Node}
use Rattle.craig_aig.specs.declared.node.Node.TheVariants.{Constant, Input, Gate}
use Rattle.craig_aig.proofs.FromFrontLemmas.{get_or-from_front_append, get_or-from_front_take, get_or-from_front}

-- an edge has the value of its node, or the other one
edge_value_in-equal : (v w : List Bool) (e : Edge) → get_or v e.place false ≡ get_or w e.place false → edge_value_in v e ≡ edge_value_in w e
edge_value_in-equal v w e h = ap (λ b. cond e.negated (not b) b) h

-- an edge keeps its value and its cone when the arena grows
pub KeepsEdge-append : (nodes added : List Node) (e : Edge) → e.place < length nodes → KeepsEdge nodes (nodes ++ added) e
KeepsEdge-append nodes added e h = record {
  value = λ s. edge_value_in-equal (values s (nodes ++ added)) (values s nodes) e (get_or-from_front_append (node_value s) nodes added e.place false h);
  cone_is = get_or-from_front_append node_cone nodes added e.place [] h;
}

-- and so does one that is left when it goes back
pub KeepsEdge-take : (nodes : List Node) (n : ℕ) (e : Edge) → n ≤ length nodes → e.place < n → KeepsEdge nodes (take n nodes) e
KeepsEdge-take nodes n e within h = record {
  value = λ s. edge_value_in-equal (values s (take n nodes)) (values s nodes) e (get_or-from_front_take (node_value s) nodes n e.place false h within);
  cone_is = get_or-from_front_take node_cone nodes n e.place [] h within;
}

pub KeepsEdges-Extends : (old new : List Node) → Extends old new → KeepsEdges old new
KeepsEdges-Extends old new (added, e) = λ edge h _. subst (λ l. KeepsEdge old l edge) (sym e) (KeepsEdge-append old added edge h)

-- a node that may stand at a place has its value and its cone from the nodes below the place alone
node_value-placed : (s : Assignment) (nodes : List Node) (i : ℕ) (n : Node) → i ≤ length nodes → IsPlaced i n → node_value s (values s (take i nodes)) n ≡ node_value s (values s nodes) n
node_value-placed s nodes i Constant within h = refl
node_value-placed s nodes i (Input x) within h = refl
node_value-placed s nodes i (Gate left right) within h =
    let l : edge_value s (take i nodes) left ≡ edge_value s nodes left = (KeepsEdge-take nodes i left within (omega arith)).value s in
    let r : edge_value s (take i nodes) right ≡ edge_value s nodes right = (KeepsEdge-take nodes i right within (omega arith)).value s in
    ap (λ b. b && edge_value s (take i nodes) right) l ∙ ap (λ b. edge_value s nodes left && b) r

node_cone-placed : (nodes : List Node) (i : ℕ) (n : Node) → i ≤ length nodes → IsPlaced i n → node_cone (cones (take i nodes)) n ≡ node_cone (cones nodes) n
node_cone-placed nodes i Constant within h = refl
node_cone-placed nodes i (Input x) within h = refl
node_cone-placed nodes i (Gate left right) within h =
    let l : cone (take i nodes) left ≡ cone nodes left = (KeepsEdge-take nodes i left within (omega arith)).cone_is in
    let r : cone (take i nodes) right ≡ cone nodes right = (KeepsEdge-take nodes i right within (omega arith)).cone_is in
    ap (λ c. c ++ cone (take i nodes) right) l ∙ ap (λ c. cone nodes left ++ c) r

pub placed_at : (nodes : List Node) (i : ℕ) (n : Node) → IsAig nodes → slice_get nodes i ≡ Some n → IsPlaced i n
placed_at nodes i n h at = subst (IsPlaced i) (get_or_from_slice_get nodes i n Constant at) (h.placed i (slice_get_within nodes i n at))

-- the value of a node, from its operands
pub edge_value-node : (s : Assignment) (nodes : List Node) (i : ℕ) (n : Node) → IsAig nodes → slice_get nodes i ≡ Some n → edge_value s nodes (plain_edge i) ≡ node_value s (values s nodes) n
edge_value-node s nodes i n h at =
    let within : i < length nodes = slice_get_within nodes i n at in
    let front : get_or (values s nodes) i false ≡ node_value s (values s (take i nodes)) (get_or nodes i n) = get_or-from_front (node_value s) nodes i false n within in
    front ∙ ap (node_value s (values s (take i nodes))) (get_or_from_slice_get nodes i n n at) ∙ node_value-placed s nodes i n (omega arith) (placed_at nodes i n h at)

-- the cone of a node, from its operands
pub cone-node : (nodes : List Node) (i : ℕ) (n : Node) → IsAig nodes → slice_get nodes i ≡ Some n → cone nodes (plain_edge i) ≡ node_cone (cones nodes) n
cone-node nodes i n h at =
    let within : i < length nodes = slice_get_within nodes i n at in
    let front : get_or (cones nodes) i [] ≡ node_cone (cones (take i nodes)) (get_or nodes i n) = get_or-from_front node_cone nodes i [] n within in
    front ∙ ap (node_cone (cones (take i nodes))) (get_or_from_slice_get nodes i n n at) ∙ node_cone-placed nodes i n (omega arith) (placed_at nodes i n h at)

-- the opposite sign gives the other value
cond-negated : (n b : Bool) → cond (not n) (not b) b ≡ not (cond n (not b) b)
cond-negated true true = refl
cond-negated true false = refl
cond-negated false b = refl

-- the negation of an edge has the other value
pub edge_value-negation : (s : Assignment) (nodes : List Node) (e : Edge) → edge_value s nodes (edge_negation e) ≡ not (edge_value s nodes e)
edge_value-negation s nodes e = cond-negated e.negated (get_or (values s nodes) e.place false)

pub KeepsEdges-take : (old new : List Node) (n : ℕ) → new ≡ take n old → n ≤ length old → KeepsEdges old new
KeepsEdges-take old new n e within = λ edge _ below.
    let l : length new ≡ n = ap length e ∙ length-take-le n old within in
    subst (λ k. KeepsEdge old k edge) (sym e) (KeepsEdge-take old n edge within (omega arith))
