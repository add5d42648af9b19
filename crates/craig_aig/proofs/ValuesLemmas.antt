-- The values of the nodes, one after another.
use Rattle.std.proofs.Common.{◌≡◌, ℕ, suc, ◌+◌, ◌<◌, ◌≤◌, false, List, [], ◌∷◌, ◌++◌, length, get_or, take, refl, sym, ap, ◌∙◌, subst, arith}
use Rattle.std.proofs.lemmas.List.{get_or_default, take_more, length-take-le}
use Rattle.craig_spec.specs.Truth.{Assignment}
use Rattle.craig_aig.specs.Arenas.{IsPlaced, IsAig}
use Rattle.craig_aig.specs.FromFront.{from_front}
use Rattle.craig_aig.specs.Edges.{Edge}
use Rattle.craig_aig.specs.Values.{node_value, values, edge_value}
use Rattle.craig_aig.specs.declared.node.Node.{Node}
use Rattle.craig_aig.specs.declared.node.Node.TheVariants.{Constant}
use Rattle.craig_aig.proofs.ArenaLemmas.{IsAig-take}
use Rattle.craig_aig.proofs.FromFrontLemmas.{length-from_front, from_front-push}
use Rattle.craig_aig.proofs.FunctionLemmas.{KeepsEdge-take}

-- the constant alone
pub values-constant : (s : Assignment) → values s (Constant ∷ []) ≡ false ∷ []
unfolding from_front
values-constant s = refl

-- the constant and the first nodes after it
pub values-more : (s : Assignment) (nodes : List Node) (i : ℕ) (n : Node) → i < length nodes → n ≡ get_or nodes i n →
    values s (Constant ∷ take (i + 1) nodes) ≡ values s (Constant ∷ take i nodes) ++ node_value s (values s (Constant ∷ take i nodes)) n ∷ []
values-more s nodes i n h is =
    ap (λ (l : List Node). values s (Constant ∷ l)) (take_more nodes i n h ∙ ap (λ m. take i nodes ++ m ∷ []) (sym is))
    ∙ from_front-push (node_value s) (Constant ∷ take i nodes) n

pub length-values : (s : Assignment) (nodes : List Node) (i : ℕ) → i ≤ length nodes → length (values s (Constant ∷ take i nodes)) ≡ i + 1
length-values s nodes i h = omega (arith, length-from_front (node_value s) (Constant ∷ take i nodes), length-take-le i nodes h)

-- a node after the constant stands one place further
pub IsPlaced-behind : (nodes : List Node) (i : ℕ) (n : Node) → IsAig (Constant ∷ nodes) → i < length nodes → n ≡ get_or nodes i n → IsPlaced (i + 1) n
IsPlaced-behind nodes i n h within is =
    let at : get_or nodes i Constant ≡ n = get_or_default nodes i Constant n within ∙ sym is in
    let p : IsPlaced (suc i) (get_or nodes i Constant) = h.placed (suc i) (omega arith) in
    let e : suc i ≡ i + 1 = omega arith in
    subst (λ k. IsPlaced k n) e (subst (IsPlaced (suc i)) at p)

-- the nodes up to an edge's place are an arena, and give the edge its value
pub IsAig-front : (old items : List Node) (place : ℕ) → Constant ∷ items ≡ old → IsAig (Constant ∷ items) → place < length old → IsAig (Constant ∷ take place items)
IsAig-front old items place view h within =
    let inside : suc place ≤ length (Constant ∷ items) = omega (arith, ap length view) in
    IsAig-take (Constant ∷ items) (suc place) h (omega arith) inside

pub edge_value-front : (s : Assignment) (old items : List Node) (e : Edge) → Constant ∷ items ≡ old → e.place < length old → edge_value s (Constant ∷ take e.place items) e ≡ edge_value s old e
edge_value-front s old items e view within =
    let inside : suc e.place ≤ length (Constant ∷ items) = omega (arith, ap length view) in
    (KeepsEdge-take (Constant ∷ items) (suc e.place) e inside (omega arith)).value s ∙ ap (λ l. edge_value s l e) view
