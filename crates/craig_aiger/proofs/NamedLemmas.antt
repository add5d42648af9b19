-- The needed inputs are in the cones of the edges.
use Rattle.std.proofs.Common.{◌≡◌, ℕ, zero, suc, ◌<◌, Bool, true, nat_lt, List, [], ◌∷◌, ◌++◌, length, get_or, All, Contains, Option, Some, None, slice_get, refl, arith}
use Rattle.std.proofs.lemmas.Option.{none-some, same_Some}
use Rattle.std.proofs.lemmas.Bool.{and_from, and_parts}
use Rattle.std.specs.Option.{is_some}
use Rattle.std.specs.List.{list_all}
use Rattle.std.proofs.lemmas.Bool.Decides.{nat_tests}
use Rattle.std.proofs.lemmas.Option.{slice_get_within}
use Rattle.craig_aig.specs.Edges.{Edge, plain_edge}
use Rattle.craig_aig.specs.Arenas.{IsAig}
use Rattle.craig_aig.specs.Cones.{cone}
use Rattle.craig_aig.specs.Operands.{ConesFromOperands}
use Rattle.craig_aig.specs.declared.node.Node.{Node}
use Rattle.craig_aig.specs.declared.node.Node.TheVariants.{Constant, Input, Gate}
use Rattle.craig_base.specs.declared.variable.Var.{Var}
use Rattle.craig_aiger.proofs.NeededLemmas.{is_some_at}
use Rattle.craig_aiger.specs.Layouts.{at, node_variable, AreNamed, AreNeeded, edges_of}
use Rattle.craig_aiger.specs.declared.out_name.OutName.{OutName}
use Rattle.std.proofs.lemmas.List.{length-map}

-- whether each is below the bound
abbrev all_below : ℕ → List ℕ → Bool
all_below n xs = list_all (λ x. nat_lt x n) xs

below_from : (n : ℕ) (xs : List ℕ) → ((x : ℕ) → Contains xs x → x < n) → all_below n xs ≡ true
below_from n [] h = refl
below_from n (x ∷ xs) h =
    let here : x < n = h x (0, omega arith, refl) in
    let e : nat_lt x n ≡ true = grind (arith, nat_tests, here) in
    and_from (nat_lt x n) (all_below n xs) e (below_from n xs (λ y p. h y (suc p.0, omega (arith, p.1), p.2)))

below_append : (n : ℕ) (xs ys : List ℕ) → all_below n xs ≡ true → all_below n ys ≡ true → all_below n (xs ++ ys) ≡ true
below_append n [] ys e f = f
below_append n (x ∷ xs) ys e f = and_from (nat_lt x n) (all_below n (xs ++ ys)) ((and_parts (nat_lt x n) (all_below n xs) e).0) (below_append n xs ys ((and_parts (nat_lt x n) (all_below n xs) e).1) f)

below_left : (n : ℕ) (xs ys : List ℕ) → all_below n (xs ++ ys) ≡ true → all_below n xs ≡ true
below_left n [] ys e = refl
below_left n (x ∷ xs) ys e = and_from (nat_lt x n) (all_below n xs) ((and_parts (nat_lt x n) (all_below n (xs ++ ys)) e).0) (below_left n xs ys ((and_parts (nat_lt x n) (all_below n (xs ++ ys)) e).1))

below_right : (n : ℕ) (xs ys : List ℕ) → all_below n (xs ++ ys) ≡ true → all_below n ys ≡ true
below_right n [] ys e = e
below_right n (x ∷ xs) ys e = below_right n xs ys ((and_parts (nat_lt x n) (all_below n (xs ++ ys)) e).1)

below_one : (n x : ℕ) → all_below n (x ∷ []) ≡ true → x < n
below_one n x e = let f : nat_lt x n ≡ true = (and_parts (nat_lt x n) (all_below n []) e).0 in grind (arith, nat_tests, f)

pub input_is : (o : Option Node) (v : ℕ) → node_variable o ≡ Some v → (x : Var) × (o ≡ Some (Input x)) × (x.0 ≡ v)
input_is None v e = absurd (none-some v e)
input_is (Some Constant) v e = absurd (none-some v e)
input_is (Some (Gate l r)) v e = absurd (none-some v e)
input_is (Some (Input x)) v e = (x, refl, same_Some x.0 v e)

-- the cones of needed nodes are below what bounds the cones of the edges
needed_below : ConesFromOperands → (nodes : List Node) (edges : List Edge) (table : List (Option Node)) (n k : ℕ) → IsAig nodes → AreNeeded nodes edges table → All (λ e. all_below n (cone nodes e) ≡ true) edges → is_some (at table k) ≡ true → k < length nodes → all_below n (cone nodes (plain_edge k)) ≡ true
needed_below from_operands nodes edges table n k arena h roots some within =
    (h.needed k within).0 some (λ p. all_below n (cone nodes (plain_edge p))) roots
    (λ p l r is both. let e : cone nodes (plain_edge p) ≡ cone nodes l ++ cone nodes r = from_operands nodes p (Gate l r) arena is in
    let all : all_below n (cone nodes l ++ cone nodes r) ≡ true = rw e at both in
    (below_left n (cone nodes l) (cone nodes r) all, below_right n (cone nodes l) (cone nodes r) all))

bounded_at : (nodes : List Node) (names : List ℕ) (outputs : List (OutName × Edge)) → All (λ o. (x : ℕ) → Contains (cone nodes o.1) x → x < length names) outputs → (j : ℕ) (d : Edge) → j < length outputs → (y : ℕ) → Contains (cone nodes (get_or (edges_of outputs) j d)) y → y < length names
bounded_at nodes names [] roots j d within y here = absurd (omega arith)
bounded_at nodes names (o ∷ outputs) roots zero d within y here = roots 0 o (omega arith) y here
bounded_at nodes names (o ∷ outputs) roots (suc j) d within y here = bounded_at nodes names outputs (λ i e inside. roots (suc i) e (omega arith)) j d (omega arith) y here

pub AreNamed-needed : ConesFromOperands → (nodes : List Node) (names : List ℕ) (outputs : List (OutName × Edge)) (table : List (Option Node)) → IsAig nodes → AreNeeded nodes (edges_of outputs) table → All (λ o. (x : ℕ) → Contains (cone nodes o.1) x → x < length names) outputs → AreNamed names table
AreNamed-needed from_operands nodes names outputs table arena h roots k v e =
    let x = input_is (at table k) v e in
    let there : slice_get nodes k ≡ Some (Input x.0) = h.nodes_are k (Input x.0) x.1 in
    let within : k < length nodes = slice_get_within nodes k (Input x.0) there in
    let all : All (λ (edge : Edge). all_below (length names) (cone nodes edge) ≡ true) (edges_of outputs) =
    (λ j d inside.
    let l : j < length outputs = omega (arith, length-map outputs (λ o. o.1)) in
    below_from (length names) (cone nodes (get_or (edges_of outputs) j d)) (bounded_at nodes names outputs roots j d l)) in
    let below : all_below (length names) (cone nodes (plain_edge k)) ≡ true = needed_below from_operands nodes (edges_of outputs) table (length names) k arena h all (is_some_at (at table k) (Input x.0) x.1) within in
    let c : cone nodes (plain_edge k) ≡ x.0.0 ∷ [] = from_operands nodes k (Input x.0) arena there in
    omega (arith, x.2, below_one (length names) x.0.0 (rw c at below))
