-- The circuit of a layout has nothing twice, and each input and gate is reached from an output.
use Rattle.std.proofs.Common.{◌≡◌, ◌≢◌, ◌⊎◌, inl, inr, ℕ, suc, ◌+◌, ◌-◌, ◌*◌, ◌<◌, ◌≤◌, ◌/◌, Bool, true, false, ◌&&◌, nat_lt, eqb, List, [], ◌∷◌, ◌++◌, length, get_or, take, drop, map, Some, None, All, AllPairs, slice_get, refl, sym, ap, ◌∙◌, subst, arith}
use Rattle.std.proofs.lemmas.Option.{same_Some}
use Rattle.std.proofs.lemmas.Bool.{and_from, and_parts}
use native.Mathlib.Decide.{dec_lt}
use Rattle.std.specs.Option.{is_some}
use Rattle.std.specs.List.{filter_map, IsDistinct}
use Rattle.std.proofs.lemmas.Bool.Decides.{Decides-eqb, nat_tests}
use Rattle.std.proofs.lemmas.List.{get_or_default, length-map}
use Rattle.std.proofs.lemmas.List.Kept.{AllPairs-from_increasing}
use Rattle.std.proofs.lemmas.Map.Made.{AllPairs-from_IsDistinct}
use Rattle.std.proofs.Math.ListN.{get_or-map}
use Rattle.std.proofs.lemmas.Option.{slice_get_within, slice_get-get_or, get_or_from_slice_get}
use Rattle.craig_spec.specs.Circuit as circuit
use Rattle.craig_aig.specs.Arenas.{AreOperands, IsAig, IsPlaced}
use Rattle.craig_aig.specs.Edges.{Edge}
use Rattle.craig_aig.specs.declared.node.Node.{Node}
use Rattle.craig_aig.specs.declared.node.Node.TheVariants.{Constant, Input, Gate}
use Rattle.craig_base.specs.declared.variable.Var.{Var}
use Rattle.craig_aiger.specs.declared.out_name.OutName.{OutName}
use Rattle.craig_aiger.specs.Layouts.{Layout, circuit_of, at, edges_of, node_operands, gate_literals, node_variable, ordered, edge_literal, HasOperandNodes, IsLayout, IsNumber}
use Rattle.craig_aiger.specs.OutNames.{name_text}
use Rattle.craig_aiger.proofs.NamedLemmas.{input_is}
use Rattle.craig_aiger.proofs.NeededLemmas.{gate_read, operands_at, is_some_at}
use Rattle.craig_spec.proofs.MemberLemmas.{slice_get-to_map, slice_get-front}
use Rattle.craig_aiger.proofs.CircuitLemmas.{gate_counts, gates_around, some_node}
use Rattle.craig_aiger.proofs.FunctionLemmas.{half, kept, output_needed, to_circuit}
use Rattle.craig_aiger.proofs.UsedLemmas.{Given, given, member_of_map}
use Rattle.craig_aiger.proofs.WritableLemmas.{From, from, mapped, operands_bound}
use Rattle.craig_base.proofs.LiteralsLemmas.{same_parts}

-- where no two are the same, equal ones stand at one place
one_place : {X : Type 0} (xs : List X) (d : X) (i j : ℕ) → AllPairs (λ x y. x ≢ y) xs → i < length xs → j < length xs → get_or xs i d ≡ get_or xs j d → i ≡ j
one_place xs d i j differ low high e =
    elim (dec_lt i j) [
      | Prim.yes less ↦ absurd (differ i j d less high e)
      | Prim.no not_less ↦ elim (dec_lt j i) [
        | Prim.yes less ↦ absurd (differ j i d less low (sym e))
        | Prim.no not_greater ↦ (let a : i < j → ⊥ = not_less in let b : j < i → ⊥ = not_greater in omega arith)
      ]
    ]

rising_place : (xs : List ℕ) (i j : ℕ) → AllPairs (λ x y. x < y) xs → i < length xs → j < length xs → get_or xs i 0 ≡ get_or xs j 0 → i ≡ j
rising_place xs i j rise low high e = one_place xs 0 i j (λ k l d less within same. let below : get_or xs k d < get_or xs l d = rise k l d less within in omega (arith, below, same)) low high e

same_variable : (x y : Var) → x.0 ≡ y.0 → x ≡ y
same_variable x y e = ap (λ (n : ℕ). let v : Var = record { 0 = n } in v) e

same_edge : (e f : Edge) → e.place ≡ f.place → e.negated ≡ f.negated → e ≡ f
same_edge e f p q = ap (λ (n : ℕ). let v : Edge = record { place = n; negated = e.negated } in v) p ∙ ap (λ (b : Bool). let v : Edge = record { place = f.place; negated = b } in v) q

same_gate : (l r m s : Edge) → l ≡ m → r ≡ s → Gate l r ≡ Gate m s
same_gate l r m s e f = ap (λ x. Gate x r) e ∙ ap (λ x. Gate m x) f

-- equal gates have the same two literals
same_operands : (a b c d : ℕ) (s t : Bool) → nat_lt a b ≡ s → nat_lt c d ≡ t → to_circuit (ordered a b) ≡ to_circuit (ordered c d) → ((a ≡ c) × (b ≡ d)) ⊎ ((a ≡ d) × (b ≡ c))
same_operands a b c d true true e f same =
    let pair : to_circuit (b, a) ≡ to_circuit (d, c) = rw (e, f) at same in
    inl (ap (λ (g : circuit.Gate). g.right) pair, ap (λ (g : circuit.Gate). g.left) pair)
same_operands a b c d true false e f same =
    let pair : to_circuit (b, a) ≡ to_circuit (c, d) = rw (e, f) at same in
    inr (ap (λ (g : circuit.Gate). g.right) pair, ap (λ (g : circuit.Gate). g.left) pair)
same_operands a b c d false true e f same =
    let pair : to_circuit (a, b) ≡ to_circuit (d, c) = rw (e, f) at same in
    inr (ap (λ (g : circuit.Gate). g.left) pair, ap (λ (g : circuit.Gate). g.right) pair)
same_operands a b c d false false e f same =
    let pair : to_circuit (a, b) ≡ to_circuit (c, d) = rw (e, f) at same in
    inl (ap (λ (g : circuit.Gate). g.left) pair, ap (λ (g : circuit.Gate). g.right) pair)

-- the variables of two literals, the greater first
ordered_variables : (a b m n : ℕ) (t : Bool) → nat_lt a b ≡ t → a / 2 ≡ m → b / 2 ≡ n → 1 ≤ m → 1 ≤ n → m ≢ n → (1 ≤ (ordered a b).1 / 2) × ((ordered a b).1 / 2 < (ordered a b).0 / 2)
ordered_variables a b m n true e p q low high differ = rw e (let less : a < b = grind (arith, nat_tests, e) in (omega (arith, p, low), omega (arith, p, q, less, differ)))
ordered_variables a b m n false e p q low high differ = rw e (let less : b ≤ a = grind (arith, nat_tests, e) in (omega (arith, q, high), omega (arith, p, q, less, differ)))

-- what holds of the operands of a gate holds of the two literals
either_order : (P : ℕ → Type 0) (a b : ℕ) (t : Bool) → nat_lt a b ≡ t → P (ordered a b).0 × P (ordered a b).1 → P a × P b
either_order P a b true e both = let pair : P b × P a = rw e at both in (pair.1, pair.0)
either_order P a b false e both = rw e at both

-- what holds of the literals of the outputs of a circuit holds of those of the layout
output_has : (P : ℕ → Type 0) (laid : List (OutName × ℕ)) (j : ℕ) (o : OutName × ℕ) → slice_get laid j ≡ Some o → All (λ (x : circuit.Output). P x.literal) (map (λ (x : OutName × ℕ). record { name = name_text x.0; literal = x.1 }) laid) → P o.1
output_has P laid j o is roots =
    let d : circuit.Output = record { name = []; literal = 0 } in
    let outs : List circuit.Output = map (λ (x : OutName × ℕ). record { name = name_text x.0; literal = x.1 }) laid in
    let there : slice_get outs j ≡ Some (record { name = name_text o.0; literal = o.1 }) = slice_get-to_map (λ (x : OutName × ℕ). record { name = name_text x.0; literal = x.1 }) laid j o is in
    subst (λ (x : circuit.Output). P x.literal) (get_or_from_slice_get outs j (record { name = name_text o.0; literal = o.1 }) d there) (roots j d (slice_get_within outs j (record { name = name_text o.0; literal = o.1 }) there))

module _ (nodes : List Node) (names : List ℕ) (outputs : List (OutName × Edge)) (layout : Layout) (arena : IsAig nodes) (h : IsLayout nodes names outputs layout) where
  abbrev Numbered : ℕ → Node → ℕ → Type 0
  Numbered k n m = IsNumber names layout.inputs (take k h.table) (Some n) m

  within_table : (k : ℕ) (n : Node) → at h.table k ≡ Some n → k < length h.table
  within_table k n is = omega (arith, h.needed.lengths, slice_get_within nodes k n (h.needed.nodes_are k n is))

  own_number : (k : ℕ) (n : Node) → at h.table k ≡ Some n → Numbered k n (get_or h.numbers k 0)
  own_number k n is = subst (λ o. IsNumber names layout.inputs (take k h.table) o (get_or h.numbers k 0)) is (h.numbering.each k (within_table k n is))

  node_is : (k : ℕ) (n : Node) → at h.table k ≡ Some n → get_or nodes k Constant ≡ n
  node_is k n is = get_or_from_slice_get nodes k n Constant (h.needed.nodes_are k n is)

  constant_place : (k : ℕ) → at h.table k ≡ Some Constant → k ≡ 0
  constant_place k is =
      let within : k < length nodes = slice_get_within nodes k Constant (h.needed.nodes_are k Constant is) in
      subst (IsPlaced k) (node_is k Constant is) (arena.placed k within)

  -- the nodes above the constant have numbers above its own
  number_positive : (k : ℕ) (n : Node) (m : ℕ) → at h.table k ≡ Some n → 0 < k → Numbered k n m → 1 ≤ m
  number_positive k Constant m is low own = absurd (omega (arith, low, constant_place k is))
  number_positive k (Input x) m is low own = omega (arith, own.1)
  number_positive k (Gate l r) m is low own = omega (arith, own)

  some_positive : (k : ℕ) → is_some (at h.table k) ≡ true → 0 < k → 1 ≤ get_or h.numbers k 0
  some_positive k some low = let n = some_node (at h.table k) some in number_positive k n.0 (get_or h.numbers k 0) n.1 low (own_number k n.0 n.1)

  one_node : (j k : ℕ) (n : Node) → at h.table j ≡ Some n → at h.table k ≡ Some n → j ≡ k
  one_node j k n p q =
      one_place nodes Constant j k arena.distinct (slice_get_within nodes j n (h.needed.nodes_are j n p)) (slice_get_within nodes k n (h.needed.nodes_are k n q)) (node_is j n p ∙ sym (node_is k n q))

  one_gate : (j k : ℕ) (l r m s : Edge) → at h.table j ≡ Some (Gate l r) → at h.table k ≡ Some (Gate m s) → length (filter_map node_operands (take j h.table)) ≡ length (filter_map node_operands (take k h.table)) → j ≡ k
  one_gate j k l r m s p q e =
      elim (dec_lt j k) [
        | Prim.yes less ↦ absurd (omega (arith, e, gate_counts h.table j k l r less (omega (arith, within_table k (Gate m s) q)) p))
        | Prim.no not_less ↦ elim (dec_lt k j) [
          | Prim.yes less ↦ absurd (omega (arith, e, gate_counts h.table k j m s less (omega (arith, within_table j (Gate l r) p)) q))
          | Prim.no not_greater ↦ (let a : j < k → ⊥ = not_less in let b : k < j → ⊥ = not_greater in omega arith)
        ]
      ]

  module _ (distinct : IsDistinct eqb names) where
    one_input : (j k i : ℕ) (x y : Var) → at h.table j ≡ Some (Input x) → at h.table k ≡ Some (Input y) → slice_get layout.inputs i ≡ Some (get_or names x.0 0) → slice_get layout.inputs i ≡ Some (get_or names y.0 0) → x.0 < length names → y.0 < length names → j ≡ k
    one_input j k i x y p q a b low high =
        let named : get_or names x.0 0 ≡ get_or names y.0 0 = sym (get_or_from_slice_get layout.inputs i (get_or names x.0 0) 0 a) ∙ get_or_from_slice_get layout.inputs i (get_or names y.0 0) 0 b in
        let same : x ≡ y = same_variable x y (one_place names 0 x.0 y.0 (AllPairs-from_IsDistinct Decides-eqb names distinct) low high named) in
        one_node j k (Input y) (p ∙ ap (λ v. Some (Input v)) same) q

    -- different nodes have different numbers
    numbers_apart : (j k : ℕ) (n o : Node) (a : ℕ) → at h.table j ≡ Some n → at h.table k ≡ Some o → 0 < j → 0 < k → Numbered j n a → Numbered k o a → j ≡ k
    numbers_apart j k Constant o a p q low high own other = absurd (omega (arith, low, constant_place j p))
    numbers_apart j k (Input x) Constant a p q low high own other = absurd (omega (arith, high, constant_place k q))
    numbers_apart j k (Gate l r) Constant a p q low high own other = absurd (omega (arith, high, constant_place k q))
    numbers_apart j k (Input x) (Gate l r) a p q low high own other = absurd (omega (arith, own.1, other, slice_get_within layout.inputs own.0 (get_or names x.0 0) own.2))
    numbers_apart j k (Gate l r) (Input x) a p q low high own other = absurd (omega (arith, other.1, own, slice_get_within layout.inputs other.0 (get_or names x.0 0) other.2))
    numbers_apart j k (Gate l r) (Gate m s) a p q low high own other = one_gate j k l r m s p q (omega (arith, own, other))
    numbers_apart j k (Input x) (Input y) a p q low high own other =
        let i : own.0 ≡ other.0 = omega (arith, own.1, other.1) in
        one_input j k other.0 x y p q (ap (slice_get layout.inputs) (sym i) ∙ own.2) other.2 own.3 other.3

    same_place : (j k : ℕ) → is_some (at h.table j) ≡ true → is_some (at h.table k) ≡ true → 0 < j → 0 < k → get_or h.numbers j 0 ≡ get_or h.numbers k 0 → j ≡ k
    same_place j k some other low high e =
        let n = some_node (at h.table j) some in
        let o = some_node (at h.table k) other in
        numbers_apart j k n.0 o.0 (get_or h.numbers k 0) n.1 o.1 low high (subst (Numbered j n.0) e (own_number j n.0 n.1)) (own_number k o.0 o.1)

    -- two needed edges of one literal
    one_edge : (e f : Edge) → is_some (at h.table e.place) ≡ true → is_some (at h.table f.place) ≡ true → 0 < e.place → 0 < f.place → edge_literal h.numbers e ≡ edge_literal h.numbers f → e ≡ f
    one_edge e f some other low high same =
        let parts = same_parts (get_or h.numbers e.place 0) (get_or h.numbers f.place 0) e.negated f.negated same in
        same_edge e f (same_place e.place f.place some other low high parts.0) parts.1

  -- the node of a gate of the layout
  record GateNode (j : ℕ) (g : ℕ × ℕ) : Type 0 where
    place : ℕ
    left : Edge
    right : Edge
    there : at h.table place ≡ Some (Gate left right)
    before : length (filter_map node_operands (take place h.table)) ≡ j
    is : g ≡ gate_literals h.numbers (left, right)
    operands : AreOperands place left right
    below : (g.1 ≤ g.0) × (g.0 < 2 * (1 + length layout.inputs + j))
    kept_left : is_some (at h.table left.place) ≡ true
    kept_right : is_some (at h.table right.place) ≡ true

  gate_node : (j : ℕ) (g : ℕ × ℕ) → slice_get layout.gates j ≡ Some g → GateNode j g
  gate_node j g is =
      let at_map : slice_get (map (gate_literals h.numbers) (filter_map node_operands h.table)) j ≡ Some g = sym (ap (λ gs. slice_get gs j) h.gates_are) ∙ is in
      let p = mapped (gate_literals h.numbers) (filter_map node_operands h.table) j g at_map in
      let f : From node_operands h.table j p.0 None = from node_operands h.table j p.0 None p.1 in
      let there : at h.table f.place ≡ Some (Gate p.0.0 p.0.1) = gate_read h.table f.place None p.0.0 p.0.1 f.within f.gives in
      let k = kept nodes names outputs layout arena h f.place p.0.0 p.0.1 there in
      record {
        place = f.place;
        left = p.0.0;
        right = p.0.1;
        there = there;
        before = f.before;
        is = p.2;
        operands = operands_at nodes f.place p.0.0 p.0.1 arena (h.needed.nodes_are f.place (Gate p.0.0 p.0.1) there);
        below = operands_bound nodes names outputs layout arena h j g is;
        kept_left = k.2;
        kept_right = k.3;
      }

  -- an element of the gates of the circuit
  circuit_gate : (j : ℕ) (g : circuit.Gate) → slice_get (map to_circuit layout.gates) j ≡ Some g → (p : ℕ × ℕ) × GateNode j p × (g ≡ to_circuit p)
  circuit_gate j g is = let p = mapped to_circuit layout.gates j g is in (p.0, gate_node j p.0 p.1, p.2)

  module _ (distinct : IsDistinct eqb names) where
    strict_operands : (j : ℕ) (g : circuit.Gate) → slice_get (map to_circuit layout.gates) j ≡ Some g → (1 ≤ g.right / 2) × (g.right / 2 < g.left / 2) × (g.left / 2 < 1 + length layout.inputs + j)
    strict_operands j g is =
        let c = circuit_gate j g is in
        let n : GateNode j c.0 = c.1 in
        let gate_is : g ≡ to_circuit (gate_literals h.numbers (n.left, n.right)) = c.2 ∙ ap to_circuit n.is in
        let low : 0 < n.right.place = n.operands.not_constant in
        let high : 0 < n.left.place = omega (arith, low, n.operands.ordered) in
        let differ : get_or h.numbers n.left.place 0 ≢ get_or h.numbers n.right.place 0 = λ same.
        let e : n.left.place ≡ n.right.place = same_place distinct n.left.place n.right.place n.kept_left n.kept_right high low same in
        omega (arith, e, n.operands.ordered) in
        let apart = ordered_variables (edge_literal h.numbers n.left) (edge_literal h.numbers n.right) (get_or h.numbers n.left.place 0) (get_or h.numbers n.right.place 0) (nat_lt (edge_literal h.numbers n.left) (edge_literal h.numbers n.right)) refl
        (half (get_or h.numbers n.left.place 0) n.left.negated) (half (get_or h.numbers n.right.place 0) n.right.negated) (some_positive n.left.place n.kept_left high) (some_positive n.right.place n.kept_right low) differ in
        let left_is : g.left ≡ c.0.0 = ap (λ (k : circuit.Gate). k.left) c.2 in
        let parts : (1 ≤ g.right / 2) × (g.right / 2 < g.left / 2) = rw gate_is apart in
        (parts.0, parts.1, omega (arith, left_is, n.below.1))

    -- the same gate is of the same node
    one_gate_node : (i j : ℕ) (p q : ℕ × ℕ) → GateNode i p → GateNode j q → to_circuit p ≡ to_circuit q → i ≡ j
    one_gate_node i j p q m n same =
        let literals : to_circuit (gate_literals h.numbers (m.left, m.right)) ≡ to_circuit (gate_literals h.numbers (n.left, n.right)) = ap to_circuit (sym m.is) ∙ same ∙ ap to_circuit n.is in
        let low : 0 < m.right.place = m.operands.not_constant in
        let low' : 0 < n.right.place = n.operands.not_constant in
        let high : 0 < m.left.place = omega (arith, low, m.operands.ordered) in
        let high' : 0 < n.left.place = omega (arith, low', n.operands.ordered) in
        let cases = same_operands (edge_literal h.numbers m.left) (edge_literal h.numbers m.right) (edge_literal h.numbers n.left) (edge_literal h.numbers n.right)
        (nat_lt (edge_literal h.numbers m.left) (edge_literal h.numbers m.right)) (nat_lt (edge_literal h.numbers n.left) (edge_literal h.numbers n.right)) refl refl literals in
        elim cases [
          | inl straight ↦
              (let l : m.left ≡ n.left = one_edge distinct m.left n.left m.kept_left n.kept_left high high' straight.0 in
              let r : m.right ≡ n.right = one_edge distinct m.right n.right m.kept_right n.kept_right low low' straight.1 in
              let place : m.place ≡ n.place = one_node m.place n.place (Gate n.left n.right) (m.there ∙ ap (λ g. Some g) (same_gate m.left m.right n.left n.right l r)) n.there in
              sym m.before ∙ ap (λ k. length (filter_map node_operands (take k h.table))) place ∙ n.before)
          | inr crossed ↦
              (let l : m.left ≡ n.right = one_edge distinct m.left n.right m.kept_left n.kept_right high low' crossed.0 in
              let r : m.right ≡ n.left = one_edge distinct m.right n.left m.kept_right n.kept_left low high' crossed.1 in
              absurd (omega (arith, ap (λ (e : Edge). e.place) l, ap (λ (e : Edge). e.place) r, m.operands.ordered, n.operands.ordered)))
        ]

    strict_distinct : AllPairs (λ g k. g ≢ k) (map to_circuit layout.gates)
    strict_distinct i j d less within same =
        let p = circuit_gate i (get_or (map to_circuit layout.gates) i d) (slice_get-get_or (map to_circuit layout.gates) i d (omega (arith, less, within))) in
        let q = circuit_gate j (get_or (map to_circuit layout.gates) j d) (slice_get-get_or (map to_circuit layout.gates) j d within) in
        let e : i ≡ j = one_gate_node i j p.0 q.0 p.1 q.1 (sym p.2 ∙ same ∙ q.2) in
        omega (arith, e, less)

  -- the gate of a node
  laid_gate : (k : ℕ) (l r : Edge) → at h.table k ≡ Some (Gate l r) → slice_get (map to_circuit layout.gates) (length (filter_map node_operands (take k h.table))) ≡ Some (to_circuit (gate_literals h.numbers (l, r)))
  laid_gate k l r is =
      let front : List (Edge × Edge) = filter_map node_operands (take k h.table) in
      let back : List (Edge × Edge) = filter_map node_operands (drop (suc k) h.table) in
      let there : slice_get (front ++ (l, r) ∷ back) (length front) ≡ Some (l, r) = slice_get-front front (l, r) back in
      let here : slice_get (filter_map node_operands h.table) (length front) ≡ Some (l, r) = ap (λ ps. slice_get ps (length front)) (gates_around h.table k l r (within_table k (Gate l r) is) is) ∙ there in
      let gate_here : slice_get layout.gates (length front) ≡ Some (gate_literals h.numbers (l, r)) = ap (λ gs. slice_get gs (length front)) h.gates_are ∙ slice_get-to_map (gate_literals h.numbers) (filter_map node_operands h.table) (length front) (l, r) here in
      slice_get-to_map to_circuit layout.gates (length front) (gate_literals h.numbers (l, r)) gate_here

  module _ (within : All (λ p. p.1.place < length nodes) outputs) where
    module _ (has : ℕ → Bool) (roots : All (λ o. has (o.literal / 2) ≡ true) (circuit_of layout).outputs) (closed : circuit.HasOperands (circuit_of layout) has) where
      -- the nodes of the table whose variables the set has
      abbrev kept_in : ℕ → Bool
      kept_in k = is_some (at h.table k) && has (get_or h.numbers k 0)

      root_kept : (j : ℕ) (o : OutName × Edge) → slice_get outputs j ≡ Some o → kept_in o.1.place ≡ true
      root_kept j o is =
          let n = output_needed nodes names outputs layout arena h j o within is in
          let laid : slice_get layout.outputs j ≡ Some (o.0, edge_literal h.numbers o.1) = ap (λ ls. slice_get ls j) h.outputs_are ∙ slice_get-to_map (λ (p : OutName × Edge). (p.0, edge_literal h.numbers p.1)) outputs j o is in
          let root : has (edge_literal h.numbers o.1 / 2) ≡ true = output_has (λ (l : ℕ). has (l / 2) ≡ true) layout.outputs j (o.0, edge_literal h.numbers o.1) laid roots in
          and_from (is_some (at h.table o.1.place)) (has (get_or h.numbers o.1.place 0)) n.1 (subst (λ v. has v ≡ true) (half (get_or h.numbers o.1.place 0) o.1.negated) root)

      roots_kept : All (λ (e : Edge). kept_in e.place ≡ true) (edges_of outputs)
      roots_kept j d inside =
          let inside' : j < length outputs = omega (arith, inside, length-map outputs (λ o. o.1)) in
          let e : OutName × Edge = (record { family = None; cut = 0 }, d) in
          let edge : get_or (edges_of outputs) j d ≡ (get_or outputs j e).1 = get_or-map (λ (o : OutName × Edge). o.1) outputs j e in
          subst (λ (x : Edge). kept_in x.place ≡ true) (sym edge) (root_kept j (get_or outputs j e) (slice_get-get_or outputs j e inside'))

      closed_kept : HasOperandNodes nodes kept_in
      closed_kept k l r is both =
          let parts = and_parts (is_some (at h.table k)) (has (get_or h.numbers k 0)) both in
          let n = some_node (at h.table k) parts.0 in
          let node : n.0 ≡ Gate l r = same_Some n.0 (Gate l r) (sym (h.needed.nodes_are k n.0 n.1) ∙ is) in
          let there : at h.table k ≡ Some (Gate l r) = n.1 ∙ ap (λ m. Some m) node in
          let below = kept nodes names outputs layout arena h k l r there in
          let count : ℕ = length (filter_map node_operands (take k h.table)) in
          let own : get_or h.numbers k 0 ≡ 1 + length layout.inputs + count = own_number k (Gate l r) there in
          let operands = closed count (to_circuit (gate_literals h.numbers (l, r))) (laid_gate k l r there) (subst (λ v. has v ≡ true) own parts.1) in
          let halves = either_order (λ v. has (v / 2) ≡ true) (edge_literal h.numbers l) (edge_literal h.numbers r) (nat_lt (edge_literal h.numbers l) (edge_literal h.numbers r)) refl operands in (
            and_from (is_some (at h.table l.place)) (has (get_or h.numbers l.place 0)) below.2 (subst (λ v. has v ≡ true) (half (get_or h.numbers l.place 0) l.negated) halves.0),
            and_from (is_some (at h.table r.place)) (has (get_or h.numbers r.place 0)) below.3 (subst (λ v. has v ≡ true) (half (get_or h.numbers r.place 0) r.negated) halves.1),
          )

      node_had : (k : ℕ) (n : Node) → at h.table k ≡ Some n → has (get_or h.numbers k 0) ≡ true
      node_had k n is =
          let inside : k < length nodes = slice_get_within nodes k n (h.needed.nodes_are k n is) in
          (and_parts (is_some (at h.table k)) (has (get_or h.numbers k 0)) ((h.needed.needed k inside).0 (is_some_at (at h.table k) n is) kept_in roots_kept closed_kept)).1

    node_reached : (k v : ℕ) (n : Node) → at h.table k ≡ Some n → get_or h.numbers k 0 ≡ v → circuit.IsReached (circuit_of layout) v
    node_reached k v n is own has roots closed = subst (λ x. has x ≡ true) own (node_had has roots closed k n is)

    input_reached : (i : ℕ) → i < length layout.inputs → circuit.IsReached (circuit_of layout) (1 + i)
    input_reached i inside =
        let x : ℕ = get_or layout.inputs i 0 in
        let m = member_of_map (λ k. get_or names k 0) (filter_map node_variable h.table) x ((h.inputs_are x).0 (i, inside, get_or_default layout.inputs i x 0 inside)) in
        let g : Given h.table m.0 = given h.table m.0 m.1 in
        let n = input_is (at h.table g.place) m.0 g.gives in
        let own = own_number g.place (Input n.0) n.1 in
        let named : get_or layout.inputs own.0 0 ≡ get_or layout.inputs i 0 = get_or_from_slice_get layout.inputs own.0 (get_or names n.0.0 0) 0 own.2 ∙ ap (λ k. get_or names k 0) n.2 ∙ m.2 in
        let same : own.0 ≡ i = rising_place layout.inputs own.0 i (AllPairs-from_increasing layout.inputs h.rising) (slice_get_within layout.inputs own.0 (get_or names n.0.0 0) own.2) inside named in
        node_reached g.place (1 + i) (Input n.0) n.1 (own.1 ∙ ap (λ k. 1 + k) same)

    gate_reached : (j : ℕ) → j < length layout.gates → circuit.IsReached (circuit_of layout) (1 + length layout.inputs + j)
    gate_reached j inside =
        let g : GateNode j (get_or layout.gates j (0, 0)) = gate_node j (get_or layout.gates j (0, 0)) (slice_get-get_or layout.gates j (0, 0) inside) in
        node_reached g.place (1 + length layout.inputs + j) (Gate g.left g.right) g.there (own_number g.place (Gate g.left g.right) g.there ∙ ap (λ k. 1 + length layout.inputs + k) g.before)

    variable_reached : (v : ℕ) → 1 ≤ v → v < circuit.variable_count (circuit_of layout) → circuit.IsReached (circuit_of layout) v
    variable_reached v low high =
        elim (dec_lt v (1 + length layout.inputs)) [
          | Prim.yes first ↦ (let e : 1 + (v - 1) ≡ v = omega (arith, low) in subst (circuit.IsReached (circuit_of layout)) e (input_reached (v - 1) (omega (arith, low, first))))
          | Prim.no not_first ↦
              (let n : v < 1 + length layout.inputs → ⊥ = not_first in
              let e : 1 + length layout.inputs + (v - (1 + length layout.inputs)) ≡ v = omega (arith, n) in
              subst (circuit.IsReached (circuit_of layout)) e (gate_reached (v - (1 + length layout.inputs)) (omega (arith, n, high, length-map layout.gates to_circuit))))
        ]

    -- nothing of the circuit is there twice or for nothing
    pub IsStrict-layout : IsDistinct eqb names → circuit.IsStrict (circuit_of layout)
    IsStrict-layout distinct = record {
      rising = h.rising;
      operands = strict_operands distinct;
      distinct = strict_distinct distinct;
      reached = variable_reached;
    }
