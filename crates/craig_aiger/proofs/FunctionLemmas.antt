-- The outputs of a layout have the values and the cones of their edges.
use Rattle.std.proofs.Common.{◌≡◌, inl, inr, ℕ, suc, ◌+◌, ◌*◌, ◌<◌, ◌/◌, ◌%◌, Bool, true, false, cond, ◌&&◌, nat_lt, eqb, List, [], ◌∷◌, ◌++◌, length, get_or, take, map, Option, Some, All, Contains, slice_get, refl, sym, ap, ◌∙◌, subst, arith}
use Rattle.std.proofs.lemmas.Option.{none-some, same_Some}
use Rattle.std.specs.Option.{is_some}
use Rattle.std.specs.List.{filter_map}
use Rattle.std.proofs.lemmas.Bool.Decides.{nat_tests}
use Rattle.std.proofs.lemmas.List.{get_or_default, length-map, map-append}
use Rattle.std.proofs.lemmas.List.Elements.{Contains-append_left, Contains-append_right, Contains-append_cases}
use Rattle.std.proofs.Math.ListN.{get_or-map}
use Rattle.std.proofs.lemmas.Option.{slice_get_within, get_or_from_slice_get}
use Rattle.craig_spec.specs.Circuit as circuit
use Rattle.craig_spec.specs.Truth.{Assignment, variable_value}
use Rattle.craig_aig.specs.Arenas.{IsAig, AreOperands}
use Rattle.craig_aig.specs.Edges.{Edge}
use Rattle.craig_aig.specs.Cones.{cone, cones}
use Rattle.craig_aig.specs.Operands.{ConesFromOperands, ValuesFromBits, ValuesFromOperands}
use Rattle.craig_aig.specs.Values.{edge_value_in, values}
use Rattle.craig_aig.specs.declared.node.Node.{Node}
use Rattle.craig_aig.specs.declared.node.Node.TheVariants.{Constant, Input, Gate}
use Rattle.craig_aiger.specs.declared.out_name.OutName.{OutName}
use Rattle.craig_aiger.specs.Layouts.{Layout, circuit_of, at, node_variable, node_operands, gate_literals, ordered, edge_literal, dense_assignment, IsLayout, IsNumber, HasFunctions}
use Rattle.craig_aiger.proofs.NeededLemmas.{operands_at, edge_at, place_at}
use Rattle.craig_spec.proofs.MemberLemmas.{slice_get-to_map}
use Rattle.craig_aiger.proofs.UsedLemmas.{AreUsed-layout}
use Rattle.craig_aiger.proofs.CircuitLemmas.{agrees, some_node}

-- the gate of the circuit
abbrev pub to_circuit : (ℕ × ℕ) → circuit.Gate
to_circuit g = record { left = g.0; right = g.1 }

abbrev gate_for : List ℕ → (Edge × Edge) → circuit.Gate
gate_for numbers p = to_circuit (gate_literals numbers p)

map_twice : (numbers : List ℕ) (ps : List (Edge × Edge)) → map to_circuit (map (gate_literals numbers) ps) ≡ map (gate_for numbers) ps
map_twice numbers [] = refl
map_twice numbers (p ∷ ps) = ap (λ l. gate_for numbers p ∷ l) (map_twice numbers ps)

and_comm : (a b : Bool) → (a && b) ≡ (b && a)
and_comm true true = refl
and_comm true false = refl
and_comm false true = refl
and_comm false false = refl

pub half : (n : ℕ) (b : Bool) → (2 * n + cond b 1 0) / 2 ≡ n
half n true = omega arith
half n false = omega arith

odd : (n : ℕ) (b : Bool) → eqb ((2 * n + cond b 1 0) % 2) 1 ≡ b
odd n true = grind (arith, nat_tests)
odd n false = grind (arith, nat_tests)

-- the value of the literal of an edge
value_literal : (before : List Bool) (W : List Bool) (numbers : List ℕ) (e : Edge) → get_or before (get_or numbers e.place 0) false ≡ get_or W e.place false → circuit.literal_value_in before (edge_literal numbers e) ≡ edge_value_in W e
value_literal before W numbers e same =
    rw (odd (get_or numbers e.place 0) e.negated, half (get_or numbers e.place 0) e.negated, same) refl

value_ordered : (before : List Bool) (a b : ℕ) (t : Bool) → nat_lt a b ≡ t → circuit.gate_value before (to_circuit (ordered a b)) ≡ (circuit.literal_value_in before a && circuit.literal_value_in before b)
value_ordered before a b true e = rw e (and_comm (circuit.literal_value_in before b) (circuit.literal_value_in before a))
value_ordered before a b false e = rw e refl

-- the members of a cone of the circuit are the names of those of a cone of the arena
abbrev Same : List ℕ → List ℕ → List ℕ → Type 0
Same names a b = (x : ℕ) → (Contains a x → Contains (map (λ k. get_or names k 0) b) x) × (Contains (map (λ k. get_or names k 0) b) x → Contains a x)

either_member : (a b : List ℕ) (x : ℕ) (P : Type 0) → (Contains a x → P) → (Contains b x → P) → Contains (a ++ b) x → P
either_member a b x P f g h = elim (Contains-append_cases a b x h) [ inl p ↦ f p | inr p ↦ g p ]

same_join : (names a b u v : List ℕ) → Same names a u → Same names b v → Same names (a ++ b) (u ++ v)
same_join names a b u v p q = λ x.
    let nu : List ℕ = map (λ k. get_or names k 0) u in
    let nv : List ℕ = map (λ k. get_or names k 0) v in
    let e : map (λ k. get_or names k 0) (u ++ v) ≡ nu ++ nv = map-append (λ k. get_or names k 0) u v in (
      λ h. subst (λ l. Contains l x) (sym e) (either_member a b x (Contains (nu ++ nv) x) (λ m. Contains-append_left nu nv x ((p x).0 m)) (λ m. Contains-append_right nu nv x ((q x).0 m)) h),
      λ h. either_member nu nv x (Contains (a ++ b) x) (λ m. Contains-append_left a b x ((p x).1 m)) (λ m. Contains-append_right a b x ((q x).1 m)) (subst (λ l. Contains l x) e h),
    )

same_swap : (names a b u : List ℕ) → Same names (a ++ b) u → Same names (b ++ a) u
same_swap names a b u p = λ x. (
  λ h. (p x).0 (either_member b a x (Contains (a ++ b) x) (λ m. Contains-append_right a b x m) (λ m. Contains-append_left a b x m) h),
  λ h. either_member a b x (Contains (b ++ a) x) (λ m. Contains-append_right b a x m) (λ m. Contains-append_left b a x m) ((p x).1 h),
)

cone_ordered : (names : List ℕ) (before : List (List ℕ)) (a b : ℕ) (u : List ℕ) (t : Bool) → nat_lt a b ≡ t → Same names (get_or before (a / 2) [] ++ get_or before (b / 2) []) u → Same names (circuit.gate_cone before (to_circuit (ordered a b))) u
cone_ordered names before a b u true e h = rw e (same_swap names (get_or before (a / 2) []) (get_or before (b / 2) []) u h)
cone_ordered names before a b u false e h = rw e h

one_output : (p q : OutName × ℕ) → Some p ≡ Some q → p ≡ q
one_output p q e = cc

module _ (nodes : List Node) (names : List ℕ) (outputs : List (OutName × Edge)) (layout : Layout) (arena : IsAig nodes) (h : IsLayout nodes names outputs layout) where
  at_node : (k : ℕ) (n : Node) → at h.table k ≡ Some n → slice_get nodes k ≡ Some n
  at_node k n is = h.needed.nodes_are k n is

  some_of : (o : Option Node) (n : Node) → o ≡ Some n → is_some o ≡ true
  some_of o n e = rw e refl

  pub kept : (k : ℕ) (l r : Edge) → at h.table k ≡ Some (Gate l r) → (l.place < k) × (r.place < k) × (is_some (at h.table l.place) ≡ true) × (is_some (at h.table r.place) ≡ true)
  kept k l r is =
      let there : slice_get nodes k ≡ Some (Gate l r) = at_node k (Gate l r) is in
      let within : k < length nodes = slice_get_within nodes k (Gate l r) there in
      let below : AreOperands k l r = operands_at nodes k l r arena there in
      let need = (h.needed.needed k within).0 (some_of (at h.table k) (Gate l r) is) in (
        below.below,
        omega (arith, below.below, below.ordered),
        (h.needed.needed l.place (omega (arith, below.below))).1 (λ has roots closed. (closed k l r there (need has roots closed)).0),
        (h.needed.needed r.place (omega (arith, below.below, below.ordered))).1 (λ has roots closed. (closed k l r there (need has roots closed)).1),
      )

  gates_is : map to_circuit layout.gates ≡ map (gate_for h.numbers) (filter_map node_operands h.table)
  gates_is = ap (map to_circuit) h.gates_are ∙ map_twice h.numbers (filter_map node_operands h.table)

  module _ (values_from_bits : ValuesFromBits) (values_from_operands : ValuesFromOperands) (s : Assignment) where
    abbrev W : List Bool
    W = values (dense_assignment names s) nodes

    abbrev first : List Bool
    first = false ∷ map (variable_value s) layout.inputs

    dense : (x : ℕ) → x < length names → variable_value (dense_assignment names s) x ≡ variable_value s (get_or names x 0)
    dense x within =
        let inside : x < length (map (variable_value s) names) = omega (arith, length-map names (variable_value s)) in
        values_from_bits (map (variable_value s) names) x ∙ get_or_default (map (variable_value s) names) x false (variable_value s 0) inside ∙ get_or-map (variable_value s) names x 0

    value_constant : (k : ℕ) → at h.table k ≡ Some Constant → get_or first 0 false ≡ get_or W k false
    value_constant k is = sym (values_from_operands (dense_assignment names s) nodes k Constant arena (at_node k Constant is))

    value_input : (k i x : ℕ) (n : Node) → at h.table k ≡ Some n → node_variable (Some n) ≡ Some x → slice_get layout.inputs i ≡ Some (get_or names x 0) → x < length names → get_or first (1 + i) false ≡ get_or W k false
    value_input k i x Constant is e place within = absurd (none-some x e)
    value_input k i x (Gate l r) is e place within = absurd (none-some x e)
    value_input k i x (Input v) is e place within =
        let same : v.0 ≡ x = same_Some v.0 x e in
        let inside : i < length layout.inputs = slice_get_within layout.inputs i (get_or names x 0) place in
        let inside' : i < length (map (variable_value s) layout.inputs) = omega (arith, length-map layout.inputs (variable_value s)) in
        let left : get_or (map (variable_value s) layout.inputs) i false ≡ variable_value s (get_or names x 0) = get_or_default (map (variable_value s) layout.inputs) i false (variable_value s 0) inside' ∙ get_or-map (variable_value s) layout.inputs i 0 ∙ ap (variable_value s) (get_or_from_slice_get layout.inputs i (get_or names x 0) 0 place) in
        let right : get_or W k false ≡ variable_value (dense_assignment names s) v.0 = values_from_operands (dense_assignment names s) nodes k (Input v) arena (at_node k (Input v) is) in
        let e : 1 + i ≡ suc i = omega arith in
        rw e (left ∙ sym (dense x within) ∙ ap (variable_value (dense_assignment names s)) (sym same) ∙ sym right)

    value_gate : (k : ℕ) (l r : Edge) (before : List Bool) → at h.table k ≡ Some (Gate l r) → get_or before (get_or h.numbers l.place 0) false ≡ get_or W l.place false → get_or before (get_or h.numbers r.place 0) false ≡ get_or W r.place false → circuit.gate_value before (gate_for h.numbers (l, r)) ≡ get_or W k false
    value_gate k l r before is left right =
        value_ordered before (edge_literal h.numbers l) (edge_literal h.numbers r) (nat_lt (edge_literal h.numbers l) (edge_literal h.numbers r)) refl
        ∙ ap (λ b. b && circuit.literal_value_in before (edge_literal h.numbers r)) (value_literal before W h.numbers l left)
        ∙ ap (λ b. edge_value_in W l && b) (value_literal before W h.numbers r right)
        ∙ sym (values_from_operands (dense_assignment names s) nodes k (Gate l r) arena (at_node k (Gate l r) is))

    value_agrees : (k : ℕ) → k < length h.table → is_some (at h.table k) ≡ true → get_or (circuit.circuit_values s layout.inputs (map to_circuit layout.gates)) (get_or h.numbers k 0) false ≡ get_or W k false
    value_agrees k within some =
        ap (λ gs. get_or (circuit.circuit_values s layout.inputs gs) (get_or h.numbers k 0) false) gates_is
        ∙ agrees (λ (a b : Bool). a ≡ b) circuit.gate_value first false W false (gate_for h.numbers) names layout.inputs h.table h.numbers h.numbering (omega (arith, length-map layout.inputs (variable_value s))) kept value_constant value_input value_gate k within some

  module _ (cones_from_operands : ConesFromOperands) where
    abbrev first_cones : List (List ℕ)
    first_cones = [] ∷ map (λ x. x ∷ []) layout.inputs

    cone_constant : (k : ℕ) → at h.table k ≡ Some Constant → Same names (get_or first_cones 0 []) (get_or (cones nodes) k [])
    cone_constant k is =
        let e : get_or (cones nodes) k [] ≡ [] = cones_from_operands nodes k Constant arena (at_node k Constant is) in
        subst (λ u. Same names [] u) (sym e) (λ x. (λ m. m, λ m. m))

    cone_input : (k i x : ℕ) (n : Node) → at h.table k ≡ Some n → node_variable (Some n) ≡ Some x → slice_get layout.inputs i ≡ Some (get_or names x 0) → x < length names → Same names (get_or first_cones (1 + i) []) (get_or (cones nodes) k [])
    cone_input k i x Constant is e place within = absurd (none-some x e)
    cone_input k i x (Gate l r) is e place within = absurd (none-some x e)
    cone_input k i x (Input v) is e place within =
        let same : v.0 ≡ x = same_Some v.0 x e in
        let inside : i < length layout.inputs = slice_get_within layout.inputs i (get_or names x 0) place in
        let inside' : i < length (map (λ y. y ∷ []) layout.inputs) = omega (arith, length-map layout.inputs (λ y. y ∷ [])) in
        let left : get_or (map (λ y. y ∷ []) layout.inputs) i [] ≡ get_or names x 0 ∷ [] = get_or_default (map (λ y. y ∷ []) layout.inputs) i [] (0 ∷ []) inside' ∙ get_or-map (λ y. y ∷ []) layout.inputs i 0 ∙ ap (λ y. y ∷ []) (get_or_from_slice_get layout.inputs i (get_or names x 0) 0 place) in
        let right : get_or (cones nodes) k [] ≡ x ∷ [] = cones_from_operands nodes k (Input v) arena (at_node k (Input v) is) ∙ ap (λ y. y ∷ []) same in
        let e1 : 1 + i ≡ suc i = omega arith in
        rw e1 (subst (λ a. Same names a (get_or (cones nodes) k [])) (sym left) (subst (λ u. Same names (get_or names x 0 ∷ []) u) (sym right) (λ y. (λ m. m, λ m. m))))

    cone_gate : (k : ℕ) (l r : Edge) (before : List (List ℕ)) → at h.table k ≡ Some (Gate l r) → Same names (get_or before (get_or h.numbers l.place 0) []) (get_or (cones nodes) l.place []) → Same names (get_or before (get_or h.numbers r.place 0) []) (get_or (cones nodes) r.place []) → Same names (circuit.gate_cone before (gate_for h.numbers (l, r))) (get_or (cones nodes) k [])
    cone_gate k l r before is left right =
        let a : get_or before (get_or h.numbers l.place 0) [] ≡ get_or before (edge_literal h.numbers l / 2) [] = ap (λ i. get_or before i []) (sym (half (get_or h.numbers l.place 0) l.negated)) in
        let b : get_or before (get_or h.numbers r.place 0) [] ≡ get_or before (edge_literal h.numbers r / 2) [] = ap (λ i. get_or before i []) (sym (half (get_or h.numbers r.place 0) r.negated)) in
        let e : get_or (cones nodes) k [] ≡ cone nodes l ++ cone nodes r = cones_from_operands nodes k (Gate l r) arena (at_node k (Gate l r) is) in
        let joined : Same names (get_or before (edge_literal h.numbers l / 2) [] ++ get_or before (edge_literal h.numbers r / 2) []) (cone nodes l ++ cone nodes r) =
        same_join names (get_or before (edge_literal h.numbers l / 2) []) (get_or before (edge_literal h.numbers r / 2) []) (cone nodes l) (cone nodes r) (subst (λ c. Same names c (cone nodes l)) a left) (subst (λ c. Same names c (cone nodes r)) b right) in
        subst (λ u. Same names (circuit.gate_cone before (gate_for h.numbers (l, r))) u) (sym e)
        (cone_ordered names before (edge_literal h.numbers l) (edge_literal h.numbers r) (cone nodes l ++ cone nodes r) (nat_lt (edge_literal h.numbers l) (edge_literal h.numbers r)) refl joined)

    cone_agrees : (k : ℕ) → k < length h.table → is_some (at h.table k) ≡ true → Same names (get_or (circuit.circuit_cones layout.inputs (map to_circuit layout.gates)) (get_or h.numbers k 0) []) (get_or (cones nodes) k [])
    cone_agrees k within some =
        subst (λ gs. Same names (get_or (circuit.circuit_cones layout.inputs gs) (get_or h.numbers k 0) []) (get_or (cones nodes) k [])) (sym gates_is)
        (agrees (Same names) circuit.gate_cone first_cones [] (cones nodes) [] (gate_for h.numbers) names layout.inputs h.table h.numbers h.numbering (omega (arith, length-map layout.inputs (λ y. y ∷ []))) kept cone_constant cone_input cone_gate k within some)

  -- the edge of an output is needed
  pub output_needed : (j : ℕ) (o : OutName × Edge) → All (λ p. p.1.place < length nodes) outputs → slice_get outputs j ≡ Some o → (o.1.place < length h.table) × (is_some (at h.table o.1.place) ≡ true)
  output_needed j o within at_j =
      let inside : j < length outputs = slice_get_within outputs j o at_j in
      let read : o ≡ get_or outputs j o = sym (get_or_from_slice_get outputs j o o at_j) in
      let place : o.1.place < length nodes = place_at outputs (length nodes) j o read inside within in (
        omega (arith, place, h.needed.lengths),
        (h.needed.needed o.1.place place).1 (λ has roots closed. subst (λ (e : Edge). has e.place ≡ true) (edge_at outputs j o read inside o.1) (roots j o.1 (omega (arith, inside, length-map outputs (λ p. p.1))))),
      )

  literal_is : (j : ℕ) (o : OutName × Edge) (l : OutName × ℕ) → slice_get outputs j ≡ Some o → slice_get layout.outputs j ≡ Some l → l.1 ≡ edge_literal h.numbers o.1
  literal_is j o l at_j laid = ap (λ (p : OutName × ℕ). p.1) (one_output l (o.0, edge_literal h.numbers o.1) (sym laid ∙ ap (λ ls. slice_get ls j) h.outputs_are ∙ slice_get-to_map (λ p. (p.0, edge_literal h.numbers p.1)) outputs j o at_j))

  output_cones : ConesFromOperands → All (λ p. p.1.place < length nodes) outputs → (j : ℕ) (o : OutName × Edge) (l : OutName × ℕ) (x : ℕ) → slice_get outputs j ≡ Some o → slice_get layout.outputs j ≡ Some l → (Contains (circuit.circuit_cone (circuit_of layout) l.1) x → Contains (map (λ k. get_or names k 0) (cone nodes o.1)) x) × (Contains (map (λ k. get_or names k 0) (cone nodes o.1)) x → Contains (circuit.circuit_cone (circuit_of layout) l.1) x)
  output_cones from_operands within j o l x at_j laid =
      let n = output_needed j o within at_j in
      let e : l.1 / 2 ≡ get_or h.numbers o.1.place 0 = ap (λ z. z / 2) (literal_is j o l at_j laid) ∙ half (get_or h.numbers o.1.place 0) o.1.negated in
      subst (λ i. Same names (get_or (circuit.circuit_cones layout.inputs (map to_circuit layout.gates)) i []) (cone nodes o.1)) (sym e) (cone_agrees from_operands o.1.place n.0 n.1) x

  constant_number : (k : ℕ) (n : Node) → at h.table k ≡ Some n → k ≡ 0 → get_or h.numbers k 0 ≡ 0
  constant_number k n is e =
      let there : slice_get nodes 0 ≡ Some n = ap (slice_get nodes) (sym e) ∙ at_node k n is in
      let constant : at h.table k ≡ Some Constant = is ∙ sym there ∙ arena.first in
      let within : k < length h.table = omega (arith, h.needed.lengths, slice_get_within nodes k n (at_node k n is)) in
      subst (λ o. IsNumber names layout.inputs (take k h.table) o (get_or h.numbers k 0)) constant (h.numbering.each k within)

  constant_literal : All (λ p. p.1.place < length nodes) outputs → (j : ℕ) (o : OutName × Edge) (l : OutName × ℕ) → slice_get outputs j ≡ Some o → slice_get layout.outputs j ≡ Some l → o.1.place ≡ 0 → l.1 ≡ cond o.1.negated 1 0
  constant_literal within j o l at_j laid e =
      let n = output_needed j o within at_j in
      let m = some_node (at h.table o.1.place) n.1 in
      literal_is j o l at_j laid ∙ omega (arith, constant_number o.1.place m.0 m.1 e)

  pub HasFunctions-layout : ValuesFromBits → ValuesFromOperands → ConesFromOperands → All (λ p. p.1.place < length nodes) outputs → HasFunctions nodes names outputs layout
  HasFunctions-layout values_from_bits values_from_operands cones_from_operands within = record {
    values = λ s j o l at_j laid.
        let n = output_needed j o within at_j in
        ap (circuit.circuit_value s (circuit_of layout)) (literal_is j o l at_j laid)
        ∙ value_literal (circuit.circuit_values s layout.inputs (map to_circuit layout.gates)) (values (dense_assignment names s) nodes) h.numbers o.1 (value_agrees values_from_bits values_from_operands s o.1.place n.0 n.1);
    cones = output_cones cones_from_operands within;
    used = AreUsed-layout nodes names outputs layout h (output_cones cones_from_operands within) cones_from_operands arena;
    constants = constant_literal within;
  }
