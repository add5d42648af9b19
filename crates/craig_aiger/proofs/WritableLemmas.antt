-- A layout of cones is one that can be written.
use Rattle.std.proofs.Common.{◌≡◌, ℕ, zero, suc, ◌+◌, ◌*◌, ◌^◌, ◌<◌, ◌≤◌, Bool, true, false, nat_lt, List, [], ◌∷◌, length, get_or, take, map, Option, Some, None, All, Contains, slice_get, refl, sym, ap, ◌∙◌, subst, arith}
use Rattle.std.specs.Option.{is_some}
use Rattle.std.specs.List.{filter_map, cons_option}
use Rattle.std.specs.List.Sorted.{IsStrictlyIncreasing}
use Rattle.std.proofs.lemmas.Bool.Decides.{nat_tests}
use Rattle.std.proofs.lemmas.List.{length-map, take_all}
use Rattle.std.proofs.lemmas.Option.{slice_get_within, slice_get-get_or}
use Rattle.craig_spec.specs.Circuit.{IsStrict}
use Rattle.craig_aig.specs.Arenas.{IsAig}
use Rattle.craig_aig.specs.Edges.{Edge}
use Rattle.craig_aig.specs.declared.node.Node.{Node}
use Rattle.craig_aig.specs.declared.node.Node.TheVariants.{Gate}
use Rattle.craig_aiger.specs.declared.out_name.OutName.{OutName}
use Rattle.craig_aiger.specs.Layouts.{Layout, circuit_of, at, edges_of, node_variable, node_operands, gate_literals, ordered, edge_literal, AreNeeded, IsLayout, IsNumbering, IsWritable}
use Rattle.craig_aiger.proofs.NeededLemmas.{gate_read}
use Rattle.craig_aiger.proofs.CircuitLemmas.{number_below, some_node}
use Rattle.craig_aiger.proofs.FunctionLemmas.{kept, output_needed}

-- a layout that is put together from its parts, which are read as slices
pub IsLayout-made : (nodes : List Node) (names : List ℕ) (outputs : List (OutName × Edge)) (table t : List (Option Node)) (inputs i numbers n : List ℕ) (gates : List (ℕ × ℕ)) (laid : List (OutName × ℕ)) → t ≡ table → i ≡ inputs → n ≡ numbers → AreNeeded nodes (edges_of outputs) table → IsNumbering names i t numbers → IsStrictlyIncreasing inputs →
    ((x : ℕ) → (Contains inputs x → Contains (map (λ k. get_or names k 0) (filter_map node_variable t)) x) × (Contains (map (λ k. get_or names k 0) (filter_map node_variable t)) x → Contains inputs x)) →
    gates ≡ map (gate_literals n) (filter_map node_operands t) → laid ≡ map (λ o. (o.0, edge_literal n o.1)) outputs → IsLayout nodes names outputs (record { inputs = inputs; gates = gates; outputs = laid })
IsLayout-made nodes names outputs table t inputs i numbers n gates laid table_is inputs_is numbers_is needed numbering rising inputs_are gates_are outputs_are = record {
  table = table;
  numbers = numbers;
  needed = needed;
  numbering = subst (λ u. IsNumbering names inputs u numbers) table_is (subst (λ u. IsNumbering names u t numbers) inputs_is numbering);
  rising = rising;
  inputs_are = subst (λ (u : List (Option Node)). (x : ℕ) → (Contains inputs x → Contains (map (λ k. get_or names k 0) (filter_map node_variable u)) x) × (Contains (map (λ k. get_or names k 0) (filter_map node_variable u)) x → Contains inputs x)) table_is inputs_are;
  gates_are = gates_are ∙ ap (λ u. map (gate_literals u) (filter_map node_operands t)) numbers_is ∙ ap (λ u. map (gate_literals numbers) (filter_map node_operands u)) table_is;
  outputs_are = outputs_are ∙ ap (λ u. map (λ o. (o.0, edge_literal u o.1)) outputs) numbers_is;
}

one_or_none : {Y : Type 0} (o : Option Y) (rest : List Y) → length (cons_option o rest) ≤ suc (length rest)
one_or_none None rest = omega arith
one_or_none (Some y) rest = omega arith

length-filter_map-le : {X Y : Type 0} (h : X → Option Y) (xs : List X) → length (filter_map h xs) ≤ length xs
length-filter_map-le h [] = omega arith
length-filter_map-le h (x ∷ xs) = omega (arith, one_or_none (h x) (filter_map h xs), length-filter_map-le h xs)

-- where the j-th of what the list gives comes from
pub record From {X Y : Type 0} (h : X → Option Y) (xs : List X) (j : ℕ) (y : Y) (d : X) : Type 0 where
  pub place : ℕ
  pub within : place < length xs
  pub gives : h (get_or xs place d) ≡ Some y
  pub before : length (filter_map h (take place xs)) ≡ j

later : {X Y : Type 0} (h : X → Option Y) (x : X) (xs : List X) (j k : ℕ) (y : Y) (d : X) (o : Option Y) → h x ≡ o → From h xs j y d → k ≡ length (cons_option o []) + j → From h (x ∷ xs) k y d
later h x xs j k y d None e f is = record {
  place = suc f.place;
  within = omega (arith, f.within);
  gives = f.gives;
  before = rw e (omega (arith, f.before, is));
}
later h x xs j k y d (Some z) e f is = record {
  place = suc f.place;
  within = omega (arith, f.within);
  gives = f.gives;
  before = rw e (omega (arith, f.before, is));
}

from_either : {X Y : Type 0} (h : X → Option Y) (x : X) (xs : List X) (j : ℕ) (y : Y) (d : X) (o : Option Y) → h x ≡ o → ((i : ℕ) → slice_get (filter_map h xs) i ≡ Some y → From h xs i y d) → slice_get (cons_option o (filter_map h xs)) j ≡ Some y → From h (x ∷ xs) j y d
from_either h x xs j y d None e rest is = later h x xs j j y d None e (rest j is) (omega arith)
from_either h x xs zero y d (Some z) e rest is = record { place = 0; within = omega arith; gives = e ∙ is; before = refl }
from_either h x xs (suc j) y d (Some z) e rest is = later h x xs j (suc j) y d (Some z) e (rest j is) (omega arith)

pub from : {X Y : Type 0} (h : X → Option Y) (xs : List X) (j : ℕ) (y : Y) (d : X) → slice_get (filter_map h xs) j ≡ Some y → From h xs j y d
from {X} {Y} h [] j y d e = absurd (let within : j < length {A = Y} [] = slice_get_within [] j y e in omega (arith, within))
from h (x ∷ xs) j y d e = from_either h x xs j y d (h x) refl (λ i. from h xs i y d) e

-- the element of a mapped list
pub mapped : {X Y : Type 0} (f : X → Y) (xs : List X) (j : ℕ) (y : Y) → slice_get (map f xs) j ≡ Some y → (x : X) × (slice_get xs j ≡ Some x) × (y ≡ f x)
mapped {X} {Y} f [] j y e = absurd (let within : j < length {A = Y} [] = slice_get_within [] j y e in omega (arith, within))
mapped f (x ∷ xs) zero y e = (x, refl, cc)
mapped f (x ∷ xs) (suc j) y e = mapped f xs j y e

-- the greater of two literals first
ordered_bounds : (a b bound : ℕ) (t : Bool) → nat_lt a b ≡ t → a < bound → b < bound → ((ordered a b).1 ≤ (ordered a b).0) × ((ordered a b).0 < bound)
ordered_bounds a b bound true e p q = rw e (let h : a < b = grind (arith, nat_tests, e) in (omega (arith, h), q))
ordered_bounds a b bound false e p q = rw e (let h : b ≤ a = grind (arith, nat_tests, e) in (omega (arith, h), p))

literal_below : (numbers : List ℕ) (e : Edge) (sign : Bool) (bound : ℕ) → e.negated ≡ sign → get_or numbers e.place 0 < bound → edge_literal numbers e < 2 * bound
literal_below numbers e true bound is h = rw is (omega (arith, h))
literal_below numbers e false bound is h = rw is (omega (arith, h))

module _ (nodes : List Node) (names : List ℕ) (outputs : List (OutName × Edge)) (layout : Layout) (arena : IsAig nodes) (h : IsLayout nodes names outputs layout) where
  -- a literal of a needed node before a place
  literal_before : (e : Edge) (k : ℕ) → is_some (at h.table e.place) ≡ true → e.place < k → k ≤ length h.table → edge_literal h.numbers e < 2 * (1 + length layout.inputs + length (filter_map node_operands (take k h.table)))
  literal_before e k some below within =
      let n = some_node (at h.table e.place) some in
      literal_below h.numbers e e.negated (1 + length layout.inputs + length (filter_map node_operands (take k h.table))) refl
      (number_below names layout.inputs h.table h.numbers e.place k n.0 h.numbering n.1 below within)

  -- a gate has the greater operand first, and below its own literal
  pub operands_bound : (j : ℕ) (g : ℕ × ℕ) → slice_get layout.gates j ≡ Some g → (g.1 ≤ g.0) × (g.0 < 2 * (1 + length layout.inputs + j))
  operands_bound j g is =
      let at_map : slice_get (map (gate_literals h.numbers) (filter_map node_operands h.table)) j ≡ Some g = sym (ap (λ gs. slice_get gs j) h.gates_are) ∙ is in
      let p = mapped (gate_literals h.numbers) (filter_map node_operands h.table) j g at_map in
      let f = from node_operands h.table j p.0 None p.1 in
      let there : at h.table f.place ≡ Some (Gate p.0.0 p.0.1) = gate_read h.table f.place None p.0.0 p.0.1 f.within f.gives in
      let k = kept nodes names outputs layout arena h f.place p.0.0 p.0.1 there in
      let left : edge_literal h.numbers p.0.0 < 2 * (1 + length layout.inputs + j) = omega (arith, f.before, literal_before p.0.0 f.place k.2 k.0 (omega (arith, f.within))) in
      let right : edge_literal h.numbers p.0.1 < 2 * (1 + length layout.inputs + j) = omega (arith, f.before, literal_before p.0.1 f.place k.3 k.1 (omega (arith, f.within))) in
      let bounds = ordered_bounds (edge_literal h.numbers p.0.0) (edge_literal h.numbers p.0.1) (2 * (1 + length layout.inputs + j)) (nat_lt (edge_literal h.numbers p.0.0) (edge_literal h.numbers p.0.1)) refl left right in
      rw p.2 bounds

  gate_count : length layout.gates ≡ length (filter_map node_operands (take (length h.table) h.table))
  gate_count = ap length h.gates_are ∙ length-map (filter_map node_operands h.table) (gate_literals h.numbers) ∙ ap (λ t. length (filter_map node_operands t)) (sym (take_all (length h.table) h.table (omega arith)))

  output_count : length layout.outputs ≡ length outputs
  output_count = ap length h.outputs_are ∙ length-map outputs (λ o. (o.0, edge_literal h.numbers o.1))

  output_bound : All (λ p. p.1.place < length nodes) outputs → (j : ℕ) (o : OutName × ℕ) → slice_get layout.outputs j ≡ Some o → o.1 < 2 * (1 + length layout.inputs + length layout.gates)
  output_bound within j o is =
      let at_map : slice_get (map (λ (p : OutName × Edge). (p.0, edge_literal h.numbers p.1)) outputs) j ≡ Some o = sym (ap (λ os. slice_get os j) h.outputs_are) ∙ is in
      let p = mapped (λ (p : OutName × Edge). (p.0, edge_literal h.numbers p.1)) outputs j o at_map in
      let n = output_needed nodes names outputs layout arena h j p.0 within p.1 in
      let bound : edge_literal h.numbers p.0.1 < 2 * (1 + length layout.inputs + length layout.gates) = omega (arith, gate_count, literal_before p.0.1 (length h.table) n.1 n.0 (omega arith)) in
      rw p.2 bound

  pub IsWritable-layout : All (λ p. p.1.place < length nodes) outputs → length nodes ≤ 2 ^ 40 → length outputs ≤ 2 ^ 40 → length layout.inputs ≤ length nodes → All (λ x. (1 ≤ x) × (x ≤ 2147483647)) layout.inputs → All (λ o. o.0.cut < 2 ^ 32) layout.outputs → IsStrict (circuit_of layout) → IsWritable layout
  IsWritable-layout within few_nodes few_outputs few_inputs variables cuts strict = record {
    few_inputs = omega (arith, h.needed.lengths);
    few_gates = omega (arith, h.needed.lengths, gate_count, take_all (length h.table) h.table, length-filter_map-le node_operands (take (length h.table) h.table), ap length (take_all (length h.table) h.table (omega arith)));
    few_outputs = omega (arith, output_count);
    variables = variables;
    cuts = cuts;
    operands = operands_bound;
    literals = λ j d inside. output_bound within j (get_or layout.outputs j d) (slice_get-get_or layout.outputs j d inside);
    strict = strict;
  }
