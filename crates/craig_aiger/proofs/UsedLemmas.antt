-- Each input of a layout is in the cone of an output.
use Rattle.std.proofs.Common.{◌≡◌, ℕ, zero, suc, ◌<◌, Bool, true, eqb, eqb-true, eq-eqb, List, [], ◌∷◌, ◌++◌, length, get_or, map, Contains, Option, Some, None, slice_get, refl, sym, ap, ◌∙◌, subst, arith}
use Rattle.craig_spec.proofs.MemberLemmas.{Contains-image}
use Rattle.std.proofs.lemmas.Bool.{and_parts}
use Rattle.std.specs.List.{cons_option, filter_map, list_all, list_any}
use Rattle.std.specs.Option.{is_some}
use Rattle.std.proofs.Math.ListN.{get_or-map}
use Rattle.std.proofs.lemmas.List.{get_or_default, length-map}
use Rattle.std.proofs.lemmas.List.Folds.{Any-from_list_any, list_all-append, list_any_at}
use Rattle.std.proofs.lemmas.Option.{slice_get_within, slice_get-get_or}
use Rattle.craig_spec.specs.Circuit as circuit
use Rattle.craig_aig.specs.Arenas.{IsAig}
use Rattle.craig_aig.specs.Cones.{cone}
use Rattle.craig_aig.specs.Edges.{Edge, plain_edge}
use Rattle.craig_aig.specs.Operands.{ConesFromOperands}
use Rattle.craig_aig.specs.declared.node.Node.{Node}
use Rattle.craig_aig.specs.declared.node.Node.TheVariants.{Input, Gate}
use Rattle.craig_base.specs.declared.variable.Var.{Var}
use Rattle.craig_aiger.specs.declared.out_name.OutName.{OutName}
use Rattle.craig_aiger.specs.Layouts.{AreNeeded, IsLayout, Layout, at, circuit_of, edges_of, node_variable, edge_literal}
use Rattle.craig_aiger.proofs.NeededLemmas.{is_some_at}
use Rattle.craig_aiger.proofs.NamedLemmas.{input_is}
use Rattle.craig_spec.proofs.MemberLemmas.{slice_get-to_map}

-- whether the variable is in the cone of one of the edges
abbrev reached : List Node → List Edge → ℕ → Bool
reached nodes edges x = list_any (λ e. list_any (eqb x) (cone nodes e)) edges

all_where : (p : ℕ → Bool) (xs : List ℕ) → ((x : ℕ) → Contains xs x → p x ≡ true) → list_all p xs ≡ true
all_where p [] h = refl
all_where p (x ∷ xs) h = let here : p x ≡ true = h x (0, omega arith, refl) in rw here (all_where p xs (λ y m. h y (suc m.0, omega (arith, m.1), m.2)))

-- what an edge reaches is reached
edge_reached : (nodes : List Node) (edges : List Edge) (j : ℕ) (d : Edge) → j < length edges → list_all (reached nodes edges) (cone nodes (get_or edges j d)) ≡ true
edge_reached nodes edges j d within =
    all_where (reached nodes edges) (cone nodes (get_or edges j d)) (λ x m.
    list_any_at (λ e. list_any (eqb x) (cone nodes e)) edges j d within (list_any_at (eqb x) (cone nodes (get_or edges j d)) m.0 x m.1 (eq-eqb x (get_or (cone nodes (get_or edges j d)) m.0 x) (sym m.2))))

-- and so is what needed nodes reach
needed_reached : ConesFromOperands → (nodes : List Node) (edges : List Edge) (table : List (Option Node)) (k : ℕ) → IsAig nodes → AreNeeded nodes edges table → is_some (at table k) ≡ true → k < length nodes → list_all (reached nodes edges) (cone nodes (plain_edge k)) ≡ true
needed_reached from_operands nodes edges table k arena h some within =
    (h.needed k within).0 some (λ p. list_all (reached nodes edges) (cone nodes (plain_edge p))) (λ j d inside. edge_reached nodes edges j d inside)
    (λ p l r is all.
    let e : cone nodes (plain_edge p) ≡ cone nodes l ++ cone nodes r = from_operands nodes p (Gate l r) arena is in
    and_parts (list_all (reached nodes edges) (cone nodes l)) (list_all (reached nodes edges) (cone nodes r)) (sym (list_all-append (reached nodes edges) (cone nodes l) (cone nodes r)) ∙ (rw e at all)))

-- the place in the table of one that it gives
pub record Given (table : List (Option Node)) (v : ℕ) : Type 0 where
  pub place : ℕ
  pub within : place < length table
  pub gives : node_variable (at table place) ≡ Some v

given_later : (o : Option Node) (table : List (Option Node)) (v : ℕ) → Given table v → Given (o ∷ table) v
given_later o table v g = record { place = suc g.place; within = omega (arith, g.within); gives = g.gives }

given_by : (o : Option Node) (table : List (Option Node)) (v : ℕ) (i : Option ℕ) → node_variable o ≡ i → Contains (cons_option i (filter_map node_variable table)) v → (Contains (filter_map node_variable table) v → Given table v) → Given (o ∷ table) v
given_by o table v None e m rest = given_later o table v (rest m)
given_by o table v (Some x) e (zero, within, is) rest = record { place = 0; within = omega arith; gives = e ∙ ap Some is }
given_by o table v (Some x) e (suc k, within, is) rest = given_later o table v (rest (k, omega arith, is))

pub given : (table : List (Option Node)) (v : ℕ) → Contains (filter_map node_variable table) v → Given table v
given [] v m = absurd (omega (arith, m.1))
given (o ∷ table) v m = given_by o table v (node_variable o) refl m (given table v)

pub member_of_map : {X Y : Type 0} (f : X → Y) (xs : List X) (y : Y) → Contains (map f xs) y → (x : X) × Contains xs x × (f x ≡ y)
member_of_map f [] y (k, within, is) = absurd (omega arith)
member_of_map f (x ∷ xs) y (zero, within, is) = (x, (0, omega arith, refl), is)
member_of_map f (x ∷ xs) y (suc k, within, is) =
    let m = member_of_map f xs y (k, omega arith, is) in
    (m.0, (suc m.1.0, omega (arith, m.1.1), m.1.2), m.2)

-- an edge that reaches the variable
record Reaching (nodes : List Node) (outputs : List (OutName × Edge)) (v : ℕ) : Type 0 where
  place : ℕ
  output : OutName × Edge
  there : slice_get outputs place ≡ Some output
  has_it : Contains (cone nodes output.1) v

member : (xs : List ℕ) (v : ℕ) → list_any (eqb v) xs ≡ true → Contains xs v
member xs v e =
    let a = Any-from_list_any (eqb v) xs e in
    let same : v ≡ a.1 = eqb-true v a.1 a.4 in
    (a.0, a.2, get_or_default xs a.0 v a.1 a.2 ∙ a.3 ∙ sym same)

reaching : (nodes : List Node) (outputs : List (OutName × Edge)) (v : ℕ) → reached nodes (edges_of outputs) v ≡ true → Reaching nodes outputs v
reaching nodes outputs v e =
    let a = Any-from_list_any (λ (edge : Edge). list_any (eqb v) (cone nodes edge)) (edges_of outputs) e in
    let inside : a.0 < length outputs = omega (arith, a.2, length-map outputs (λ o. o.1)) in
    let d : OutName × Edge = (record { family = None; cut = 0 }, a.1) in
    let is : (get_or outputs a.0 d).1 ≡ a.1 = sym (get_or-map (λ (o : OutName × Edge). o.1) outputs a.0 d) ∙ a.3 in
    record {
      place = a.0;
      output = get_or outputs a.0 d;
      there = slice_get-get_or outputs a.0 d inside;
      has_it = subst (λ (edge : Edge). Contains (cone nodes edge) v) (sym is) (member (cone nodes a.1) v a.4);
    }

module _ (nodes : List Node) (names : List ℕ) (outputs : List (OutName × Edge)) (layout : Layout) (h : IsLayout nodes names outputs layout)
    (same_cones : (j : ℕ) (o : OutName × Edge) (l : OutName × ℕ) (x : ℕ) → slice_get outputs j ≡ Some o → slice_get layout.outputs j ≡ Some l → (Contains (circuit.circuit_cone (circuit_of layout) l.1) x → Contains (map (λ k. get_or names k 0) (cone nodes o.1)) x) × (Contains (map (λ k. get_or names k 0) (cone nodes o.1)) x → Contains (circuit.circuit_cone (circuit_of layout) l.1) x)) where
  -- an output whose edge reaches the variable
  used_from : (x v : ℕ) → get_or names v 0 ≡ x → Reaching nodes outputs v → (j : ℕ) × (l : OutName × ℕ) × (slice_get layout.outputs j ≡ Some l) × Contains (circuit.circuit_cone (circuit_of layout) l.1) x
  used_from x v named r =
      let l : OutName × ℕ = (r.output.0, edge_literal h.numbers r.output.1) in
      let laid : slice_get layout.outputs r.place ≡ Some l = ap (λ ls. slice_get ls r.place) h.outputs_are ∙ slice_get-to_map (λ (p : OutName × Edge). (p.0, edge_literal h.numbers p.1)) outputs r.place r.output r.there in
      (r.place, l, laid, (same_cones r.place r.output l x r.there laid).1 (subst (Contains (map (λ k. get_or names k 0) (cone nodes r.output.1))) named (Contains-image (λ k. get_or names k 0) (cone nodes r.output.1) v r.has_it)))

  -- a needed input is reached
  input_reached : ConesFromOperands → (v : ℕ) → IsAig nodes → (g : Given h.table v) → (n : (x : Var) × (at h.table g.place ≡ Some (Input x)) × (x.0 ≡ v)) → reached nodes (edges_of outputs) v ≡ true
  input_reached from_operands v arena g n =
      let there : slice_get nodes g.place ≡ Some (Input n.0) = h.needed.nodes_are g.place (Input n.0) n.1 in
      let all : list_all (reached nodes (edges_of outputs)) (cone nodes (plain_edge g.place)) ≡ true =
      needed_reached from_operands nodes (edges_of outputs) h.table g.place arena h.needed (is_some_at (at h.table g.place) (Input n.0) n.1) (slice_get_within nodes g.place (Input n.0) there) in
      let c : cone nodes (plain_edge g.place) ≡ v ∷ [] = from_operands nodes g.place (Input n.0) arena there ∙ ap (λ k. k ∷ []) n.2 in
      (and_parts (reached nodes (edges_of outputs) v) true (rw c at all)).0

  pub AreUsed-layout : ConesFromOperands → IsAig nodes → (x : ℕ) → Contains layout.inputs x → (j : ℕ) × (l : OutName × ℕ) × (slice_get layout.outputs j ≡ Some l) × Contains (circuit.circuit_cone (circuit_of layout) l.1) x
  AreUsed-layout from_operands arena x here =
      let m = member_of_map (λ k. get_or names k 0) (filter_map node_variable h.table) x ((h.inputs_are x).0 here) in
      let g : Given h.table m.0 = given h.table m.0 m.1 in
      used_from x m.0 m.2 (reaching nodes outputs m.0 (input_reached from_operands m.0 arena g (input_is (at h.table g.place) m.0 g.gives)))
