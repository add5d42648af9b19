-- What the variables of a circuit have, one after another, and what the circuit of a layout has at the nodes of the arena.
use Rattle.std.proofs.Common.{◌≡◌, ℕ, zero, suc, ◌+◌, ◌-◌, ◌<◌, ◌≤◌, true, false, List, [], ◌∷◌, ◌++◌, length, get_or, take, drop, map, Option, Some, None, slice_get, refl, sym, ap, ◌∙◌, subst, arith, length-append}
use Rattle.std.specs.Option.{is_some}
use Rattle.std.specs.List.{fold, filter_map, cons_option}
use Rattle.std.proofs.lemmas.List.{get_or_append_left, get_or_at, take-append-drop}
use Rattle.std.proofs.lemmas.List.Sums.{fold-append}
use Rattle.std.proofs.lemmas.List.Elements.{filter_map-append}
use Rattle.std.proofs.Math.Seq.{drop-cons}
use Rattle.std.proofs.lemmas.Option.{slice_get_within}
use Rattle.craig_spec.specs.Circuit as circuit
use Rattle.craig_spec.specs.Circuit.{each_variable}
use Rattle.craig_aig.specs.Edges.{Edge}
use Rattle.craig_aig.specs.declared.node.Node.{Node}
use Rattle.craig_aig.specs.declared.node.Node.TheVariants.{Constant, Input, Gate}
use Rattle.craig_aiger.specs.Layouts.{at, node_operands, node_variable, IsNumber, IsNumbering}
use Rattle.craig_aiger.proofs.TableLemmas.{filter_map-some, filter_map-more}

-- one gate more
abbrev step : {T : Type 0} → (List T → circuit.Gate → T) → List T → circuit.Gate → List T
step f before g = before ++ f before g ∷ []

length-steps : {T : Type 0} (f : List T → circuit.Gate → T) (before : List T) (gates : List circuit.Gate) → length (fold (step f) before gates) ≡ length before + length gates
length-steps f before [] = omega arith
length-steps f before (g ∷ gates) =
    let rest : length (fold (step f) (step f before g) gates) ≡ length (step f before g) + length gates = length-steps f (step f before g) gates in
    let one : length (step f before g) ≡ length before + length (f before g ∷ []) = length-append before (f before g ∷ []) in
    omega (arith, rest, one)

get_or-steps : {T : Type 0} (f : List T → circuit.Gate → T) (before : List T) (gates : List circuit.Gate) (i : ℕ) (d : T) → i < length before → get_or (fold (step f) before gates) i d ≡ get_or before i d
get_or-steps f before [] i d h = refl
get_or-steps f before (g ∷ gates) i d h =
    let one : length (step f before g) ≡ length before + length (f before g ∷ []) = length-append before (f before g ∷ []) in
    get_or-steps f (step f before g) gates i d (omega arith) ∙ get_or_append_left before (f before g ∷ []) d i h

-- what the constant and the inputs have
pub get_or-first : {T : Type 0} (f : List T → circuit.Gate → T) (first : List T) (gates : List circuit.Gate) (i : ℕ) (d : T) → i < length first → get_or (each_variable f first gates) i d ≡ get_or first i d
unfolding each_variable
get_or-first f first gates i d h = get_or-steps f first gates i d h

-- what the variables before a gate have
pub get_or-before : {T : Type 0} (f : List T → circuit.Gate → T) (first : List T) (front : List circuit.Gate) (g : circuit.Gate) (back : List circuit.Gate) (i : ℕ) (d : T) → i < length first + length front → get_or (each_variable f first (front ++ g ∷ back)) i d ≡ get_or (each_variable f first front) i d
unfolding each_variable
get_or-before f first front g back i d h =
    let within : i < length (fold (step f) first front) = omega (arith, length-steps f first front) in
    rw (fold-append (step f) first front (g ∷ back)) (get_or-steps f (fold (step f) first front) (g ∷ back) i d within)

-- what a gate has
pub get_or-gate : {T : Type 0} (f : List T → circuit.Gate → T) (first : List T) (front : List circuit.Gate) (g : circuit.Gate) (back : List circuit.Gate) (i : ℕ) (d : T) → i ≡ length first + length front → get_or (each_variable f first (front ++ g ∷ back)) i d ≡ f (each_variable f first front) g
unfolding each_variable
get_or-gate f first front g back i d is =
    let l : length (fold (step f) first front) ≡ i = length-steps f first front ∙ sym is in
    let one : length (step f (fold (step f) first front) g) ≡ length (fold (step f) first front) + length (f (fold (step f) first front) g ∷ []) = length-append (fold (step f) first front) (f (fold (step f) first front) g ∷ []) in
    rw (fold-append (step f) first front (g ∷ back)) (get_or-steps f (step f (fold (step f) first front) g) back i d (omega (arith, l, one)) ∙ get_or_at (fold (step f) first front) (f (fold (step f) first front) g) [] d i l)

-- the gates around the one at a place
pub gates_around : (table : List (Option Node)) (k : ℕ) (l r : Edge) → k < length table → at table k ≡ Some (Gate l r) → filter_map node_operands table ≡ filter_map node_operands (take k table) ++ (l, r) ∷ filter_map node_operands (drop (suc k) table)
gates_around table k l r within is =
    let whole : table ≡ take k table ++ at table k ∷ drop (suc k) table = sym (take-append-drop k table) ∙ ap (λ z. take k table ++ z) (drop-cons table k None within) in
    let named : table ≡ take k table ++ Some (Gate l r) ∷ drop (suc k) table = whole ∙ ap (λ o. take k table ++ o ∷ drop (suc k) table) is in
    ap (filter_map node_operands) named ∙ filter_map-append node_operands (take k table) (Some (Gate l r) ∷ drop (suc k) table)

length-map-gates : {G : Type 0} (g : (Edge × Edge) → G) (ps : List (Edge × Edge)) → length (map g ps) ≡ length ps
length-map-gates g [] = refl
length-map-gates g (p ∷ ps) = ap suc (length-map-gates g ps)

map-around : {G : Type 0} (g : (Edge × Edge) → G) (front back : List (Edge × Edge)) (p : Edge × Edge) → map g (front ++ p ∷ back) ≡ map g front ++ g p ∷ map g back
map-around g [] back p = refl
map-around g (q ∷ front) back p = ap (λ l. g q ∷ l) (map-around g front back p)

-- fewer nodes have no more gates
gates_grow : (table : List (Option Node)) (k d : ℕ) → k + d ≤ length table → length (filter_map node_operands (take k table)) ≤ length (filter_map node_operands (take (k + d) table))
gates_grow table k zero within = let e : k + zero ≡ k = omega arith in rw e (omega arith)
gates_grow table k (suc d) within =
    let e : k + suc d ≡ (k + d) + 1 = omega arith in
    let before : length (filter_map node_operands (take k table)) ≤ length (filter_map node_operands (take (k + d) table)) = gates_grow table k d (omega arith) in
    let more : length (filter_map node_operands (take ((k + d) + 1) table)) ≡ length (filter_map node_operands (take (k + d) table)) + length (cons_option (node_operands (get_or table (k + d) None)) []) = ap length (filter_map-more node_operands table (k + d) None (omega arith)) ∙ length-append (filter_map node_operands (take (k + d) table)) (cons_option (node_operands (get_or table (k + d) None)) []) in
    rw e (omega (arith, before, more))

pub gate_counts : (table : List (Option Node)) (j k : ℕ) (l r : Edge) → j < k → k ≤ length table → at table j ≡ Some (Gate l r) → length (filter_map node_operands (take j table)) < length (filter_map node_operands (take k table))
gate_counts table j k l r below within is =
    let e : (j + 1) + (k - (j + 1)) ≡ k = omega arith in
    let grown : length (filter_map node_operands (take (j + 1) table)) ≤ length (filter_map node_operands (take ((j + 1) + (k - (j + 1))) table)) = gates_grow table (j + 1) (k - (j + 1)) (omega (arith, e)) in
    let one : filter_map node_operands (take (j + 1) table) ≡ filter_map node_operands (take j table) ++ (l, r) ∷ [] = filter_map-some node_operands table j None (l, r) (omega arith) (ap node_operands is) in
    let n : length (filter_map node_operands (take (j + 1) table)) ≡ length (filter_map node_operands (take j table)) + length {A = Edge × Edge} ((l, r) ∷ []) = ap length one ∙ length-append (filter_map node_operands (take j table)) ((l, r) ∷ []) in
    let whole : length (filter_map node_operands (take (j + 1) table)) ≤ length (filter_map node_operands (take k table)) = rw e at grown in
    omega (arith, whole, n)

by_kind : (names inputs : List ℕ) (table : List (Option Node)) (m j k : ℕ) (n : Node) → IsNumber names inputs (take j table) (Some n) m → at table j ≡ Some n → j < k → k ≤ length table → m < 1 + length inputs + length (filter_map node_operands (take k table))
by_kind names inputs table m j k Constant own is below within = omega (arith, own)
by_kind names inputs table m j k (Input x) own is below within = omega (arith, own.1, slice_get_within inputs own.0 (get_or names x.0 0) own.2)
by_kind names inputs table m j k (Gate l r) own is below within = omega (arith, own, gate_counts table j k l r below within is)

-- a node before a place has a number below those of the gates from the place on
pub number_below : (names inputs : List ℕ) (table : List (Option Node)) (numbers : List ℕ) (j k : ℕ) (n : Node) → IsNumbering names inputs table numbers → at table j ≡ Some n → j < k → k ≤ length table → get_or numbers j 0 < 1 + length inputs + length (filter_map node_operands (take k table))
number_below names inputs table numbers j k n h is below within =
    let own : IsNumber names inputs (take j table) (Some n) (get_or numbers j 0) = subst (λ o. IsNumber names inputs (take j table) o (get_or numbers j 0)) is (h.each j (omega arith)) in
    by_kind names inputs table (get_or numbers j 0) j k n own is below within

pub no_node : false ≡ true → ⊥
no_node e = cc

pub some_node : (o : Option Node) → is_some o ≡ true → (n : Node) × (o ≡ Some n)
some_node None e = absurd (no_node e)
some_node (Some n) e = (n, refl)

-- where the circuit and the arena agree at the constant and at the inputs, and a gate agrees where its operands do, they agree at each node of the table
module _ {T U : Type 0} (R : T → U → Type 0) (f : List T → circuit.Gate → T) (first : List T) (d : T) (W : List U) (e : U) (g : (Edge × Edge) → circuit.Gate) (names inputs : List ℕ) (table : List (Option Node)) (numbers : List ℕ) (numbering : IsNumbering names inputs table numbers) (firsts : length first ≡ 1 + length inputs)
    (kept : (k : ℕ) (l r : Edge) → at table k ≡ Some (Gate l r) → (l.place < k) × (r.place < k) × (is_some (at table l.place) ≡ true) × (is_some (at table r.place) ≡ true))
    (constant : (k : ℕ) → at table k ≡ Some Constant → R (get_or first 0 d) (get_or W k e))
    (input : (k i x : ℕ) (n : Node) → at table k ≡ Some n → node_variable (Some n) ≡ Some x → slice_get inputs i ≡ Some (get_or names x 0) → x < length names → R (get_or first (1 + i) d) (get_or W k e))
    (gate : (k : ℕ) (l r : Edge) (before : List T) → at table k ≡ Some (Gate l r) → R (get_or before (get_or numbers l.place 0) d) (get_or W l.place e) → R (get_or before (get_or numbers r.place 0) d) (get_or W r.place e) → R (f before (g (l, r))) (get_or W k e)) where
  abbrev all : List T
  all = each_variable f first (map g (filter_map node_operands table))

  abbrev Agrees : ℕ → Type 0
  Agrees k = R (get_or all (get_or numbers k 0) d) (get_or W k e)

  some_below : (j k : ℕ) → is_some (at table j) ≡ true → j < k → k < length table → get_or numbers j 0 < 1 + length inputs + length (filter_map node_operands (take k table))
  some_below j k some below within = let n = some_node (at table j) some in number_below names inputs table numbers j k n.0 numbering n.1 below (omega arith)

  -- a gate, where the nodes before it agree
  at_gate : (k : ℕ) (l r : Edge) → at table k ≡ Some (Gate l r) → k < length table → Agrees l.place → Agrees r.place → get_or numbers k 0 ≡ 1 + length inputs + length (filter_map node_operands (take k table)) → Agrees k
  at_gate k l r is within left right own =
      let front : List circuit.Gate = map g (filter_map node_operands (take k table)) in
      let back : List circuit.Gate = map g (filter_map node_operands (drop (suc k) table)) in
      let whole : map g (filter_map node_operands table) ≡ front ++ g (l, r) ∷ back = ap (map g) (gates_around table k l r within is) ∙ map-around g (filter_map node_operands (take k table)) (filter_map node_operands (drop (suc k) table)) (l, r) in
      let count : length front ≡ length (filter_map node_operands (take k table)) = length-map-gates g (filter_map node_operands (take k table)) in
      let before : List T = each_variable f first front in
      let below = kept k l r is in
      let all_is : all ≡ each_variable f first (front ++ g (l, r) ∷ back) = ap (each_variable f first) whole in
      let l_before : get_or all (get_or numbers l.place 0) d ≡ get_or before (get_or numbers l.place 0) d =
      ap (λ v. get_or v (get_or numbers l.place 0) d) all_is ∙ get_or-before f first front (g (l, r)) back (get_or numbers l.place 0) d (omega (arith, firsts, count, some_below l.place k below.2 below.0 within)) in
      let r_before : get_or all (get_or numbers r.place 0) d ≡ get_or before (get_or numbers r.place 0) d =
      ap (λ v. get_or v (get_or numbers r.place 0) d) all_is ∙ get_or-before f first front (g (l, r)) back (get_or numbers r.place 0) d (omega (arith, firsts, count, some_below r.place k below.3 below.1 within)) in
      let here : get_or all (get_or numbers k 0) d ≡ f before (g (l, r)) = ap (λ v. get_or v (get_or numbers k 0) d) all_is ∙ get_or-gate f first front (g (l, r)) back (get_or numbers k 0) d (omega (arith, firsts, count, own)) in
      subst (λ v. R v (get_or W k e)) (sym here)
      (gate k l r before is (subst (λ v. R v (get_or W l.place e)) l_before left) (subst (λ v. R v (get_or W r.place e)) r_before right))

  at_first : (k i : ℕ) → get_or numbers k 0 ≡ i → i < length first → R (get_or first i d) (get_or W k e) → Agrees k
  at_first k i is within h = subst (λ v. R v (get_or W k e)) (sym (ap (λ j. get_or all j d) is ∙ get_or-first f first (map g (filter_map node_operands table)) i d within)) h

  by_node : (k : ℕ) (n : Node) → at table k ≡ Some n → k < length table → IsNumber names inputs (take k table) (Some n) (get_or numbers k 0) → ((j : ℕ) → j < k → is_some (at table j) ≡ true → Agrees j) → Agrees k
  by_node k Constant is within own below = at_first k 0 own (omega (arith, firsts)) (constant k is)
  by_node k (Input x) is within own below = at_first k (1 + own.0) own.1 (omega (arith, firsts, slice_get_within inputs own.0 (get_or names x.0 0) own.2)) (input k own.0 x.0 (Input x) is refl own.2 own.3)
  by_node k (Gate l r) is within own below =
      let operands = kept k l r is in
      at_gate k l r is within (below l.place operands.0 operands.2) (below r.place operands.1 operands.3) own

  from_node : (k : ℕ) (o : Option Node) → at table k ≡ o → k < length table → is_some o ≡ true → ((j : ℕ) → j < k → is_some (at table j) ≡ true → Agrees j) → Agrees k
  from_node k None is within some below = absurd (no_node some)
  from_node k (Some n) is within some below = by_node k n is within (subst (λ o. IsNumber names inputs (take k table) o (get_or numbers k 0)) is (numbering.each k within)) below

  up_to : (bound k : ℕ) → k < bound → k < length table → is_some (at table k) ≡ true → Agrees k
  up_to zero k h within some = absurd (omega arith)
  up_to (suc bound) k h within some = from_node k (at table k) refl within some (λ j below some_j. up_to bound j (omega arith) (omega arith) some_j)

  pub agrees : (k : ℕ) → k < length table → is_some (at table k) ≡ true → Agrees k
  agrees k within some = up_to (suc k) k (omega arith) within some
