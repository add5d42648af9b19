-- The pass that keeps the needed nodes.
use Rattle.std.proofs.Common.{◌≡◌, ◌⊎◌, inl, inr, ℕ, ◌+◌, ◌<◌, ◌≤◌, Bool, true, false, cond, eqb, eqb-true, eq-eqb, List, length, get_or, set, All, Option, Some, None, slice_get, refl, sym, ap, ◌∙◌, subst, arith}
use native.Mathlib.Decide.{dec_lt}
use Rattle.std.specs.Option.{is_some}
use Rattle.std.proofs.lemmas.Bool.{eqb-false}
use Rattle.std.proofs.lemmas.List.{get_or_past, get_or_default, get_or-set_other, get_or-set_same, length-map}
use Rattle.std.proofs.Math.ListN.{get_or-map}
use Rattle.craig_aiger.specs.declared.out_name.OutName.{OutName}
use Rattle.std.proofs.lemmas.Option.{slice_get-get_or, slice_get_within, get_or_from_slice_get}
use Rattle.craig_aig.specs.Edges.{Edge}
use Rattle.craig_aig.specs.Arenas.{IsAig, AreOperands, IsPlaced}
use Rattle.craig_aig.specs.declared.node.Node.{Node}
use Rattle.craig_aig.specs.declared.node.Node.TheVariants.{Constant, Input, Gate}
use Rattle.craig_aiger.specs.Layouts.{at, node_operands, OperandsBelow, edges_of, HasOperandNodes, IsInCones, IsRooted, AreNeeded}

-- the table has one node more
abbrev pub IsKept : List Node → List (Option Node) → List (Option Node) → ℕ → Type 0
IsKept nodes old new p = (k : ℕ) → at new k ≡ cond (eqb k p) (slice_get nodes p) (at old k)

set_case : (table : List (Option Node)) (p k : ℕ) (v : Option Node) (t : Bool) → eqb k p ≡ t → p < length table → at (set table p v) k ≡ cond t v (at table k)
set_case table p k v true e within = ap (at (set table p v)) (eqb-true k p e) ∙ get_or-set_same table p v None within
set_case table p k v false e within = get_or-set_other table p k v None (eqb-false k p e)

-- where the node is set
pub kept-set : (nodes : List Node) (old : List (Option Node)) (q p : ℕ) (n : Node) → q ≡ p → slice_get nodes p ≡ Some n → length old ≡ length nodes → p < length nodes → IsKept nodes old (set old q (Some n)) p
kept-set nodes old q p n place node long within k =
    rw (place, node) (set_case old p k (Some n) (eqb k p) refl (omega (arith, long, within)))

kept_case : (k p : ℕ) (a b c : Option Node) (t : Bool) → eqb k p ≡ t → a ≡ cond t b c → ((k ≡ p) × (a ≡ b)) ⊎ (a ≡ c)
kept_case k p a b c true e h = inl (eqb-true k p e, h)
kept_case k p a b c false e h = inr h

some_at : (nodes : List Node) (p : ℕ) → p < length nodes → is_some (slice_get nodes p) ≡ true
some_at nodes p within = rw (slice_get-get_or nodes p Constant within) refl

module _ (nodes : List Node) (edges : List Edge) (old new : List (Option Node)) (p : ℕ) (within : p < length nodes) (kept : IsKept nodes old new p) where
  pub kept_here : is_some (at new p) ≡ true
  kept_here =
      let e : at new p ≡ slice_get nodes p = kept p ∙ ap (λ b. cond b (slice_get nodes p) (at old p)) (eq-eqb p p refl) in
      rw e (some_at nodes p within)

  pub kept_stays : (k : ℕ) → is_some (at old k) ≡ true → is_some (at new k) ≡ true
  kept_stays k h =
      elim (kept_case k p (at new k) (slice_get nodes p) (at old k) (eqb k p) refl (kept k)) [
        | inl same ↦ rw (same.1) (some_at nodes p within)
        | inr is ↦ rw is h
      ]

  pub kept_nodes : ((k : ℕ) (n : Node) → at old k ≡ Some n → slice_get nodes k ≡ Some n) → (k : ℕ) (n : Node) → at new k ≡ Some n → slice_get nodes k ≡ Some n
  kept_nodes before k n h =
      elim (kept_case k p (at new k) (slice_get nodes p) (at old k) (eqb k p) refl (kept k)) [
        | inl same ↦ ap (slice_get nodes) same.0 ∙ sym same.1 ∙ h
        | inr is ↦ before k n (sym is ∙ h)
      ]

  pub kept_needed : IsInCones nodes edges p → ((k : ℕ) → is_some (at old k) ≡ true → IsInCones nodes edges k) → (k : ℕ) → is_some (at new k) ≡ true → IsInCones nodes edges k
  kept_needed here before k h =
      elim (kept_case k p (at new k) (slice_get nodes p) (at old k) (eqb k p) refl (kept k)) [
        | inl same ↦ rw same.0 here
        | inr is ↦ before k (rw is at h)
      ]

-- the first edges have their nodes in the table
pub record RootedTo (nodes : List Node) (edges : List Edge) (table : List (Option Node)) (i : ℕ) : Type 0 where
  pub lengths : length table ≡ length nodes
  pub nodes_are : (k : ℕ) (n : Node) → at table k ≡ Some n → slice_get nodes k ≡ Some n
  pub rooted : (j : ℕ) (d : Edge) → j < i → j < length edges → is_some (at table (get_or edges j d).place) ≡ true
  pub needed : (k : ℕ) → is_some (at table k) ≡ true → IsInCones nodes edges k

none_some : (o : Option Node) (n : Node) → o ≡ None → o ≡ Some n → ⊥
none_some o n e h = cc

none_is_some : (o : Option Node) → o ≡ None → is_some o ≡ true → ⊥
none_is_some None e h = cc
none_is_some (Some n) e h = cc

pub RootedTo-first : (nodes : List Node) (edges : List Edge) (table : List (Option Node)) → length table ≡ length nodes → ((k : ℕ) → at table k ≡ None) → RootedTo nodes edges table 0
RootedTo-first nodes edges table lengths none = record {
  lengths = lengths;
  nodes_are = λ k n h. absurd (none_some (at table k) n (none k) h);
  rooted = λ j d h _. absurd (omega arith);
  needed = λ k h. absurd (none_is_some (at table k) (none k) h);
}

-- before the next place is at this one or before it
pub before_or_at : (j i : ℕ) → j < i + 1 → (j ≡ i) ⊎ (j < i)
before_or_at j i h = elim (dec_lt j i) [ Prim.yes lt ↦ inr lt | Prim.no not_below ↦ inl (let not_lt : j < i → ⊥ = not_below in omega arith) ]

pub RootedTo-more : (nodes : List Node) (edges : List Edge) (old new : List (Option Node)) (i next : ℕ) (e : Edge) → next ≡ i + 1 → RootedTo nodes edges old i → i < length edges → ((d : Edge) → get_or edges i d ≡ e) → e.place < length nodes → length new ≡ length old → IsKept nodes old new e.place → RootedTo nodes edges new next
RootedTo-more nodes edges old new i next e step h inside is within same kept = record {
  lengths = same ∙ h.lengths;
  nodes_are = kept_nodes nodes edges old new e.place within kept h.nodes_are;
  rooted = λ j d before within_j.
      elim (before_or_at j i (omega arith)) [
        | inl here ↦ (let p : (get_or edges j d).place ≡ e.place = ap (λ k. (get_or edges k d).place) here ∙ ap (λ (x : Edge). x.place) (is d) in rw p (kept_here nodes edges old new e.place within kept))
        | inr lower ↦ kept_stays nodes edges old new e.place within kept (get_or edges j d).place (h.rooted j d lower within_j)
      ];
  needed = kept_needed nodes edges old new e.place within kept (λ has roots closed. rw (is e) at (roots i e inside)) h.needed;
}

pub RootedTo-done : (nodes : List Node) (edges : List Edge) (table : List (Option Node)) (i : ℕ) → RootedTo nodes edges table i → length edges ≤ i → IsRooted nodes edges table
RootedTo-done nodes edges table i h past = record {
  lengths = h.lengths;
  nodes_are = h.nodes_are;
  rooted = λ j d within. h.rooted j d (omega arith) within;
  needed = h.needed;
}

-- the nodes from the place on have what they need
pub record Back (nodes : List Node) (edges : List Edge) (table : List (Option Node)) (place : ℕ) : Type 0 where
  pub lengths : length table ≡ length nodes
  pub nodes_are : (k : ℕ) (n : Node) → at table k ≡ Some n → slice_get nodes k ≡ Some n
  pub rooted : All (λ e. is_some (at table e.place) ≡ true) edges
  pub closed : (k : ℕ) (left right : Edge) → place ≤ k → at table k ≡ Some (Gate left right) → (is_some (at table left.place) ≡ true) × (is_some (at table right.place) ≡ true)
  pub needed : (k : ℕ) → is_some (at table k) ≡ true → IsInCones nodes edges k

past_table : (table : List (Option Node)) (k : ℕ) (n : Node) → length table ≤ k → at table k ≡ Some n → ⊥
past_table table k n past h = let e : at table k ≡ None = get_or_past table k None past in cc

pub Back-first : (nodes : List Node) (edges : List Edge) (table : List (Option Node)) → IsRooted nodes edges table → Back nodes edges table (length table)
Back-first nodes edges table h = record {
  lengths = h.lengths;
  nodes_are = h.nodes_are;
  rooted = h.rooted;
  closed = λ k left right past is. absurd (past_table table k (Gate left right) past is);
  needed = h.needed;
}

-- a node below the place is kept
pub Back-keep : (nodes : List Node) (edges : List Edge) (old new : List (Option Node)) (p place : ℕ) → p < length nodes → IsKept nodes old new p → p < place → length new ≡ length old → IsInCones nodes edges p → Back nodes edges old place → Back nodes edges new place
Back-keep nodes edges old new p place within kept below same here h = record {
  lengths = same ∙ h.lengths;
  nodes_are = kept_nodes nodes edges old new p within kept h.nodes_are;
  rooted = λ j d inside. kept_stays nodes edges old new p within kept (get_or edges j d).place (h.rooted j d inside);
  closed = λ k left right past is.
      let was : at old k ≡ Some (Gate left right) =
      elim (kept_case k p (at new k) (slice_get nodes p) (at old k) (eqb k p) refl (kept k)) [
        | inl at_p ↦ absurd (let e : k ≡ p = at_p.0 in omega arith)
        | inr e ↦ sym e ∙ is
      ] in
      let both = h.closed k left right past was in
      (kept_stays nodes edges old new p within kept left.place both.0, kept_stays nodes edges old new p within kept right.place both.1);
  needed = kept_needed nodes edges old new p within kept here h.needed;
}

at_or_later : (place k : ℕ) → place ≤ k → (k ≡ place) ⊎ (place + 1 ≤ k)
at_or_later place k h = elim (dec_lt place k) [ Prim.yes lt ↦ inr (omega arith) | Prim.no not_below ↦ inl (let not_lt : place < k → ⊥ = not_below in omega arith) ]

-- the node at the place below has what it needs too
pub Back-down : (nodes : List Node) (edges : List Edge) (table : List (Option Node)) (place next : ℕ) → next ≡ place + 1 → ((left right : Edge) → at table place ≡ Some (Gate left right) → (is_some (at table left.place) ≡ true) × (is_some (at table right.place) ≡ true)) → Back nodes edges table next → Back nodes edges table place
Back-down nodes edges table place next step here h = record {
  lengths = h.lengths;
  nodes_are = h.nodes_are;
  rooted = h.rooted;
  closed = λ k left right past is.
      elim (at_or_later place k past) [
        | inl same ↦ here left right (rw same at is)
        | inr later ↦ h.closed k left right (omega arith) is
      ];
  needed = h.needed;
}

-- the operands of a kept gate stand below it
pub operands_at : (nodes : List Node) (place : ℕ) (left right : Edge) → IsAig nodes → slice_get nodes place ≡ Some (Gate left right) → AreOperands place left right
operands_at nodes place left right arena is = subst (IsPlaced place) (get_or_from_slice_get nodes place (Gate left right) Constant is) (arena.placed place (slice_get_within nodes place (Gate left right) is))

-- a node that isn't kept now is as before
not_here : (nodes : List Node) (old new : List (Option Node)) (p k : ℕ) → IsKept nodes old new p → p < k → at new k ≡ at old k
not_here nodes old new p k kept below =
    elim (kept_case k p (at new k) (slice_get nodes p) (at old k) (eqb k p) refl (kept k)) [
      | inl same ↦ absurd (let e : k ≡ p = same.0 in omega arith)
      | inr is ↦ is
    ]

left_is : (o : Option Node) (l r l' r' : Edge) → o ≡ Some (Gate l r) → o ≡ Some (Gate l' r') → l' ≡ l
left_is o l r l' r' e f = cc

right_is : (o : Option Node) (l r l' r' : Edge) → o ≡ Some (Gate l r) → o ≡ Some (Gate l' r') → r' ≡ r
right_is o l r l' r' e f = cc

-- what is there
pub is_some_at : (o : Option Node) (n : Node) → o ≡ Some n → is_some o ≡ true
is_some_at o n e = rw e refl

-- both operands of the gate at the place below are kept
pub Back-gate : (nodes : List Node) (edges : List Edge) (old mid new : List (Option Node)) (left right : Edge) (place next : ℕ) → IsAig nodes → next ≡ place + 1 → at old place ≡ Some (Gate left right) → IsKept nodes old mid left.place → length mid ≡ length old → IsKept nodes mid new right.place → length new ≡ length mid → Back nodes edges old next → Back nodes edges new place
Back-gate nodes edges old mid new left right place next arena step is kept1 same1 kept2 same2 h =
    let there : slice_get nodes place ≡ Some (Gate left right) = h.nodes_are place (Gate left right) is in
    let within : place < length nodes = slice_get_within nodes place (Gate left right) there in
    let below : AreOperands place left right = operands_at nodes place left right arena there in
    let l_within : left.place < length nodes = omega (arith, below.below) in
    let r_within : right.place < length nodes = omega (arith, below.below, below.ordered) in
    let need : IsInCones nodes edges place = h.needed place (is_some_at (at old place) (Gate left right) is) in
    let both = λ (has : ℕ → Bool) (roots : All (λ e. has e.place ≡ true) edges) (closed : HasOperandNodes nodes has). closed place left right there (need has roots closed) in
    let one : Back nodes edges mid next = Back-keep nodes edges old mid left.place next l_within kept1 (omega (arith, below.below)) same1 (λ has roots closed. (both has roots closed).0) h in
    let two : Back nodes edges new next = Back-keep nodes edges mid new right.place next r_within kept2 (omega (arith, below.below, below.ordered)) same2 (λ has roots closed. (both has roots closed).1) one in
    let now : at new place ≡ Some (Gate left right) = not_here nodes mid new right.place place kept2 (omega (arith, below.below, below.ordered)) ∙ not_here nodes old mid left.place place kept1 below.below ∙ is in
    let l_kept : is_some (at new left.place) ≡ true = kept_stays nodes edges mid new right.place r_within kept2 left.place (kept_here nodes edges old mid left.place l_within kept1) in
    let r_kept : is_some (at new right.place) ≡ true = kept_here nodes edges mid new right.place r_within kept2 in
    Back-down nodes edges new place next step (λ l r e. (rw (left_is (at new place) left right l r now e) l_kept, rw (right_is (at new place) left right l r now e) r_kept)) two

some_inj : (m n : Node) (o : Option Node) → o ≡ Some m → o ≡ Some n → m ≡ n
some_inj m n o e f = cc

some_is : (o : Option Node) (n : Node) → ((m : Node) → o ≡ Some m → m ≡ n) → is_some o ≡ true → o ≡ Some n
some_is None n same h = absurd cc
some_is (Some m) n same h = ap Some (same m refl)

pub AreNeeded-done : (nodes : List Node) (edges : List Edge) (table : List (Option Node)) → Back nodes edges table 0 → AreNeeded nodes edges table
AreNeeded-done nodes edges table h = record {
  lengths = h.lengths;
  nodes_are = h.nodes_are;
  needed = λ k within. (h.needed k, λ needed. needed (λ p. is_some (at table p)) h.rooted (λ p left right is some. h.closed p left right (omega arith) (some_is (at table p) (Gate left right) (λ m e. some_inj m (Gate left right) (slice_get nodes p) (h.nodes_are p m e) is) some)));
}

gate_some : (o : Option (Edge × Edge)) (p : Edge × Edge) → o ≡ Some p → o ≡ None → ⊥
gate_some o p e f = cc

gate_pair : (p q : Edge × Edge) → Some p ≡ Some q → p ≡ q
gate_pair p q e = cc

no_gate : (o : Option Node) (l r : Edge) → node_operands o ≡ None → o ≡ Some (Gate l r) → ⊥
no_gate o l r e f = gate_some (node_operands o) (l, r) (ap node_operands f) e

gate_in_is : (o : Option Node) (l r : Edge) → node_operands o ≡ Some (l, r) → o ≡ Some (Gate l r)
gate_in_is None l r e = absurd (gate_some None (l, r) e refl)
gate_in_is (Some Constant) l r e = absurd (gate_some None (l, r) e refl)
gate_in_is (Some (Input x)) l r e = absurd (gate_some None (l, r) e refl)
gate_in_is (Some (Gate a b)) l r e = ap (λ (p : Edge × Edge). Some (Gate p.0 p.1)) (gate_pair (a, b) (l, r) e)

-- a gate that is read from the table
pub gate_read : (table : List (Option Node)) (k : ℕ) (x : Option Node) (l r : Edge) → k < length table → node_operands (get_or table k x) ≡ Some (l, r) → at table k ≡ Some (Gate l r)
gate_read table k x l r within e = get_or_default table k None x within ∙ gate_in_is (get_or table k x) l r e

pub operands_within : (nodes : List Node) (edges : List Edge) (table : List (Option Node)) (k next : ℕ) (l r : Edge) → IsAig nodes → Back nodes edges table next → at table k ≡ Some (Gate l r) → (l.place < length nodes) × (r.place < length nodes)
operands_within nodes edges table k next l r arena h is =
    let there : slice_get nodes k ≡ Some (Gate l r) = h.nodes_are k (Gate l r) is in
    let below : AreOperands k l r = operands_at nodes k l r arena there in
    let within : k < length nodes = slice_get_within nodes k (Gate l r) there in
    (omega (arith, below.below), omega (arith, below.below, below.ordered))

-- a node that is no gate needs nothing
pub Back-skip : (nodes : List Node) (edges : List Edge) (table : List (Option Node)) (place next : ℕ) (x : Option Node) → next ≡ place + 1 → place < length table → node_operands (get_or table place x) ≡ None → Back nodes edges table next → Back nodes edges table place
Back-skip nodes edges table place next x step within none h =
    Back-down nodes edges table place next step (λ l r e. absurd (no_gate (get_or table place x) l r none (get_or_default table place x None within ∙ e))) h

-- the edge of an output that is read
pub edge_at : (outputs : List (OutName × Edge)) (i : ℕ) (x : OutName × Edge) → x ≡ get_or outputs i x → i < length outputs → (d : Edge) → get_or (edges_of outputs) i d ≡ x.1
edge_at outputs i x is within d =
    let inside : i < length (edges_of outputs) = omega (arith, length-map outputs (λ o. o.1)) in
    get_or_default (edges_of outputs) i d x.1 inside ∙ get_or-map (λ (o : OutName × Edge). o.1) outputs i x ∙ sym (ap (λ (o : OutName × Edge). o.1) is)

pub place_at : (outputs : List (OutName × Edge)) (n i : ℕ) (x : OutName × Edge) → x ≡ get_or outputs i x → i < length outputs → All (λ o. o.1.place < n) outputs → x.1.place < n
place_at outputs n i x is within h = subst (λ (o : OutName × Edge). o.1.place < n) (sym is) (h i x within)

-- the operands of a gate that is read stand before it
pub operands_below : (table : List (Option Node)) (k : ℕ) (x : Option Node) (p : Edge × Edge) → OperandsBelow table → k < length table → node_operands (get_or table k x) ≡ Some p → (p.0.place < k) × (p.1.place < k)
operands_below table k x p below within e = below k p.0 p.1 (gate_read table k x p.0 p.1 within e)

pub OperandsBelow-needed : (nodes : List Node) (edges : List Edge) (table : List (Option Node)) → IsAig nodes → AreNeeded nodes edges table → OperandsBelow table
OperandsBelow-needed nodes edges table arena h k l r is =
    let below : AreOperands k l r = operands_at nodes k l r arena (h.nodes_are k (Gate l r) is) in
    (below.below, omega (arith, below.below, below.ordered))

pub edges_within : (outputs : List (OutName × Edge)) (n m : ℕ) → n ≡ m → All (λ o. o.1.place < n) outputs → All (λ o. o.1.place < m) outputs
edges_within outputs n m e h = rw e at h
