-- What the edges of constants, inputs and conjunctions compute and reach.
use Rattle.std.proofs.Common.{◌≡◌, ◌≢◌, ◌⊎◌, inl, inr, ℕ, ◌<◌, ◌≤◌, Bool, true, false, not, cond, ◌&&◌, eqb, ltb, List, [], length, get_or, Contains, None, Some, refl, sym, ap, ◌∙◌, subst, arith, eqb-true}
use Rattle.std.proofs.Math.Bool.{and_comm}
use borrow.Author.Tests.{ltb-true}
use Rattle.std.proofs.lemmas.Bool.{eqb-false, ltb-false}
use Rattle.std.proofs.lemmas.List.Elements.{Contains-append_cases}
use Rattle.std.proofs.lemmas.Option.{slice_get_within}
use Rattle.craig_spec.specs.Truth.{Assignment}
use Rattle.craig_aig.specs.Arenas.{IsPlaced, IsAig}
use Rattle.craig_aig.specs.Cones.{node_cone, cones, cone, ConeWithin}
use Rattle.craig_aig.specs.Conjunctions.{constant_edge, folded, gate}
use Rattle.craig_aig.specs.Edges.{Edge}
use Rattle.craig_aig.specs.Growth.{Extends, IsShared}
use Rattle.craig_aig.specs.Values.{node_value, values, edge_value}
use Rattle.craig_aig.specs.declared.node.Node.{Node}
use Rattle.craig_aig.specs.declared.node.Node.TheVariants.{Constant, Gate}
use Rattle.craig_aig.proofs.FunctionLemmas.{edge_value-node, cone-node, KeepsEdge-append}

-- the constants
pub edge_value-constant : (s : Assignment) (nodes : List Node) (b : Bool) → IsAig nodes → edge_value s nodes (constant_edge b) ≡ b
edge_value-constant s nodes true h = ap not (edge_value-node s nodes 0 Constant h h.first)
edge_value-constant s nodes false h = edge_value-node s nodes 0 Constant h h.first

pub cone-constant : (nodes : List Node) (b : Bool) → IsAig nodes → cone nodes (constant_edge b) ≡ []
cone-constant nodes b h = cone-node nodes 0 Constant h h.first

-- an edge is made of its place and its sign
edge_is : (e : Edge) (place : ℕ) (n : Bool) → e.place ≡ place → e.negated ≡ n → e ≡ record { place = place; negated = n }
edge_is e place n p q = λ i. record { place = p i; negated = q i }

-- a shared node
pub within-IsShared : (old new : List Node) (node : Node) (e : Edge) → IsShared old node new e → e.place < length new
within-IsShared old new node e h = slice_get_within new e.place node h.place

pub edge_value-IsShared : (s : Assignment) (old new : List Node) (node : Node) (e : Edge) → IsAig new → IsShared old node new e → edge_value s new e ≡ node_value s (values s new) node
edge_value-IsShared s old new node e arena h = ap (edge_value s new) (edge_is e e.place false refl h.plain) ∙ edge_value-node s new e.place node arena h.place

pub cone-IsShared : (old new : List Node) (node : Node) (e : Edge) → IsAig new → IsShared old node new e → cone new e ≡ node_cone (cones new) node
cone-IsShared old new node e arena h = cone-node new e.place node arena h.place

-- the node of a conjunction, whichever operand is first
node_value-ordered : (s : Assignment) (nodes : List Node) (left right : Edge) (t : Bool) → node_value s (values s nodes) (cond t (Gate right left) (Gate left right)) ≡ (edge_value s nodes left && edge_value s nodes right)
node_value-ordered s nodes left right true = and_comm (edge_value s nodes right) (edge_value s nodes left)
node_value-ordered s nodes left right false = refl

node_cone-ordered : (nodes : List Node) (left right : Edge) (t : Bool) (x : ℕ) → Contains (node_cone (cones nodes) (cond t (Gate right left) (Gate left right))) x → Contains (cone nodes left) x ⊎ Contains (cone nodes right) x
node_cone-ordered nodes left right true x h = elim (Contains-append_cases (cone nodes right) (cone nodes left) x h) [ inl r ↦ inr r | inr l ↦ inl l ]
node_cone-ordered nodes left right false x h = Contains-append_cases (cone nodes left) (cone nodes right) x h

-- what old edges keep when an arena grows
pub kept_value : (s : Assignment) (old new : List Node) (e : Edge) → Extends old new → e.place < length old → edge_value s new e ≡ edge_value s old e
kept_value s old new e (added, is) h = subst (λ l. edge_value s l e ≡ edge_value s old e) (sym is) ((KeepsEdge-append old added e h).value s)

pub kept_cone : (old new : List Node) (e : Edge) → Extends old new → e.place < length old → cone new e ≡ cone old e
kept_cone old new e (added, is) h = subst (λ l. cone l e ≡ cone old e) (sym is) (KeepsEdge-append old added e h).cone_is

-- the edge of a gate computes the conjunction of its operands
pub edge_value-gate : (s : Assignment) (old new : List Node) (left right e : Edge) → IsAig new → Extends old new → left.place < length old → right.place < length old →
    IsShared old (gate left right) new e → edge_value s new e ≡ (edge_value s old left && edge_value s old right)
edge_value-gate s old new left right e arena grown l r h =
    edge_value-IsShared s old new (gate left right) e arena h ∙ node_value-ordered s new left right (ltb left.place right.place)
    ∙ ap (λ b. b && edge_value s new right) (kept_value s old new left grown l) ∙ ap (λ b. edge_value s old left && b) (kept_value s old new right grown r)

-- and reaches what they reach
pub cone-gate : (old new : List Node) (left right e : Edge) → IsAig new → Extends old new → left.place < length old → right.place < length old →
    IsShared old (gate left right) new e → ConeWithin old left right new e
cone-gate old new left right e arena grown l r h x c =
    let here : Contains (node_cone (cones new) (gate left right)) x = subst (λ (k : List ℕ). Contains k x) (cone-IsShared old new (gate left right) e arena h) c in
    elim (node_cone-ordered new left right (ltb left.place right.place) x here) [
      | inl a ↦ inl (subst (λ (k : List ℕ). Contains k x) (kept_cone old new left grown l) a)
      | inr b ↦ inr (subst (λ (k : List ℕ). Contains k x) (kept_cone old new right grown r) b)
    ]

-- a folded conjunction is the left or the right operand, or false
abbrev pub FoldedTo : Edge → Edge → Edge → Type 0
FoldedTo left right f = (f ≡ left) ⊎ (f ≡ right) ⊎ (f ≡ constant_edge false)

chosen : (b : Bool) (e left right f : Edge) → (e ≡ left) ⊎ (e ≡ right) → Some (cond b e (constant_edge false)) ≡ Some f → FoldedTo left right f
chosen true e left right f (inl p) h = inl cc
chosen true e left right f (inr p) h = inr (inl cc)
chosen false e left right f p h = inr (inr cc)

folded_to : (left right f : Edge) (t u v same : Bool) →
    cond t (Some (cond left.negated right (constant_edge false))) (cond u (Some (cond right.negated left (constant_edge false))) (cond v (Some (cond same left (constant_edge false))) None)) ≡ Some f → FoldedTo left right f
folded_to left right f true u v same h = chosen left.negated right left right f (inr refl) h
folded_to left right f false true v same h = chosen right.negated left left right f (inl refl) h
folded_to left right f false false true same h = chosen same left left right f (inl refl) h
folded_to left right f false false false same h = absurd cc

pub FoldedTo-folded : (left right f : Edge) → folded left right ≡ Some f → FoldedTo left right f
FoldedTo-folded left right f h =
    folded_to left right f (eqb left.place 0) (eqb right.place 0) (eqb left.place right.place) (cond left.negated right.negated (not right.negated)) h

-- the value of an edge that is folded as one operand has the value b: the other one, or false
value_chosen : (s : Assignment) (nodes : List Node) (b : Bool) (other f : Edge) → IsAig nodes → Some (cond b other (constant_edge false)) ≡ Some f → edge_value s nodes f ≡ (b && edge_value s nodes other)
value_chosen s nodes true other f arena h = let e : f ≡ other = cc in ap (edge_value s nodes) e
value_chosen s nodes false other f arena h = let e : f ≡ constant_edge false = cc in ap (edge_value s nodes) e ∙ edge_value-constant s nodes false arena

-- two edges of one node
both_signs : (n m v : Bool) → cond (cond n m (not m)) (cond n (not v) v) false ≡ (cond n (not v) v && cond m (not v) v)
both_signs true true true = refl
both_signs true true false = refl
both_signs true false true = refl
both_signs true false false = refl
both_signs false true true = refl
both_signs false true false = refl
both_signs false false true = refl
both_signs false false false = refl

value_same : (s : Assignment) (nodes : List Node) (same : Bool) (left f : Edge) → IsAig nodes → Some (cond same left (constant_edge false)) ≡ Some f → edge_value s nodes f ≡ cond same (edge_value s nodes left) false
value_same s nodes true left f arena h = let e : f ≡ left = cc in ap (edge_value s nodes) e
value_same s nodes false left f arena h = let e : f ≡ constant_edge false = cc in ap (edge_value s nodes) e ∙ edge_value-constant s nodes false arena

value_folded : (s : Assignment) (nodes : List Node) (left right f : Edge) (t u v : Bool) → IsAig nodes → eqb left.place 0 ≡ t → eqb right.place 0 ≡ u → eqb left.place right.place ≡ v →
    cond t (Some (cond left.negated right (constant_edge false))) (cond u (Some (cond right.negated left (constant_edge false))) (cond v (Some (cond (cond left.negated right.negated (not right.negated)) left (constant_edge false))) None)) ≡ Some f →
    edge_value s nodes f ≡ (edge_value s nodes left && edge_value s nodes right)
value_folded s nodes left right f true u v arena t_is u_is v_is h =
    let l : edge_value s nodes left ≡ left.negated = ap (edge_value s nodes) (edge_is left 0 left.negated (eqb-true left.place 0 t_is) refl) ∙ edge_value-constant s nodes left.negated arena in
    value_chosen s nodes left.negated right f arena h ∙ ap (λ b. b && edge_value s nodes right) (sym l)
value_folded s nodes left right f false true v arena t_is u_is v_is h =
    let r : edge_value s nodes right ≡ right.negated = ap (edge_value s nodes) (edge_is right 0 right.negated (eqb-true right.place 0 u_is) refl) ∙ edge_value-constant s nodes right.negated arena in
    value_chosen s nodes right.negated left f arena h ∙ and_comm right.negated (edge_value s nodes left) ∙ ap (λ b. edge_value s nodes left && b) (sym r)
value_folded s nodes left right f false false true arena t_is u_is v_is h =
    let at : left.place ≡ right.place = eqb-true left.place right.place v_is in
    let r : right ≡ record { place = left.place; negated = right.negated } = edge_is right left.place right.negated (sym at) refl in
    value_same s nodes (cond left.negated right.negated (not right.negated)) left f arena h ∙ both_signs left.negated right.negated (get_or (values s nodes) left.place false)
    ∙ ap (λ (e : Edge). edge_value s nodes left && edge_value s nodes e) (sym r)
value_folded s nodes left right f false false false arena t_is u_is v_is h = absurd cc

-- a folded conjunction computes the conjunction
pub edge_value-folded : (s : Assignment) (nodes : List Node) (left right f : Edge) → IsAig nodes → folded left right ≡ Some f → edge_value s nodes f ≡ (edge_value s nodes left && edge_value s nodes right)
edge_value-folded s nodes left right f arena h = value_folded s nodes left right f (eqb left.place 0) (eqb right.place 0) (eqb left.place right.place) arena refl refl refl h

-- and reaches what the operands reach
pub cone-folded : (nodes : List Node) (left right f : Edge) → IsAig nodes → folded left right ≡ Some f → ConeWithin nodes left right nodes f
cone-folded nodes left right f arena h x c =
    elim (FoldedTo-folded left right f h) [
      | inl l ↦ inl (subst (λ (e : Edge). Contains (cone nodes e) x) l c)
      | inr (inl r) ↦ inr (subst (λ (e : Edge). Contains (cone nodes e) x) r c)
      | inr (inr n) ↦ absurd (let none : Contains [] x = subst (λ (k : List ℕ). Contains k x) (ap (cone nodes) n ∙ cone-constant nodes false arena) c in omega (arith, none.1))
    ]

pub within-folded : (nodes : List Node) (left right f : Edge) → folded left right ≡ Some f → left.place < length nodes → right.place < length nodes → f.place < length nodes
within-folded nodes left right f h l r =
    elim (FoldedTo-folded left right f h) [
      | inl e ↦ subst (λ (g : Edge). g.place < length nodes) (sym e) l
      | inr (inl e) ↦ subst (λ (g : Edge). g.place < length nodes) (sym e) r
      | inr (inr e) ↦ subst (λ (g : Edge). g.place < length nodes) (sym e) (omega arith)
    ]

placed_ordered : (n : ℕ) (left right : Edge) (t : Bool) → (left.place ≢ 0) → (right.place ≢ 0) → (left.place ≢ right.place) → ltb left.place right.place ≡ t → left.place < n → right.place < n →
    IsPlaced n (cond t (Gate right left) (Gate left right))
placed_ordered n left right true a b c t_is l r = let lt : left.place < right.place = ltb-true left.place right.place t_is in record { not_constant = omega arith; ordered = lt; below = r }
placed_ordered n left right false a b c t_is l r = let ge : right.place ≤ left.place = ltb-false left.place right.place t_is in record { not_constant = omega arith; ordered = omega arith; below = l }

not_folded : (left right : Edge) (n : ℕ) (t u v same : Bool) → eqb left.place 0 ≡ t → eqb right.place 0 ≡ u → eqb left.place right.place ≡ v →
    cond t (Some (cond left.negated right (constant_edge false))) (cond u (Some (cond right.negated left (constant_edge false))) (cond v (Some (cond same left (constant_edge false))) None)) ≡ None →
    left.place < n → right.place < n → IsPlaced n (gate left right)
not_folded left right n true u v same t_is u_is v_is h l r = absurd cc
not_folded left right n false true v same t_is u_is v_is h l r = absurd cc
not_folded left right n false false true same t_is u_is v_is h l r = absurd cc
not_folded left right n false false false same t_is u_is v_is h l r =
    placed_ordered n left right (ltb left.place right.place) (eqb-false left.place 0 t_is) (eqb-false right.place 0 u_is) (eqb-false left.place right.place v_is) refl l r

-- the gate of a conjunction that isn't folded may be added
pub IsPlaced-gate : (n : ℕ) (left right : Edge) → folded left right ≡ None → left.place < n → right.place < n → IsPlaced n (gate left right)
IsPlaced-gate n left right h l r =
    not_folded left right n (eqb left.place 0) (eqb right.place 0) (eqb left.place right.place) (cond left.negated right.negated (not right.negated)) refl refl refl h l r
