-- The depths of gates: one more than those of their operands, which circles have none of.
use Rattle.std.proofs.Common.{◌≡◌, ℕ, zero, suc, ◌+◌, ◌-◌, ◌/◌, ◌<◌, ◌≤◌, Bool, true, false, cond, max, ltb, List, [], ◌∷◌, length, get_or, slice_get, Option, Some, None, ◌⊎◌, inl, inr, refl, sym, ◌∙◌, ap, arith}
use Rattle.std.proofs.lemmas.Bool.Decides.{nat_tests}
use Rattle.std.proofs.lemmas.Option.{same_Some}
use Rattle.std.specs.Option.{option_map}
use Rattle.std.specs.Prelude.{find, is_none}
use Rattle.std.specs.List.{enumerate_from}
use Rattle.craig_spec.specs.AigerReading.{GateLine, deeper, depth, depth_by, gate_at, gate_depth}
use Rattle.craig_spec.specs.Circuit.{Gate}

-- where there is a greater depth there are both
both-deep : (a b : Option ℕ) (d : ℕ) → option_map suc (deeper a b) ≡ Some d → (m : ℕ) × (n : ℕ) × (a ≡ Some m) × (b ≡ Some n) × (d ≡ suc (max m n))
both-deep (Some m) (Some n) d e = (m, n, refl, refl, cc)
both-deep (Some m) None d e = cc
both-deep None b d e = cc

deep-is : (a b : Option ℕ) (m n d : ℕ) → a ≡ Some m → b ≡ Some n → d ≡ suc (max m n) → option_map suc (deeper a b) ≡ Some d
deep-is a b m n d e h is = rw (e, h, is) refl

-- the depth at each number of steps, by what the variable is
at-zero : (first : ℕ) (gates : List Gate) (v : ℕ) (o : Option Gate) → gate_at first gates v ≡ o → depth first gates zero v ≡ depth_by (λ l. None) o
at-zero first gates v o e = rw e refl

at-suc : (first : ℕ) (gates : List Gate) (n v : ℕ) (o : Option Gate) → gate_at first gates v ≡ o → depth first gates (suc n) v ≡ depth_by (λ l. depth first gates n (l / 2)) o
at-suc first gates n v o e = ap (depth_by (λ l. depth first gates n (l / 2))) e

-- a depth of what is no gate
pub leaf-depth : (first : ℕ) (gates : List Gate) (n v : ℕ) → gate_at first gates v ≡ None → depth first gates n v ≡ Some 0
leaf-depth first gates zero v e = at-zero first gates v None e
leaf-depth first gates (suc n) v e = at-suc first gates n v None e

-- a depth of a gate, by its operands
record GateDepth (first : ℕ) (gates : List Gate) (n d : ℕ) (g : Gate) : Type 0 where
  before : ℕ
  steps : n ≡ suc before
  left : ℕ
  right : ℕ
  left_is : depth first gates before (g.left / 2) ≡ Some left
  right_is : depth first gates before (g.right / 2) ≡ Some right
  depth_is : d ≡ suc (max left right)

gate-parts : (first : ℕ) (gates : List Gate) (n v d : ℕ) (g : Gate) → gate_at first gates v ≡ Some g → depth first gates n v ≡ Some d → GateDepth first gates n d g
gate-parts first gates zero v d g e h =
    let w : depth_by (λ l. None) (Some g) ≡ Some d = sym (at-zero first gates v (Some g) e) ∙ h in cc
gate-parts first gates (suc n) v d g e h =
    let p = both-deep (depth first gates n (g.left / 2)) (depth first gates n (g.right / 2)) d (sym (at-suc first gates n v (Some g) e) ∙ h) in
    record { before = n; steps = refl; left = p.0; right = p.1; left_is = p.2; right_is = p.3; depth_is = p.4 }

-- a depth is at most the number of steps
depth-le-by : (first : ℕ) (gates : List Gate) (n v d : ℕ) (o : Option Gate) → gate_at first gates v ≡ o → depth first gates n v ≡ Some d →
    ((m w e : ℕ) → n ≡ suc m → depth first gates m w ≡ Some e → e ≤ m) → d ≤ n
depth-le-by first gates n v d None e h rec =
    let z : 0 ≡ d = same_Some 0 d (sym (leaf-depth first gates n v e) ∙ h) in omega arith
depth-le-by first gates n v d (Some g) e h rec =
    let p : GateDepth first gates n d g = gate-parts first gates n v d g e h in
    omega (arith, p.steps, p.depth_is, rec p.before (g.left / 2) p.left p.steps p.left_is, rec p.before (g.right / 2) p.right p.steps p.right_is)

pub depth-le : (first : ℕ) (gates : List Gate) (n v d : ℕ) → depth first gates n v ≡ Some d → d ≤ n
depth-le first gates zero v d h = depth-le-by first gates zero v d (gate_at first gates v) refl h (λ m w e absurdly h2. omega (arith, absurdly))
depth-le first gates (suc n) v d h =
    depth-le-by first gates (suc n) v d (gate_at first gates v) refl h
    (λ m w e same h2. let k : n ≡ m = omega arith in omega (arith, k, depth-le first gates n w e (ap (λ z. depth first gates z w) k ∙ h2)))

-- and stays with more steps
more-by : (first : ℕ) (gates : List Gate) (n m v d : ℕ) (o : Option Gate) → gate_at first gates v ≡ o → depth first gates n v ≡ Some d → d ≤ m →
    ((n' m' w e : ℕ) → n ≡ suc n' → depth first gates n' w ≡ Some e → e ≤ m' → depth first gates m' w ≡ Some e) → depth first gates m v ≡ Some d
more-by first gates n m v d None e h low rec = leaf-depth first gates m v e ∙ sym (leaf-depth first gates n v e) ∙ h
more-by first gates n zero v d (Some g) e h low rec = absurd (omega (arith, (gate-parts first gates n v d g e h).depth_is))
more-by first gates n (suc m) v d (Some g) e h low rec =
    let p : GateDepth first gates n d g = gate-parts first gates n v d g e h in
    let l = rec p.before m (g.left / 2) p.left p.steps p.left_is (omega (arith, p.depth_is)) in
    let r = rec p.before m (g.right / 2) p.right p.steps p.right_is (omega (arith, p.depth_is)) in
    at-suc first gates m v (Some g) e ∙ deep-is (depth first gates m (g.left / 2)) (depth first gates m (g.right / 2)) p.left p.right d l r p.depth_is

pub depth-more : (first : ℕ) (gates : List Gate) (n m v d : ℕ) → depth first gates n v ≡ Some d → d ≤ m → depth first gates m v ≡ Some d
depth-more first gates zero m v d h low = more-by first gates zero m v d (gate_at first gates v) refl h low (λ n' m' w e absurdly h2 low2. absurd (omega (arith, absurdly)))
depth-more first gates (suc n) m v d h low =
    more-by first gates (suc n) m v d (gate_at first gates v) refl h low
    (λ n' m' w e same h2 low2. let k : n ≡ n' = omega arith in depth-more first gates n m' w e (ap (λ z. depth first gates z w) k ∙ h2) low2)

-- a gate that is found by its variable
gate_at-by : (first : ℕ) (gates : List Gate) (v : ℕ) (g : Gate) (t : Bool) → ltb v first ≡ t → gate_at first gates v ≡ Some g → (first ≤ v) × (slice_get gates (v - first) ≡ Some g)
gate_at-by first gates v g true e is = absurd (let n : None ≡ Some g = sym (ap (λ (b : Bool). cond b None (slice_get gates (v - first))) e) ∙ is in cc)
gate_at-by first gates v g false e is = (grind (arith, nat_tests, e), sym (ap (λ (b : Bool). cond b None (slice_get gates (v - first))) e) ∙ is)

gate_at-parts : (first : ℕ) (gates : List Gate) (v : ℕ) (g : Gate) → gate_at first gates v ≡ Some g → (first ≤ v) × (slice_get gates (v - first) ≡ Some g)
gate_at-parts first gates v g is = gate_at-by first gates v g (ltb v first) refl is

-- the gate at a place
pub gate_at-place : (first : ℕ) (gates : List Gate) (j : ℕ) (g : Gate) → slice_get gates j ≡ Some g → gate_at first gates (first + j) ≡ Some g
gate_at-place first gates j g e =
    let test : ltb (first + j) first ≡ false = grind (arith, nat_tests) in
    let place : first + j - first ≡ j = omega arith in
    rw (test, place) e

-- a gate with an operand
pub record Operand (first : ℕ) (gates : List Gate) (j v : ℕ) : Type 0 where
  pub gate : Gate
  pub is : slice_get gates j ≡ Some gate
  pub operand : (gate.left / 2 ≡ v) ⊎ (gate.right / 2 ≡ v)

-- an operand lies less deep
pub operand-depth : (first : ℕ) (gates : List Gate) (n j v d : ℕ) → Operand first gates j v → depth first gates n (first + j) ≡ Some d →
    (e : ℕ) × (depth first gates n v ≡ Some e) × (e < d)
operand-depth first gates n j v d o h =
    let p : GateDepth first gates n d o.gate = gate-parts first gates n (first + j) d o.gate (gate_at-place first gates j o.gate o.is) h in
    elim o.operand as (λ z. (e : ℕ) × (depth first gates n v ≡ Some e) × (e < d)) [
      | inl same ↦ (
        p.left,
        ap (depth first gates n) (sym same) ∙ depth-more first gates p.before n (o.gate.left / 2) p.left p.left_is
            (omega (arith, p.steps, depth-le first gates p.before (o.gate.left / 2) p.left p.left_is)),
        omega (arith, p.depth_is),
      )
      | inr same ↦ (
        p.right,
        ap (depth first gates n) (sym same) ∙ depth-more first gates p.before n (o.gate.right / 2) p.right p.right_is
            (omega (arith, p.steps, depth-le first gates p.before (o.gate.right / 2) p.right p.right_is)),
        omega (arith, p.depth_is),
      )
    ]

-- a gate is at least one deep
pub gate-deep : (first : ℕ) (gates : List Gate) (n j d : ℕ) (g : Gate) → slice_get gates j ≡ Some g → depth first gates n (first + j) ≡ Some d → 0 < d
gate-deep first gates n j d g e h = omega (arith, (gate-parts first gates n (first + j) d g (gate_at-place first gates j g e) h).depth_is)

-- the depth of a gate whose operands have theirs
pub gate_depth-operands : (first : ℕ) (gates : List Gate) (j left right : ℕ) (g : Gate) → slice_get gates j ≡ Some g →
    depth first gates (length gates) (g.left / 2) ≡ Some left → depth first gates (length gates) (g.right / 2) ≡ Some right → left < length gates → right < length gates →
    gate_depth first gates j ≡ Some (suc (max left right))
unfolding gate_depth
gate_depth-operands first gates j left right g e l r low high =
    let before : ℕ = length gates - 1 in
    let steps : length gates ≡ suc before = omega (arith, low) in
    let l2 = depth-more first gates (length gates) before (g.left / 2) left l (omega (arith, low)) in
    let r2 = depth-more first gates (length gates) before (g.right / 2) right r (omega (arith, high)) in
    ap (λ z. depth first gates z (first + j)) steps ∙ at-suc first gates before (first + j) (Some g) (gate_at-place first gates j g e) ∙ deep-is (depth first gates before (g.left / 2)) (depth first gates before (g.right / 2)) left right (suc (max left right)) l2 r2 refl

-- each gate of the stack has the next one as an operand
pub record IsPath (first : ℕ) (gates : List Gate) (stack : List ℕ) : Type 0 where
  pub next : (i : ℕ) → i + 1 < length stack → Operand first gates (get_or stack i 0) (first + get_or stack (i + 1) 0)

-- depths fall along the stack
pub path-falls : (first : ℕ) (gates : List Gate) (stack : List ℕ) (n i m d : ℕ) → IsPath first gates stack → i + m < length stack → depth first gates n (first + get_or stack i 0) ≡ Some d →
    (e : ℕ) × (depth first gates n (first + get_or stack (i + m) 0) ≡ Some e) × (e + m ≤ d)
path-falls first gates stack n i zero d h inside e =
    let same : i ≡ i + 0 = omega arith in (d, ap (λ z. depth first gates n (first + get_or stack z 0)) (sym same) ∙ e, omega arith)
path-falls first gates stack n i (suc m) d h inside e =
    let o = operand-depth first gates n (get_or stack i 0) (first + get_or stack (i + 1) 0) d (h.next i (omega arith)) e in
    let rest = path-falls first gates stack n (i + 1) m o.0 h (omega arith) o.1 in
    let same : i + 1 + m ≡ i + suc m = omega arith in
    (rest.0, ap (λ z. depth first gates n (first + get_or stack z 0)) (sym same) ∙ rest.1, omega (arith, rest.2, o.2))

-- each gate stands after its operands, where the gates have the variables from the first one on
abbrev pub InOrder : ℕ → List Gate → Type 0
InOrder first gates = (j : ℕ) (g : Gate) → slice_get gates j ≡ Some g → (g.left / 2 < first + j) × (g.right / 2 < first + j)

-- each gate has a depth
abbrev pub HaveDepths : ℕ → List Gate → Type 0
HaveDepths first gates = (j : ℕ) → j < length gates → (d : ℕ) × (gate_depth first gates j ≡ Some d)

-- the variable of a gate that stands in order has a depth, where those of its operands have
ordered-by : (first : ℕ) (gates : List Gate) (most v : ℕ) (o : Option Gate) → gate_at first gates v ≡ o → InOrder first gates → v < first + suc most → ((w : ℕ) → w < first + most → (d : ℕ) × (depth first gates most w ≡ Some d)) →
    (d : ℕ) × (depth first gates (suc most) v ≡ Some d)
ordered-by first gates most v None e order within below = (0, leaf-depth first gates (suc most) v e)
ordered-by first gates most v (Some g) e order within below =
    let p = gate_at-parts first gates v g e in
    let o = order (v - first) g p.1 in
    let l = below (g.left / 2) (omega (arith, o.0, p.0)) in
    let r = below (g.right / 2) (omega (arith, o.1, p.0)) in
    (suc (max l.0 r.0), at-suc first gates most v (Some g) e ∙ deep-is (depth first gates most (g.left / 2)) (depth first gates most (g.right / 2)) l.0 r.0 (suc (max l.0 r.0)) l.1 r.1 refl)

ordered-depth : (first : ℕ) (gates : List Gate) (most v : ℕ) → InOrder first gates → v < first + most → (d : ℕ) × (depth first gates most v ≡ Some d)
ordered-depth first gates zero v order within =
    let test : ltb v first ≡ true = grind (arith, nat_tests, within) in
    (0, leaf-depth first gates zero v (rw test refl))
ordered-depth first gates (suc most) v order within = ordered-by first gates most v (gate_at first gates v) refl order within (λ w low. ordered-depth first gates most w order low)

-- gates that stand each after its operands have depths
pub HaveDepths-ordered : (first : ℕ) (gates : List Gate) → InOrder first gates → HaveDepths first gates
unfolding gate_depth
HaveDepths-ordered first gates order j inside = ordered-depth first gates (length gates) (first + j) order (omega (arith, inside))

some-of : (o : Option ℕ) → is_none o ≡ false → (d : ℕ) × (o ≡ Some d)
some-of None e = cc
some-of (Some d) e = (d, refl)

none-of : (o : Option ℕ) (d : ℕ) → o ≡ Some d → is_none o ≡ false
none-of o d e = rw e refl

some-none : {A : Type 0} (x : A) → ◌≡◌ {A = Option A} (Some x) None → ⊥
some-none x e = cc

-- whether the gate at the place of a line has no depth
abbrev pub is_deepless : ℕ → List Gate → ℕ × GateLine → Bool
is_deepless first gates p = is_none (gate_depth first gates p.0)

acyclic-by : (first : ℕ) (gates : List Gate) (line : GateLine) (lines : List GateLine) (a j : ℕ) (t : Bool) → is_none (gate_depth first gates a) ≡ t →
    cond t (Some (a, line)) (find (is_deepless first gates) (enumerate_from (a + 1) lines)) ≡ None → j < suc (length lines) →
    ((k : ℕ) → find (is_deepless first gates) (enumerate_from (a + 1) lines) ≡ None → k < length lines → is_none (gate_depth first gates (a + 1 + k)) ≡ false) →
    is_none (gate_depth first gates (a + j)) ≡ false
acyclic-by first gates line lines a j true e h inside rec = absurd (some-none (a, line) h)
acyclic-by first gates line lines a zero false e h inside rec = ap (λ z. is_none (gate_depth first gates z)) (omega arith) ∙ e
acyclic-by first gates line lines a (suc k) false e h inside rec = ap (λ z. is_none (gate_depth first gates z)) (omega arith) ∙ rec k h (omega arith)

acyclic-from : (first : ℕ) (gates : List Gate) (lines : List GateLine) (a j : ℕ) → find (is_deepless first gates) (enumerate_from a lines) ≡ None → j < length lines → is_none (gate_depth first gates (a + j)) ≡ false
acyclic-from first gates [] a j h inside = absurd (omega arith)
acyclic-from first gates (line ∷ lines) a j h inside = acyclic-by first gates line lines a j (is_none (gate_depth first gates a)) refl h inside (λ k e low. acyclic-from first gates lines (a + 1) k e low)

-- where no line is of a gate without a depth, each gate has one
pub HaveDepths-found : (first : ℕ) (gates : List Gate) (lines : List GateLine) → length gates ≡ length lines → find (is_deepless first gates) (enumerate_from 0 lines) ≡ None → HaveDepths first gates
HaveDepths-found first gates lines beside h j inside =
    let place : 0 + j ≡ j = omega arith in
    some-of (gate_depth first gates j) (ap (λ z. is_none (gate_depth first gates z)) (sym place) ∙ acyclic-from first gates lines 0 j h (omega (arith, inside, beside)))

-- and the other way round
pub HaveDepths-none : (first k : ℕ) (gates : List Gate) (lines : List GateLine) → HaveDepths first gates → k + length lines ≤ length gates → find (is_deepless first gates) (enumerate_from k lines) ≡ None
HaveDepths-none first k gates [] depths h = refl
HaveDepths-none first k gates (line ∷ lines) depths h =
    let d = depths k (omega arith) in
    rw (none-of (gate_depth first gates k) d.0 d.1) (HaveDepths-none first (k + 1) gates lines depths (omega arith))
