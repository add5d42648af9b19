-- What the variables of a circuit have, one after another, and the shape of a strict circuit.
use Rattle.std.proofs.Common.{◌≡◌, ◌∙◌, sym, ap, refl, inl, inr, ℕ, suc, ◌+◌, ◌*◌, ◌/◌, ◌%◌, ◌<◌, ◌≤◌, Bool, true, false, not, ◌&&◌, ◌||◌, ◌==◌, cond, List, [], ◌∷◌, ◌++◌, length, map, take, drop, get_or, Contains, All, Some, slice_get, arith, eqb, eqb-true, eq-eqb, length-take-le}
use Rattle.std.specs.List.{list_any}
use Rattle.std.proofs.lemmas.Bool.{cases_order, or_cases, or_left, or_right}
use Rattle.std.proofs.lemmas.List.{get_or-map, length-map}
use Rattle.std.proofs.lemmas.List.Elements.{All-contains, Contains-get_or}
use Rattle.std.proofs.lemmas.Option.{get_or_from_slice_get}
use Rattle.craig_spec.specs.Circuit.{Circuit, Gate, Output, HasOperands, IsCircuit, IsStrict, circuit_cone, circuit_cones, circuit_value, circuit_values, each_variable, gate_cone, gate_value, literal_value_in, variable_count}
use Rattle.craig_spec.specs.Truth.{Assignment, variable_value}
use Rattle.craig_spec.proofs.VariableLemmas.{even_value, gates-around, get_or-before, get_or-first, get_or-gate}
use Rattle.craig_spec.proofs.MemberLemmas.{Contains-from_slice_get, list_any-find, list_any-member, slice_get-below}
use Rattle.craig_top.specs.CircuitShape.{AllAreUsed, GatesAreConjunctions, GatesReachByOperands, GatesStandOnce, InputsAreVariables, IsUsed, NumbersRise, OperandsAreOrdered, OutputsAreLiterals}

-- ---- values

abbrev signed : ℕ → Bool → Bool
signed remainder b = cond (remainder == 1) (not b) b

odd_literal : (values : List Bool) (v : ℕ) → literal_value_in values (2 * v + 1) ≡ not (get_or values v false)
odd_literal values v =
    let r : (2 * v + 1) % 2 ≡ 1 = omega arith in
    let q : (2 * v + 1) / 2 ≡ v = omega arith in
    ap (λ n. signed n (get_or values ((2 * v + 1) / 2) false)) r ∙ ap (λ n. not (get_or values n false)) q

pub constant_false : (c : Circuit) (s : Assignment) → circuit_value s c 0 ≡ false
constant_false c s = get_or-first gate_value (false ∷ map (variable_value s) c.inputs) c.gates 0 false (omega arith)

-- the literals 0 and 1 reach nothing
pub constant_reaches_none : (c : Circuit) → circuit_cone c 0 ≡ []
constant_reaches_none c = get_or-first gate_cone ([] ∷ map (λ y. y ∷ []) c.inputs) c.gates 0 [] (omega arith)

pub one_reaches_none : (c : Circuit) → circuit_cone c 1 ≡ []
one_reaches_none c = get_or-first gate_cone ([] ∷ map (λ y. y ∷ []) c.inputs) c.gates 0 [] (omega arith)

pub odd_negates : (c : Circuit) (s : Assignment) (v : ℕ) → circuit_value s c (2 * v + 1) ≡ not (circuit_value s c (2 * v))
odd_negates c s v = odd_literal (circuit_values s c.inputs c.gates) v ∙ ap not (sym (even_value (circuit_values s c.inputs c.gates) v))

half : (v : ℕ) → (2 * v) / 2 ≡ v
half v = omega arith

pub inputs_are_variables : (c : Circuit) → InputsAreVariables c
inputs_are_variables c i x is = (
  λ s.
      even_value (circuit_values s c.inputs c.gates) (1 + i)
      ∙ get_or-first gate_value (false ∷ map (variable_value s) c.inputs) c.gates (1 + i) false (let n : length (map (variable_value s) c.inputs) ≡ length c.inputs = length-map c.inputs (variable_value s) in omega (arith, within, n))
      ∙ shifted (variable_value s x) false (map (variable_value s) c.inputs) (get_or-map (variable_value s) c.inputs i x false within ∙ ap (variable_value s) at),
  ap (λ n. get_or (circuit_cones c.inputs c.gates) n []) (half (1 + i))
      ∙ get_or-first gate_cone ([] ∷ map (λ y. y ∷ []) c.inputs) c.gates (1 + i) [] (let n : length (map (λ (y : ℕ). y ∷ []) c.inputs) ≡ length c.inputs = length-map c.inputs (λ (y : ℕ). y ∷ []) in omega (arith, within, n))
      ∙ shifted (x ∷ []) [] (map (λ (y : ℕ). y ∷ []) c.inputs) (get_or-map (λ (y : ℕ). y ∷ []) c.inputs i x [] within ∙ ap (λ (y : ℕ). y ∷ []) at),
)
  where
    within : i < length c.inputs
    within = slice_get-below c.inputs i x is

    at : get_or c.inputs i x ≡ x
    at = get_or_from_slice_get c.inputs i x x is

    shifted : {T : Type 0} (t d : T) (ts : List T) → get_or ts i d ≡ t → get_or (d ∷ ts) (1 + i) d ≡ t
    shifted t d ts h = ap (λ n. get_or (d ∷ ts) n d) (let e : 1 + i ≡ suc i = omega arith in e) ∙ h

-- what a gate has is by what its operands have in the whole
module _ {T : Type 0} (f : List T → Gate → T) (first : List T) (d : T) (c : Circuit) (circuit : IsCircuit c) (firsts : length first ≡ 1 + length c.inputs) (j : ℕ) (g : Gate) (is : slice_get c.gates j ≡ Some g) where
  front_length : length (take j c.gates) ≡ j
  front_length = length-take-le j c.gates (let within : j < length c.gates = slice_get-below c.gates j g is in omega (arith, within))

  around : c.gates ≡ take j c.gates ++ g ∷ drop (suc j) c.gates
  around = gates-around c.gates j g is

  at_gate : get_or (each_variable f first c.gates) (1 + length c.inputs + j) d ≡ f (each_variable f first (take j c.gates)) g
  at_gate = ap (λ gs. get_or (each_variable f first gs) (1 + length c.inputs + j) d) around
      ∙ get_or-gate f first (take j c.gates) g (drop (suc j) c.gates) (1 + length c.inputs + j) d (omega (arith, firsts, front_length))

  at_operand : (v : ℕ) → v < 1 + length c.inputs + j → get_or (each_variable f first (take j c.gates)) v d ≡ get_or (each_variable f first c.gates) v d
  at_operand v below = sym (ap (λ gs. get_or (each_variable f first gs) v d) around ∙ get_or-before f first (take j c.gates) g (drop (suc j) c.gates) v d (omega (arith, firsts, front_length, below)))

pub gates_are_conjunctions : (c : Circuit) → IsCircuit c → GatesAreConjunctions c
gates_are_conjunctions c circuit j g is s =
    let first : List Bool = false ∷ map (variable_value s) c.inputs in
    let count : length (map (variable_value s) c.inputs) ≡ length c.inputs = length-map c.inputs (variable_value s) in
    let firsts : length first ≡ 1 + length c.inputs = omega (arith, count) in
    let before : List Bool = each_variable gate_value first (take j c.gates) in
    let below = circuit.operands j g is in
    even_value (circuit_values s c.inputs c.gates) (1 + length c.inputs + j)
    ∙ at_gate gate_value first false c circuit firsts j g is
    ∙ ap (λ b. signed (g.left % 2) b && literal_value_in before g.right) (at_operand gate_value first false c circuit firsts j g is (g.left / 2) below.0)
    ∙ ap (λ b. circuit_value s c g.left && signed (g.right % 2) b) (at_operand gate_value first false c circuit firsts j g is (g.right / 2) below.1)

pub gates_reach_by_operands : (c : Circuit) → IsCircuit c → GatesReachByOperands c
gates_reach_by_operands c circuit j g is =
    let first : List (List ℕ) = [] ∷ map (λ x. x ∷ []) c.inputs in
    let count : length (map (λ (x : ℕ). x ∷ []) c.inputs) ≡ length c.inputs = length-map c.inputs (λ (x : ℕ). x ∷ []) in
    let firsts : length first ≡ 1 + length c.inputs = omega (arith, count) in
    let before : List (List ℕ) = each_variable gate_cone first (take j c.gates) in
    let below = circuit.operands j g is in
    ap (λ n. get_or (circuit_cones c.inputs c.gates) n []) (half (1 + length c.inputs + j))
    ∙ at_gate gate_cone first [] c circuit firsts j g is
    ∙ ap (λ xs. xs ++ get_or before (g.right / 2) []) (at_operand gate_cone first [] c circuit firsts j g is (g.left / 2) below.0)
    ∙ ap (λ xs. circuit_cone c g.left ++ xs) (at_operand gate_cone first [] c circuit firsts j g is (g.right / 2) below.1)

pub outputs_are_literals : (c : Circuit) → IsCircuit c → OutputsAreLiterals c
outputs_are_literals c circuit o here =
    let below : o.literal / 2 < variable_count c = All-contains (λ (p : Output). p.literal / 2 < variable_count c) c.outputs o circuit.literals here in
    omega (arith, below)

-- ---- strict circuits

pub inputs_rise : (c : Circuit) → IsStrict c → NumbersRise c.inputs
inputs_rise c strict i x y one next =
    let a : get_or c.inputs i 0 ≡ x = get_or_from_slice_get c.inputs i x 0 one in
    let b : get_or c.inputs (i + 1) 0 ≡ y = get_or_from_slice_get c.inputs (i + 1) y 0 next in
    let up = strict.rising i (slice_get-below c.inputs (i + 1) y next) in
    omega (arith, up, a, b)

pub operands_are_ordered : (c : Circuit) → IsStrict c → OperandsAreOrdered c
operands_are_ordered c strict j g is =
    let ordered = strict.operands j g is in
    let low : 1 ≤ g.right / 2 = ordered.0 in
    let between : g.right / 2 < g.left / 2 = ordered.1 in
    let below : g.left / 2 < 1 + length c.inputs + j = ordered.2 in
    (omega (arith, low), omega (arith, between), (λ same. absurd (omega (arith, between, same))), omega (arith, below))

pub gates_stand_once : (c : Circuit) → IsStrict c → GatesStandOnce c
gates_stand_once c strict i j g one other =
    let a : get_or c.gates i g ≡ g = get_or_from_slice_get c.gates i g g one in
    let b : get_or c.gates j g ≡ g = get_or_from_slice_get c.gates j g g other in
    elim (cases_order i j) [
      | inl same ↦ same
      | inr order ↦ elim order [
        | inl less ↦ absurd (strict.distinct i j g less (slice_get-below c.gates j g other) (a ∙ sym b))
        | inr more ↦ absurd (strict.distinct j i g more (slice_get-below c.gates i g one) (b ∙ sym a))
      ]
    ]

-- the set of the others, and of all where the test holds
differs_or : (e b : Bool) → (e ≡ true → b ≡ true) → (not e || b) ≡ true
differs_or true b h = h refl
differs_or false b h = refl

module _ (c : Circuit) (v : ℕ) where
  -- whether an output or an operand is of the variable
  abbrev is_used : Bool
  is_used = list_any (λ (o : Output). eqb (o.literal / 2) v) c.outputs || list_any (λ (g : Gate). eqb (g.left / 2) v || eqb (g.right / 2) v) c.gates

  abbrev others : ℕ → Bool
  others u = not (eqb u v) || is_used

  others-outputs : All (λ (o : Output). others (o.literal / 2) ≡ true) c.outputs
  others-outputs k d within = differs_or _ _ (λ h. or_left _ _ (list_any-member (λ (o : Output). eqb (o.literal / 2) v) c.outputs (get_or c.outputs k d) (Contains-get_or c.outputs k d within) h))

  others-closed : HasOperands c others
  others-closed j g is own =
      let here : Contains c.gates g = Contains-from_slice_get c.gates j g is in
      let gate = λ (h : (eqb (g.left / 2) v || eqb (g.right / 2) v) ≡ true). or_right (list_any (λ (o : Output). eqb (o.literal / 2) v) c.outputs) _ (list_any-member (λ (k : Gate). eqb (k.left / 2) v || eqb (k.right / 2) v) c.gates g here h) in
      (differs_or _ _ (λ h. gate (or_left _ _ h)), differs_or _ _ (λ h. gate (or_right _ _ h)))

  used-from : is_used ≡ true → IsUsed c v
  used-from h = elim (or_cases _ _ h) [
    | inl output ↦ inl (let o = list_any-find (λ (o : Output). eqb (o.literal / 2) v) c.outputs output in (o.0, o.1, eqb-true ((o.0).literal / 2) v o.2))
    | inr gate ↦ inr (
        let g = list_any-find (λ (g : Gate). eqb (g.left / 2) v || eqb (g.right / 2) v) c.gates gate in (
          g.0,
          g.1,
          elim (or_cases _ _ g.2) [
            | inl left ↦ inl (eqb-true ((g.0).left / 2) v left)
            | inr right ↦ inr (eqb-true ((g.0).right / 2) v right)
          ],
        ))
  ]

  itself : others v ≡ true → is_used ≡ true
  itself h = sym (ap (λ e. not e || is_used) (eq-eqb v v refl)) ∙ h

pub all_are_used : (c : Circuit) → IsStrict c → AllAreUsed c
all_are_used c strict v low high = used-from c v (itself c v (strict.reached v low (omega (arith, high)) (others c v) (others-outputs c v) (others-closed c v)))
