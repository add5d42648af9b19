-- The text of a layout is read as its circuit.
use Rattle.std.proofs.Common.{◌≡◌, ◌∙◌, sym, ap, subst, refl, inl, inr, ◌⊎◌, ℕ, ◌+◌, ◌*◌, ◌/◌, ◌^◌, ◌<◌, ◌≤◌, Bool, true, false, ◌||◌, eqb, eqb-true, eq-eqb, nat_lt, List, [], ◌∷◌, length, get_or, map, Option, Some, None, All, Contains, arith}
use Rattle.std.specs.Char.{is_ascii_digit}
use Rattle.std.specs.Fmt.{decimal}
use Rattle.std.specs.List.{list_all, list_any}
use Rattle.std.proofs.lemmas.Bool.{or_cases, or_left, or_right}
use Rattle.std.proofs.lemmas.Bool.Decides.{nat_tests}
use Rattle.std.proofs.lemmas.List.{get_or_default, length-map}
use Rattle.std.proofs.lemmas.List.Elements.{Contains-get_or}
use Rattle.std.proofs.lemmas.Option.{get_or_from_slice_get, slice_get-get_or, slice_get_within}
use Rattle.craig_spec.specs.Circuit.{Gate, HasOperands, IsCircuit, IsReached, Output, variable_count}
use Rattle.craig_spec.specs.CircuitCnf.{CircuitClauses, NamedRoot, Operands, Root, circuit_defined, circuit_literal, circuit_with, is_root_before, literal_of_root, occurs_in_text, read_cnf, script_variables, variable_of_root}
use Rattle.craig_spec.specs.CircuitCnf as cnf
use Rattle.craig_spec.specs.CircuitCnfText.{gates_clauses}
use Rattle.craig_spec.specs.Occurs.{occurs}
use Rattle.craig_spec.proofs.MemberLemmas.{Contains-from_image, Contains-from_slice_get, Contains-image, list_all-members, list_any-find, list_any-member, map-map, slice_get-from_map}
use Rattle.craig_aiger.specs.Layouts.{IsWritable, Layout, circuit_of}
use Rattle.craig_aiger.specs.OutNames.{family_text, name_text}
use Rattle.craig_aiger.specs.declared.family.Family.{Family}
use Rattle.craig_aiger.specs.declared.family.Family.TheVariants.{McMillan, Pudlak, Inverse}
use Rattle.craig_aiger.specs.declared.out_name.OutName.{OutName}
use Rattle.craig_spec.proofs.TextWordLemmas.{Lacks, lacks-append, lacks-decimal}
use Rattle.craig_cnf.specs.LayoutClauses.{layout_clauses, layout_text, named_root, text_literal, text_operands, text_root, text_variable}
use Rattle.craig_cnf.proofs.CnfReadingLemmas.{AreWords, IsRootVariable, IsWord, IsWritten, text_read}
use Rattle.craig_cnf.proofs.DimacsReadingLemmas.{EachHasVariables, IsVariable, greatest-small}
use Rattle.craig_cnf.proofs.GateClausesLemmas.{AreBefore, gates_read, is_before-test}
use Rattle.craig_spec.proofs.EachLemmas.{Each, each_of, map_same}
use Rattle.craig_cnf.proofs.LayoutReadingLemmas.{Kind, OfGate, OfInput, are_before, gate_text, input_text, kind, literal_back, operands, rises, rising-filter, root_back, text_before}
use Rattle.craig_cnf.proofs.OccurrenceLemmas.{length-gates_clauses, occurs-cases, occurs-operand, uses}

-- the bytes of a name
letter : (b : ℕ) (f : Option Family) → eqb 109 b ≡ false → eqb 112 b ≡ false → eqb 105 b ≡ false → Lacks b (family_text f)
letter b None m p i = refl
letter b (Some McMillan) m p i = rw m refl
letter b (Some Pudlak) m p i = rw p refl
letter b (Some Inverse) m p i = rw i refl

lacks-name : (b : ℕ) (o : OutName) → eqb 109 b ≡ false → eqb 112 b ≡ false → eqb 105 b ≡ false → is_ascii_digit b ≡ false → o.cut < 2 ^ 64 → Lacks b (name_text o)
lacks-name b o m p i digit h = lacks-append b (family_text o.family) (decimal o.cut) (letter b o.family m p i) (lacks-decimal b o.cut digit h)

-- the clauses of gates have variables that can be written
gates_have_variables : (gate : ℕ) (gates : List Operands) → 0 < gate → gate + length gates < 10 ^ 18 → AreBefore gate gates → EachHasVariables (gates_clauses gate gates)
gates_have_variables gate [] some small h = tt
gates_have_variables gate (g ∷ gates) some small h =
    let own : IsVariable gate = record { some = omega (arith, some); small = omega (arith, small) } in
    let left : IsVariable g.left.var = record { some = omega (arith, h.0.0.some); small = omega (arith, h.0.0.below, small) } in
    let right : IsVariable g.right.var = record { some = omega (arith, h.0.1.some); small = omega (arith, h.0.1.below, small) } in
    ((own, (left, tt)), ((own, (right, tt)), ((own, (left, (right, tt))), gates_have_variables (gate + 1) gates (omega arith) (omega (arith, small)) h.1)))

root_small : (r : Root) → IsRootVariable r → variable_of_root r < 10 ^ 18
root_small (cnf.Fixed value) h = omega arith
root_small (cnf.Defined l) h = h.small

roots_small : (rs : List NamedRoot) → AreWords rs → cnf.greatest_of_roots rs < 10 ^ 18
roots_small [] h = omega arith
roots_small (r ∷ rs) h = omega (arith, root_small r.root h.0.variable, roots_small rs h.1)

module _ (top : ℕ) (l : Layout) (h : IsWritable l) (bound : All (λ x. x ≤ top) l.inputs) where
  abbrev I : ℕ
  I = length l.inputs

  abbrev A : ℕ
  A = length l.gates

  abbrev said : CircuitClauses
  said = layout_clauses top l

  abbrev text_gates : List Operands
  text_gates = map (text_operands top l.inputs) l.gates

  abbrev to_output : (OutName × ℕ) → Output
  to_output o = record { name = name_text o.0; literal = o.1 }

  abbrev to_gate : (ℕ × ℕ) → Gate
  to_gate g = record { left = g.0; right = g.1 }

  -- whether an output or an operand is of the variable
  abbrev gate_uses : ℕ → (ℕ × ℕ) → Bool
  gate_uses v g = eqb v (g.0 / 2) || eqb v (g.1 / 2)

  abbrev output_uses : ℕ → (OutName × ℕ) → Bool
  output_uses v o = eqb v (o.1 / 2)

  abbrev used : ℕ → Bool
  used v = list_any (output_uses v) l.outputs || list_any (gate_uses v) l.gates

  used-output : (o : OutName × ℕ) → Contains l.outputs o → used (o.1 / 2) ≡ true
  used-output o here = or_left (list_any (output_uses (o.1 / 2)) l.outputs) (list_any (gate_uses (o.1 / 2)) l.gates) (list_any-member (output_uses (o.1 / 2)) l.outputs o here (eq-eqb (o.1 / 2) (o.1 / 2) refl))

  used-left : (g : ℕ × ℕ) → Contains l.gates g → used (g.0 / 2) ≡ true
  used-left g here = or_right (list_any (output_uses (g.0 / 2)) l.outputs) (list_any (gate_uses (g.0 / 2)) l.gates) (list_any-member (gate_uses (g.0 / 2)) l.gates g here (or_left (eqb (g.0 / 2) (g.0 / 2)) (eqb (g.0 / 2) (g.1 / 2)) (eq-eqb (g.0 / 2) (g.0 / 2) refl)))

  used-right : (g : ℕ × ℕ) → Contains l.gates g → used (g.1 / 2) ≡ true
  used-right g here = or_right (list_any (output_uses (g.1 / 2)) l.outputs) (list_any (gate_uses (g.1 / 2)) l.gates) (list_any-member (gate_uses (g.1 / 2)) l.gates g here (or_right (eqb (g.1 / 2) (g.0 / 2)) (eqb (g.1 / 2) (g.1 / 2)) (eq-eqb (g.1 / 2) (g.1 / 2) refl)))

  outputs_used : All (λ (o : Output). used (o.literal / 2) ≡ true) (circuit_of l).outputs
  outputs_used k d within =
      let m = Contains-from_image to_output l.outputs (get_or (map to_output l.outputs) k d) (Contains-get_or (map to_output l.outputs) k d within) in
      subst (λ (p : Output). used (p.literal / 2) ≡ true) (sym m.2) (used-output m.0 m.1)

  operands_used : HasOperands (circuit_of l) used
  operands_used j g is some =
      let p = slice_get-from_map to_gate l.gates j g is in
      let here : Contains l.gates p.0 = Contains-from_slice_get l.gates j p.0 p.1 in
      (subst (λ (q : Gate). used (q.left / 2) ≡ true) p.2 (used-left p.0 here), subst (λ (q : Gate). used (q.right / 2) ≡ true) p.2 (used-right p.0 here))

  -- what is reached is used
  reached-used : (v : ℕ) → IsReached (circuit_of l) v → used v ≡ true
  reached-used v r = r used outputs_used operands_used

  root_variable : (n : ℕ) → 2 ≤ n → variable_of_root (text_root top l.inputs n) ≡ text_variable top l.inputs (n / 2)
  root_variable n some = let t : nat_lt n 2 ≡ false = grind (arith, nat_tests, some) in rw t refl

  -- what is used occurs in the text
  output_occurs : (v : ℕ) (o : OutName × ℕ) → 1 ≤ v → Contains l.outputs o → v ≡ o.1 / 2 → list_any (λ (r : NamedRoot). eqb (text_variable top l.inputs v) (variable_of_root r.root)) said.roots ≡ true
  output_occurs v o some here is =
      list_any-member (λ (r : NamedRoot). eqb (text_variable top l.inputs v) (variable_of_root r.root)) said.roots (named_root top l.inputs o) (Contains-image (named_root top l.inputs) l.outputs o here)
      (eq-eqb (text_variable top l.inputs v) (variable_of_root (text_root top l.inputs o.1)) (ap (text_variable top l.inputs) is ∙ sym (root_variable o.1 (omega (arith, is, some)))))

  gate_occurs : (v : ℕ) (g : ℕ × ℕ) → Contains l.gates g → (v ≡ g.0 / 2) ⊎ (v ≡ g.1 / 2) → list_any (uses (text_variable top l.inputs v)) text_gates ≡ true
  gate_occurs v g here (inl is) =
      list_any-member (uses (text_variable top l.inputs v)) text_gates (text_operands top l.inputs g) (Contains-image (text_operands top l.inputs) l.gates g here)
      (or_left (eqb (text_variable top l.inputs v) (text_variable top l.inputs (g.0 / 2))) (eqb (text_variable top l.inputs v) (text_variable top l.inputs (g.1 / 2))) (eq-eqb (text_variable top l.inputs v) (text_variable top l.inputs (g.0 / 2)) (ap (text_variable top l.inputs) is)))
  gate_occurs v g here (inr is) =
      list_any-member (uses (text_variable top l.inputs v)) text_gates (text_operands top l.inputs g) (Contains-image (text_operands top l.inputs) l.gates g here)
      (or_right (eqb (text_variable top l.inputs v) (text_variable top l.inputs (g.0 / 2))) (eqb (text_variable top l.inputs v) (text_variable top l.inputs (g.1 / 2))) (eq-eqb (text_variable top l.inputs v) (text_variable top l.inputs (g.1 / 2)) (ap (text_variable top l.inputs) is)))

  which : (v a b : ℕ) → (eqb v a || eqb v b) ≡ true → (v ≡ a) ⊎ (v ≡ b)
  which v a b e = elim (or_cases (eqb v a) (eqb v b) e) [ inl x ↦ inl (eqb-true v a x) | inr y ↦ inr (eqb-true v b y) ]

  text_occurs : (v : ℕ) → 1 ≤ v → used v ≡ true → occurs_in_text said (text_variable top l.inputs v) ≡ true
  text_occurs v some u =
      elim (or_cases (list_any (output_uses v) l.outputs) (list_any (gate_uses v) l.gates) u) [
        | inl o ↦ (let f = list_any-find (output_uses v) l.outputs o in
            or_left (list_any (λ (r : NamedRoot). eqb (text_variable top l.inputs v) (variable_of_root r.root)) said.roots) (occurs (text_variable top l.inputs v) said.clauses) (output_occurs v f.0 some f.1 (eqb-true v (f.0.1 / 2) f.2)))
        | inr g ↦ (let f = list_any-find (gate_uses v) l.gates g in
            or_right (list_any (λ (r : NamedRoot). eqb (text_variable top l.inputs v) (variable_of_root r.root)) said.roots) (occurs (text_variable top l.inputs v) said.clauses)
            (occurs-operand (text_variable top l.inputs v) (top + 1) text_gates (gate_occurs v f.0 f.1 (which v (f.0.0 / 2) (f.0.1 / 2) f.2))))
      ]

  -- and a script variable that occurs is an input
  is_input_by : (v z : ℕ) → Kind top l h bound v → z ≡ text_variable top l.inputs v → z ≤ top → Contains l.inputs z
  is_input_by v z (OfInput i within is) e small =
      subst (Contains l.inputs) (sym (e ∙ ap (text_variable top l.inputs) is ∙ input_text top l h bound i within)) (Contains-get_or l.inputs i 0 within)
  is_input_by v z (OfGate above) e small = absurd (omega (arith, e, gate_text top l h bound v above, small, above))

  is_input : (v z : ℕ) → 1 ≤ v → z ≡ text_variable top l.inputs v → z ≤ top → Contains l.inputs z
  is_input v z some e small = is_input_by v z (kind top l h bound v some) e small

  root_input_by : (n z : ℕ) (t : Bool) → nat_lt n 2 ≡ t → 1 ≤ z → z ≤ top → z ≡ variable_of_root (text_root top l.inputs n) → Contains l.inputs z
  root_input_by n z true e low small is = absurd (let zero : z ≡ 0 = is ∙ (rw e refl) in omega (arith, zero, low))
  root_input_by n z false e low small is =
      let some : 2 ≤ n = grind (arith, nat_tests, e) in
      is_input (n / 2) z (omega (arith, some)) (is ∙ root_variable n some) small

  placed : (g : ℕ × ℕ) → Contains l.gates g → (2 ≤ g.0) × (2 ≤ g.1)
  placed g here =
      let o = operands top l h bound here.0 g (slice_get-get_or l.gates here.0 g here.1 ∙ ap Some here.2) in
      (o.0, o.1)

  gate_input : (g : ℕ × ℕ) (z : ℕ) → Contains l.gates g → z ≤ top → (z ≡ text_variable top l.inputs (g.0 / 2)) ⊎ (z ≡ text_variable top l.inputs (g.1 / 2)) → Contains l.inputs z
  gate_input g z here small (inl is) = is_input (g.0 / 2) z (let p = placed g here in omega (arith, p.0)) is small
  gate_input g z here small (inr is) = is_input (g.1 / 2) z (let p = placed g here in omega (arith, p.1)) is small

  root_occurs-input : (z : ℕ) → 1 ≤ z → z ≤ top → list_any (λ (r : NamedRoot). eqb z (variable_of_root r.root)) said.roots ≡ true → Contains l.inputs z
  root_occurs-input z low small e =
      let f = list_any-find (λ (r : NamedRoot). eqb z (variable_of_root r.root)) said.roots e in
      let m = Contains-from_image (named_root top l.inputs) l.outputs f.0 f.1 in
      let is : z ≡ variable_of_root (text_root top l.inputs m.0.1) = eqb-true z (variable_of_root (f.0).root) f.2 ∙ ap (λ (r : NamedRoot). variable_of_root r.root) m.2 in
      root_input_by m.0.1 z (nat_lt m.0.1 2) refl low small is

  operand_occurs-input : (z : ℕ) → z ≤ top → list_any (uses z) text_gates ≡ true → Contains l.inputs z
  operand_occurs-input z small e =
      let f = list_any-find (uses z) text_gates e in
      let m = Contains-from_image (text_operands top l.inputs) l.gates f.0 f.1 in
      let is : (eqb z (text_variable top l.inputs (m.0.0 / 2)) || eqb z (text_variable top l.inputs (m.0.1 / 2))) ≡ true = sym (ap (uses z) m.2) ∙ f.2 in
      gate_input m.0 z m.1 small (which z (text_variable top l.inputs (m.0.0 / 2)) (text_variable top l.inputs (m.0.1 / 2)) is)

  occurs-input : (z : ℕ) → 1 ≤ z → z ≤ top → occurs_in_text said z ≡ true → Contains l.inputs z
  occurs-input z low small e =
      elim (or_cases (list_any (λ (r : NamedRoot). eqb z (variable_of_root r.root)) said.roots) (occurs z said.clauses) e) [
        | inl r ↦ root_occurs-input z low small r
        | inr c ↦ (elim (occurs-cases z (top + 1) text_gates c) [
          | inl above ↦ absurd (omega (arith, above, small))
          | inr u ↦ operand_occurs-input z small u
        ])
      ]

  input-occurs : (z : ℕ) → Contains l.inputs z → occurs_in_text said z ≡ true
  input-occurs z (k, within, at) =
      let is : text_variable top l.inputs (1 + k) ≡ z = input_text top l h bound k within ∙ get_or_default l.inputs k 0 z within ∙ at in
      let n : length (circuit_of l).gates ≡ A = length-map l.gates to_gate in
      let reached : used (1 + k) ≡ true = reached-used (1 + k) (h.strict.reached (1 + k) (omega arith) (omega (arith, within, n))) in
      sym (ap (occurs_in_text said) is) ∙ text_occurs (1 + k) (omega arith) reached

  input-bounds : (z : ℕ) → Contains l.inputs z → (1 ≤ z) × (z ≤ top)
  input-bounds z (k, within, at) = (subst (λ x. 1 ≤ x) at (h.variables k z within).0, subst (λ x. x ≤ top) at (bound k z within))

  variables_are : script_variables top said ≡ l.inputs
  variables_are = rising-filter l.inputs (occurs_in_text said) top (rises top l h bound) input-bounds occurs-input input-occurs

  -- the roots are literals of the circuit
  root_ok_by : (n : ℕ) (t : Bool) → nat_lt n 2 ≡ t → n < 2 * (1 + I + A) → is_root_before (top + 1 + A) (text_root top l.inputs n) ≡ true
  root_ok_by n true e small = rw e refl
  root_ok_by n false e small =
      let some : 2 ≤ n = grind (arith, nat_tests, e) in
      rw e (is_before-test (top + 1 + A) (text_literal top l.inputs n) (text_before top l h bound n A some (omega (arith, small))))

  gate_count : length text_gates ≡ A
  gate_count = length-map l.gates (text_operands top l.inputs)

  output_small : (o : OutName × ℕ) → Contains l.outputs o → o.1 < 2 * (1 + I + A)
  output_small o (k, within, at) = subst (λ (p : OutName × ℕ). p.1 < 2 * (1 + I + A)) at (h.literals k o within)

  roots_ok : list_all (λ (r : NamedRoot). is_root_before (top + 1 + length text_gates) r.root) said.roots ≡ true
  roots_ok =
      list_all-members (λ (r : NamedRoot). is_root_before (top + 1 + length text_gates) r.root) said.roots
      (λ r here. let m = Contains-from_image (named_root top l.inputs) l.outputs r here in
      ap (λ (q : NamedRoot). is_root_before (top + 1 + length text_gates) q.root) m.2 ∙ ap (λ n. is_root_before (top + 1 + n) (text_root top l.inputs m.0.1)) gate_count
      ∙ root_ok_by m.0.1 (nat_lt m.0.1 2) refl (output_small m.0 m.1))

  -- gates and outputs come back
  gate_back : (g : ℕ × ℕ) → 2 ≤ g.0 → 2 ≤ g.1 → record { left = circuit_literal top l.inputs (text_literal top l.inputs g.0); right = circuit_literal top l.inputs (text_literal top l.inputs g.1) } ≡ to_gate g
  gate_back g some_left some_right =
      let p = literal_back top l h bound g.0 some_left in
      let q = literal_back top l h bound g.1 some_right in
      λ i. record { left = p i; right = q i }

  circuit_is : circuit_with top l.inputs text_gates said.roots ≡ circuit_of l
  circuit_is =
      let gates : map (λ (g : Operands). record { left = circuit_literal top l.inputs g.left; right = circuit_literal top l.inputs g.right }) text_gates ≡ map to_gate l.gates =
      map-map (λ (g : Operands). record { left = circuit_literal top l.inputs g.left; right = circuit_literal top l.inputs g.right }) (text_operands top l.inputs) l.gates
      ∙ map_same (λ (g : ℕ × ℕ). record { left = circuit_literal top l.inputs (text_literal top l.inputs g.0); right = circuit_literal top l.inputs (text_literal top l.inputs g.1) }) to_gate l.gates
      (each_of (λ (g : ℕ × ℕ). record { left = circuit_literal top l.inputs (text_literal top l.inputs g.0); right = circuit_literal top l.inputs (text_literal top l.inputs g.1) } ≡ to_gate g) l.gates
      (λ j g is. let o = operands top l h bound j g is in gate_back g o.0 o.1)) in
      let outputs : map (λ (r : NamedRoot). record { name = r.name; literal = literal_of_root top l.inputs r.root }) said.roots ≡ map to_output l.outputs =
      map-map (λ (r : NamedRoot). record { name = r.name; literal = literal_of_root top l.inputs r.root }) (named_root top l.inputs) l.outputs
      ∙ map_same (λ (o : OutName × ℕ). record { name = name_text o.0; literal = literal_of_root top l.inputs (text_root top l.inputs o.1) }) to_output l.outputs
      (each_of (λ (o : OutName × ℕ). record { name = name_text o.0; literal = literal_of_root top l.inputs (text_root top l.inputs o.1) } ≡ to_output o) l.outputs
      (λ j o is. ap (λ (n : ℕ). record { name = name_text o.0; literal = n }) (root_back top l h bound o.1))) in
      λ i. record { inputs = l.inputs; gates = gates i; outputs = outputs i }

  defined : circuit_defined top said ≡ Some (circuit_of l)
  unfolding circuit_defined
  defined = rw (gates_read (top + 1) text_gates (are_before top l h bound), roots_ok) (ap Some (ap (λ xs. circuit_with top xs text_gates said.roots) variables_are ∙ circuit_is))

  -- it is a circuit
  pub layout_is_circuit : IsCircuit (circuit_of l)
  layout_is_circuit = record {
    operands = λ j g is. let s = h.strict.operands j g is in (s.2, omega (arith, s.1, s.2));
    literals = λ k d within.
        let m = Contains-from_image to_output l.outputs (get_or (map to_output l.outputs) k d) (Contains-get_or (map to_output l.outputs) k d within) in
        let small : m.0.1 / 2 < variable_count (circuit_of l) = omega (arith, output_small m.0 m.1, length-map l.gates to_gate) in
        subst (λ (p : Output). p.literal / 2 < variable_count (circuit_of l)) (sym m.2) small;
  }

  -- and the text can be written
  root_word_by : (n : ℕ) (t : Bool) → nat_lt n 2 ≡ t → top < 2 ^ 32 → n < 2 * (1 + I + A) → IsRootVariable (text_root top l.inputs n)
  root_word_by n true e low small = rw e tt
  root_word_by n false e low small =
      let some : 2 ≤ n = grind (arith, nat_tests, e) in
      let b = text_before top l h bound n A some (omega (arith, small)) in
      let v : IsVariable (text_literal top l.inputs n).var = record { some = omega (arith, b.some); small = omega (arith, b.below, low, h.few_gates) } in
      rw e v

  is_word : (o : OutName × ℕ) → top < 2 ^ 32 → o.0.cut < 2 ^ 32 → o.1 < 2 * (1 + I + A) → IsWord (named_root top l.inputs o)
  is_word o low cut small = record {
    no_space = lacks-name 32 o.0 refl refl refl refl (omega (arith, cut));
    no_newline = lacks-name 10 o.0 refl refl refl refl (omega (arith, cut));
    variable = root_word_by o.1 (nat_lt o.1 2) refl low small;
  }

  are_words : (os : List (OutName × ℕ)) → Each (λ o. IsWord (named_root top l.inputs o)) os → AreWords (map (named_root top l.inputs) os)
  are_words [] each = tt
  are_words (o ∷ os) each = (each.0, are_words os each.1)

  words : top < 2 ^ 32 → AreWords said.roots
  words low =
      are_words l.outputs (each_of (λ (o : OutName × ℕ). IsWord (named_root top l.inputs o)) l.outputs (λ k o is.
      let within : k < length l.outputs = slice_get_within l.outputs k o is in
      let at : get_or l.outputs k o ≡ o = get_or_from_slice_get l.outputs k o o is in
      is_word o low (subst (λ (p : OutName × ℕ). p.0.cut < 2 ^ 32) at (h.cuts k o within)) (subst (λ (p : OutName × ℕ). p.1 < 2 * (1 + I + A)) at (h.literals k o within))))

  is_written : top < 2 ^ 32 → IsWritten said
  is_written low =
      let variables : EachHasVariables said.clauses = gates_have_variables (top + 1) text_gates (omega arith) (omega (arith, low, gate_count, h.few_gates)) (are_before top l h bound) in
      record {
        roots = words low;
        clauses = variables;
        greatest = omega (arith, roots_small said.roots (words low), greatest-small said.clauses variables);
        count = omega (arith, length-gates_clauses (top + 1) text_gates, gate_count, h.few_gates);
      }

  -- what is written is read back
  pub layout_read : top < 2 ^ 32 → read_cnf top (layout_text top l) ≡ Some (circuit_of l)
  unfolding read_cnf
  layout_read low = rw (text_read said (is_written low)) defined
