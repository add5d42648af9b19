-- The text of a layout is read as a circuit with the layout's outputs.
use Rattle.std.proofs.Common.{◌≡◌, ℕ, zero, suc, ◌+◌, ◌*◌, ◌^◌, ◌<◌, ◌≤◌, ◌/◌, true, false, eqb, nat_le, nat_lt, List, [], ◌∷◌, length, get_or, take, drop, map, All, AllPairs, Option, Some, None, Ok, codes, slice_get, refl, sym, ap, ◌∙◌, subst, arith}
use Rattle.std.specs.Bool.{if◌then◌else◌}
use Rattle.std.specs.Fmt.{decimal}
use Rattle.std.specs.List.{list_any, range_with_len}
use Rattle.std.specs.List.Sorted.{IsStrictlyIncreasing}
use Rattle.std.specs.Str.{bytes_eq}
use Rattle.std.proofs.lemmas.Bool.Decides.{nat_tests}
use Rattle.std.proofs.lemmas.List.{length-map}
use Rattle.std.proofs.lemmas.List.Folds.{list_any_none}
use Rattle.std.proofs.lemmas.List.FromFn.{length-range_with_len}
use Rattle.std.proofs.lemmas.List.Kept.{AllPairs-from_increasing}
use Rattle.std.proofs.lemmas.Option.{slice_get_within, get_or_from_slice_get}
use Rattle.craig_spec.specs.Truth.{variable_value}
use Rattle.craig_spec.specs.Circuit.{Circuit, Gate, Output, circuit_cone, circuit_value, variable_count}
use Rattle.craig_spec.specs.AigerReading as reading
use Rattle.craig_spec.specs.AigerFault.{FaultKind}
use Rattle.craig_spec.specs.AigerReading.{AigerFile, Counts, GateLine, RootLine, Symbol, TextLine, Written, all_differ, all_read, by_depth, counts_checked, counts_of, fault, file_by, file_written, header_in, header_of, input_variables, lines_of, moved, moved_gates, name_of, named_output, named_roots, names_of, numbered, numbers_in, read_aag, read_from, variable_in, variables_of, written_in, ◌>>?◌}
use Rattle.craig_aiger.specs.AsciiText.{aag_text}
use Rattle.craig_aiger.specs.declared.out_name.OutName.{OutName}
use Rattle.craig_aiger.specs.Layouts.{IsWritable, Layout, circuit_of}
use Rattle.craig_aiger.specs.OutNames.{name_text}
use Rattle.craig_aiger.specs.RoundTrip.{ReadsAs, SameCircuit}
use Rattle.craig_spec.proofs.AigerDepthLemmas.{HaveDepths-ordered, InOrder}
use Rattle.craig_spec.proofs.AigerMovedLemmas.{AreInside-ordered, InOrder-moved, IsOrder, IsOrder-by_depth, moved_within}
use Rattle.craig_spec.proofs.EachLemmas.{Each, each_of, map_same}
use Rattle.craig_aiger.proofs.TextFileLemmas.{each_mapped, file_is, numbered_same, to_gate, to_map, Within}
use Rattle.craig_aiger.proofs.TextLinesLemmas.{aag_text-lines, body_lines, header_bytes, text_lines, text_lines-lines}
use Rattle.craig_aiger.proofs.CircuitMovedLemmas.{cone_moved, value_moved}
use Rattle.craig_aiger.proofs.TextSectionLemmas.{bytes_of, counts, literals_of, operands_of}
use Rattle.craig_aiger.proofs.TextSymbolLemmas.{input_name, layout_symbols, output_name}
use Rattle.craig_aiger.proofs.TextWordLemmas.{bytes-lines_of, five_numbers, variable_in-decimal}
use Rattle.craig_spec.proofs.MemberLemmas.{slice_get-to_map, map-map}
use Rattle.craig_aiger.proofs.WritableLemmas.{mapped}
use Rattle.craig_aiger.proofs.TextWrittenLemmas.{Said, said, written_of}

-- numbers that rise are all different
all_apart : (xs : List ℕ) → AllPairs (λ x y. x < y) xs → all_differ xs ≡ true
all_apart [] h = refl
all_apart (x ∷ xs) h =
    let none : list_any (eqb x) xs ≡ false = list_any_none (eqb x) xs (λ k d within. let less : x < get_or xs k d = h 0 (suc k) d (omega arith) (omega arith) in grind (arith, nat_tests, less)) in
    rw none (all_apart xs (λ i j d less within. h (suc i) (suc j) d (omega arith) (omega arith)))

variables_read : (symbols : List Symbol) (n : ℕ) (xs : List ℕ) → ((i x : ℕ) → slice_get xs i ≡ Some x → name_of symbols 105 (n + i) ≡ Some (decimal x)) → Each (λ x. (1 ≤ x) × (x ≤ 2147483647)) xs →
    all_read (map (λ (name : Option (List ℕ)). name >>? variable_in) (map (name_of symbols 105) (range_with_len n (length xs)))) ≡ Some xs
variables_read symbols n [] names h = refl
variables_read symbols n (x ∷ xs) names h =
    let e0 : n + 0 ≡ n = omega arith in
    let here : name_of symbols 105 n ≡ Some (decimal x) = rw e0 at (names 0 x refl) in
    let rest : all_read (map (λ (name : Option (List ℕ)). name >>? variable_in) (map (name_of symbols 105) (range_with_len (n + 1) (length xs)))) ≡ Some xs = variables_read symbols (n + 1) xs (λ i y e. let e1 : n + suc i ≡ (n + 1) + i = omega arith in rw e1 at (names (suc i) y e)) h.1 in
    rw (here, variable_in-decimal x h.0.0 h.0.1, rest) refl

pub inputs_read : (symbols : List Symbol) (xs : List ℕ) → ((i x : ℕ) → slice_get xs i ≡ Some x → name_of symbols 105 i ≡ Some (decimal x)) → Each (λ x. (1 ≤ x) × (x ≤ 2147483647)) xs → IsStrictlyIncreasing xs → input_variables (names_of symbols 105 (length xs)) ≡ Some xs
inputs_read symbols xs names h rising =
    rw (variables_read symbols 0 xs (λ i x e. let e0 : i ≡ 0 + i = omega arith in rw e0 at (names i x e)) h, all_apart xs (AllPairs-from_increasing xs rising)) refl

-- the output of a circuit
abbrev pub to_output : (ℕ → ℕ) → (OutName × ℕ) → Output
to_output place o = record { name = name_text o.0; literal = place o.1 }

pub outputs_read : (renumbered place : ℕ → ℕ) (symbols : List Symbol) (n : ℕ) (roots : List RootLine) (xs : List (OutName × ℕ)) → literals_of roots ≡ map (λ (x : OutName × ℕ). x.1) xs → ((i : ℕ) (x : OutName × ℕ) → slice_get xs i ≡ Some x → name_of symbols 111 (n + i) ≡ Some (name_text x.0)) → Each (λ (x : OutName × ℕ). renumbered x.1 ≡ place x.1) xs →
    all_read (map named_output (named_roots renumbered symbols 111 n roots)) ≡ Some (map (to_output place) xs)
outputs_read renumbered place symbols n [] [] e names h = refl
outputs_read renumbered place symbols n [] (x ∷ xs) e names h = absurd cc
outputs_read renumbered place symbols n (r ∷ roots) [] e names h = absurd cc
outputs_read renumbered place symbols n (r ∷ roots) (x ∷ xs) e names h =
    let same : r.literal ≡ x.1 = cc in
    let others : literals_of roots ≡ map (λ (x : OutName × ℕ). x.1) xs = cc in
    let e0 : n + 0 ≡ n = omega arith in
    let here : name_of symbols 111 n ≡ Some (name_text x.0) = rw e0 at (names 0 x refl) in
    let literal : renumbered r.literal ≡ place x.1 = ap renumbered same ∙ h.0 in
    let rest : all_read (map named_output (named_roots renumbered symbols 111 (n + 1) roots)) ≡ Some (map (to_output place) xs) = outputs_read renumbered place symbols (n + 1) roots xs others (λ i y f. let e1 : n + suc i ≡ (n + 1) + i = omega arith in rw e1 at (names (suc i) y f)) h.1 in
    rw (here, literal, rest) refl

pub header_test : (i a : ℕ) → nat_le (i + 0 + a) (i + a) ≡ true
header_test i a = grind (arith, nat_tests)

-- the header is read
header_read : (line : TextLine) (i o a : ℕ) → line.bytes ≡ header_bytes i o a → i + a < 10 ^ 18 → o < 10 ^ 18 → header_in line ≡ Ok (counts i o a)
unfolding header_in
header_read line i o a bytes few few_outputs =
    ap (λ (b : List ℕ). if bytes_eq (take 4 b) (codes "aag ") then header_of line.offset (numbers_in (drop 4 b)) else fault FaultKind.Header line.offset) bytes
    ∙ ap (header_of line.offset) (five_numbers (i + a) i o a few (omega arith) few_outputs (omega arith)) ∙ (rw (header_test i a) refl)

read_through : (end : ℕ) (line : TextLine) (lines : List TextLine) (c : Counts) (w : Written) (f : AigerFile) → header_in line ≡ Ok c → written_in c end lines ≡ Ok w → file_written w ≡ Ok f → read_from end (line ∷ lines) ≡ Ok f
read_through end line lines c w f header body file = rw (header, body, file) refl

pub each_then : {X : Type 0} (P Q : X → Type 0) (xs : List X) → ((x : X) → P x → Q x) → Each P xs → Each Q xs
each_then P Q [] f h = tt
each_then P Q (x ∷ xs) f h = (f x h.0, each_then P Q xs f h.1)

pub all_of_each : {X : Type 0} (P : X → Type 0) (xs : List X) → Each P xs → All P xs
all_of_each P [] h k d within = absurd (omega arith)
all_of_each P (x ∷ xs) h zero d within = h.0
all_of_each P (x ∷ xs) h (suc k) d within = all_of_each P xs h.1 k d (omega arith)

pub each_of_all : {X : Type 0} (P : X → Type 0) (xs : List X) → All P xs → Each P xs
each_of_all P xs h = each_of P xs (λ i x e. subst P (get_or_from_slice_get xs i x x e) (h i x (slice_get_within xs i x e)))

-- the literals of the constant and the inputs stay
moved_constant : (first : ℕ) (order : List ℕ) (n : ℕ) → n / 2 < first → moved first order n ≡ n
moved_constant first order n below = let e : nat_lt (n / 2) first ≡ true = grind (arith, nat_tests, below) in rw e refl

module _ (l : Layout) (h : IsWritable l) where
  abbrev pub first : ℕ
  first = 1 + length l.inputs

  abbrev pub gates : List Gate
  gates = map to_gate l.gates

  gate_count : length gates ≡ length l.gates
  gate_count = length-map l.gates to_gate

  pub in_order : InOrder first gates
  in_order j g e =
      let p = mapped to_gate l.gates j g e in
      let o = h.operands j p.0 p.1 in
      let left : g.left ≡ p.0.0 = ap (λ (x : Gate). x.left) p.2 in
      let right : g.right ≡ p.0.1 = ap (λ (x : Gate). x.right) p.2 in
      (omega (arith, o.1, left), omega (arith, o.0, o.1, right))

  abbrev order : List ℕ
  order = by_depth first gates

  is_order : IsOrder first gates order
  is_order = IsOrder-by_depth first gates (AreInside-ordered first gates in_order) (HaveDepths-ordered first gates in_order)

  abbrev circuit : Circuit
  circuit = record { inputs = l.inputs; gates = moved_gates first gates order; outputs = map (to_output (moved first order)) l.outputs }

  pub literals_within : Each (λ (o : OutName × ℕ). o.1 / 2 < first + length l.gates) l.outputs
  literals_within = each_then (λ (o : OutName × ℕ). o.1 < 2 * (1 + length l.inputs + length l.gates)) (λ (o : OutName × ℕ). o.1 / 2 < first + length l.gates) l.outputs (λ o b. omega arith) (each_of_all (λ (o : OutName × ℕ). o.1 < 2 * (1 + length l.inputs + length l.gates)) l.outputs h.literals)

  operands_within : Each (Within (first + length l.gates)) l.gates
  operands_within = each_of (Within (first + length l.gates)) l.gates (λ i g e. let o = h.operands i g e in let b : i < length l.gates = slice_get_within l.gates i g e in (omega (arith, o.1, b), omega (arith, o.0, o.1, b)))

  -- the circuit is that of the layout
  same : SameCircuit l circuit
  same = record {
    is_circuit = record {
      operands = InOrder-moved first gates order is_order;
      literals = all_of_each (λ (o : Output). o.literal / 2 < variable_count circuit) circuit.outputs
          (to_map (λ (o : Output). o.literal / 2 < variable_count circuit) (to_output (moved first order)) l.outputs
          (each_then (λ (o : OutName × ℕ). o.1 / 2 < first + length l.gates) (λ (o : OutName × ℕ). moved first order o.1 / 2 < variable_count circuit) l.outputs (λ o b. moved_within first gates order is_order o.1 (omega (arith, b, gate_count))) literals_within));
    };
    inputs_are = refl;
    names_are = map-map (λ (o : Output). o.name) (to_output (moved first order)) l.outputs;
    values_are = λ s.
        map-map (λ (o : Output). circuit_value s circuit o.literal) (to_output (moved first order)) l.outputs
        ∙ map_same (λ (o : OutName × ℕ). circuit_value s circuit (moved first order o.1)) (λ (o : OutName × ℕ). circuit_value s (circuit_of l) o.1) l.outputs
        (each_then (λ (o : OutName × ℕ). o.1 / 2 < first + length l.gates) (λ (o : OutName × ℕ). circuit_value s circuit (moved first order o.1) ≡ circuit_value s (circuit_of l) o.1) l.outputs
        (λ o b. value_moved first gates order in_order is_order (false ∷ map (variable_value s) l.inputs) o.1 (omega (arith, length-map l.inputs (variable_value s))) (omega (arith, b, gate_count))) literals_within);
    cones_are =
        map-map (λ (o : Output). circuit_cone circuit o.literal) (to_output (moved first order)) l.outputs
        ∙ map_same (λ (o : OutName × ℕ). circuit_cone circuit (moved first order o.1)) (λ (o : OutName × ℕ). circuit_cone (circuit_of l) o.1) l.outputs
        (each_then (λ (o : OutName × ℕ). o.1 / 2 < first + length l.gates) (λ (o : OutName × ℕ). circuit_cone circuit (moved first order o.1) ≡ circuit_cone (circuit_of l) o.1) l.outputs
        (λ o b. cone_moved first gates order in_order is_order ([] ∷ map (λ (x : ℕ). x ∷ []) l.inputs) o.1 (omega (arith, length-map l.inputs (λ (x : ℕ). x ∷ []))) (omega (arith, b, gate_count))) literals_within);
    constants = λ j o at_j small.
        (to_output (moved first order) o, slice_get-to_map (to_output (moved first order)) l.outputs j o at_j, moved_constant first order o.1 (omega (arith, small)));
  }

  abbrev symbols : List Symbol
  symbols = layout_symbols l.inputs l.outputs

  -- the file that is read, as a circuit
  file_circuit : (inputs : List ℕ) (outputs : List RootLine) (lines : List GateLine) → inputs ≡ range_with_len 1 (length l.inputs) → literals_of outputs ≡ map (λ (o : OutName × ℕ). o.1) l.outputs → Each (λ (o : OutName × ℕ). numbered (variables_of (written_of inputs outputs lines symbols)) o.1 ≡ o.1) l.outputs →
      reading.file_circuit (file_by (written_of inputs outputs lines symbols) first gates order) ≡ Some circuit
  file_circuit inputs outputs lines inputs_are outputs_are kept =
      let w : Written = written_of inputs outputs lines symbols in
      let count : length inputs ≡ length l.inputs = ap length inputs_are ∙ length-range_with_len 1 (length l.inputs) in
      let named : input_variables (names_of symbols 105 (length inputs)) ≡ Some l.inputs =
      ap (λ n. input_variables (names_of symbols 105 n)) count
      ∙ inputs_read symbols l.inputs (λ i x e. input_name l.inputs l.outputs i x e) (each_of_all (λ x. (1 ≤ x) × (x ≤ 2147483647)) l.inputs h.variables) h.strict.rising in
      let rooted : all_read (map named_output (named_roots (λ n. moved first order (numbered (variables_of w) n)) symbols 111 0 outputs)) ≡ Some circuit.outputs =
      outputs_read (λ n. moved first order (numbered (variables_of w) n)) (moved first order) symbols 0 outputs l.outputs outputs_are (λ i o e. let e0 : i ≡ 0 + i = omega arith in rw e0 at (output_name l.inputs l.outputs i o e))
      (each_then (λ (o : OutName × ℕ). numbered (variables_of w) o.1 ≡ o.1) (λ (o : OutName × ℕ). moved first order (numbered (variables_of w) o.1) ≡ moved first order o.1) l.outputs (λ o e. ap (moved first order) e) kept) in
      rw (named, rooted) refl

  body_read : (end : ℕ) (line : TextLine) (lines : List TextLine) → line.bytes ≡ header_bytes (length l.inputs) (length l.outputs) (length l.gates) → bytes_of lines ≡ body_lines l → (f : AigerFile) × (read_from end (line ∷ lines) ≡ Ok f) × (reading.file_circuit f ≡ Some circuit)
  body_read end line lines header body =
      let s : Said l end lines = said l h end lines (record { family = None; cut = 0 }, 0) body in
      let gates_are : map to_gate (operands_of s.gates) ≡ gates = ap (map to_gate) s.operands_are in
      let roots_within : Each (λ (r : RootLine). r.literal / 2 < first + length l.gates) s.outputs =
      each_mapped (λ n. n / 2 < first + length l.gates) (λ (r : RootLine). r.literal) s.outputs (subst (Each (λ n. n / 2 < first + length l.gates)) (sym s.outputs_are) (to_map (λ n. n / 2 < first + length l.gates) (λ (o : OutName × ℕ). o.1) l.outputs literals_within)) in
      let lines_within : Each (λ (g : GateLine). Within (first + length l.gates) (g.left, g.right)) s.gates =
      each_mapped (Within (first + length l.gates)) (λ (g : GateLine). (g.left, g.right)) s.gates (subst (Each (Within (first + length l.gates))) (sym s.operands_are) operands_within) in
      let file : file_written (written_of s.inputs s.outputs s.gates symbols) ≡ Ok (file_by (written_of s.inputs s.outputs s.gates symbols) first gates order) =
      file_is s.inputs s.outputs s.gates symbols (length l.inputs) (length l.gates) s.inputs_are s.variables_are roots_within lines_within (subst (InOrder first) (sym gates_are) in_order)
      ∙ ap (λ gs. Ok (file_by (written_of s.inputs s.outputs s.gates symbols) first gs (by_depth first gs))) gates_are in
      let kept : Each (λ (o : OutName × ℕ). numbered (variables_of (written_of s.inputs s.outputs s.gates symbols)) o.1 ≡ o.1) l.outputs =
      each_then (λ (o : OutName × ℕ). o.1 / 2 < first + length l.gates) (λ (o : OutName × ℕ). numbered (variables_of (written_of s.inputs s.outputs s.gates symbols)) o.1 ≡ o.1) l.outputs
      (λ o b. numbered_same s.inputs s.outputs s.gates symbols (length l.inputs) (length l.gates) s.inputs_are s.variables_are roots_within lines_within o.1 b) literals_within in (
        file_by (written_of s.inputs s.outputs s.gates symbols) first gates order,
        read_through end line lines (counts (length l.inputs) (length l.outputs) (length l.gates)) (written_of s.inputs s.outputs s.gates symbols) (file_by (written_of s.inputs s.outputs s.gates symbols) first gates order)
            (header_read line (length l.inputs) (length l.outputs) (length l.gates) header (omega (arith, h.few_inputs, h.few_gates)) (omega (arith, h.few_outputs))) s.read file,
        file_circuit s.inputs s.outputs s.gates s.inputs_are s.outputs_are kept,
      )

  all_lines : (end : ℕ) (lines : List TextLine) → bytes_of lines ≡ text_lines l → (f : AigerFile) × (read_from end lines ≡ Ok f) × (reading.file_circuit f ≡ Some circuit)
  all_lines end [] e = absurd cc
  all_lines end (line ∷ lines) e =
      let first_line : line.bytes ≡ header_bytes (length l.inputs) (length l.outputs) (length l.gates) = cc in
      let others : bytes_of lines ≡ body_lines l = cc in
      body_read end line lines first_line others

  -- what is written is read back
  pub reads_as : ReadsAs l (aag_text l)
  unfolding read_aag reading.aag_reading
  reads_as =
      let bytes : bytes_of (lines_of (aag_text l)) ≡ text_lines l = ap (λ t. bytes_of (lines_of t)) (aag_text-lines l) ∙ bytes-lines_of (text_lines l) (text_lines-lines l h) in
      let f = all_lines (length (aag_text l)) (lines_of (aag_text l)) bytes in
      (circuit, rw (f.1) f.2, same)
