-- The binary text of a layout is read as the circuit of the layout.
use Rattle.std.proofs.Common.{◌≡◌, ℕ, ◌+◌, ◌-◌, ◌*◌, ◌^◌, ◌<◌, ◌≤◌, ◌/◌, true, eqb, eq-eqb, List, [], ◌++◌, length, None, length-append, drop, map, Some, Ok, refl, sym, ap, ◌∙◌, arith}
use Rattle.std.specs.Bool.{if◌then◌else◌}
use Rattle.std.proofs.lemmas.List.{drop_at, length-map, map-append, take_all}
use Rattle.craig_spec.specs.Circuit.{Output, circuit_cone, circuit_value, variable_count}
use Rattle.craig_spec.specs.AigerFault.{FaultKind}
use Rattle.craig_spec.specs.AigerReading.{AigerFile, Counts, RootLine, Symbol, TextLine, ◌>>=◌, fault, file_circuit, input_variables, lines_of, named_output, named_roots, names_of, numbers_in, placed, root_in, all_read}
use Rattle.craig_spec.proofs.MemberLemmas.{slice_get-to_map, map-map}
use Rattle.craig_aiger.specs.BinaryText.{aig_text}
use Rattle.craig_aiger.specs.declared.out_name.OutName.{OutName}
use Rattle.craig_aiger.specs.Layouts.{IsWritable, Layout, circuit_of}
use Rattle.craig_aiger.specs.RoundTrip.{ReadsAsBinary, SameCircuit}
use Rattle.craig_spec.specs.AigerBinary.{aig_reading, begins_binary, binary_end, binary_file, binary_from, binary_gates, binary_header_in, binary_header_of, binary_in, lines_from, lines_place, read_aig, symbols_in}
use Rattle.craig_aiger.proofs.BinaryGatesLemmas.{gates_read}
use Rattle.craig_aiger.proofs.BinaryLinesLemmas.{after_lines, front_lines, place_from}
use Rattle.craig_aiger.proofs.BinaryTextLemmas.{aig_text-parts, binary_header_bytes, first_lines, first_lines-lines, last_bytes, last_lines, last_lines-lines}
use Rattle.craig_aiger.proofs.RoundTripLemmas.{all_of_each, each_of_all, each_then, header_test, in_order, literals_within, inputs_read, outputs_read, to_output}
use Rattle.craig_spec.proofs.EachLemmas.{each_of}
use Rattle.craig_aiger.proofs.TextFileLemmas.{to_gate, to_map}
use Rattle.craig_aiger.proofs.TextLinesLemmas.{each_line, length-each_line, output_bytes}
use Rattle.craig_aiger.proofs.TextSectionLemmas.{bytes_of, counts, literals_of, read_outputs}
use Rattle.craig_aiger.proofs.TextSymbolLemmas.{input_name, layout_symbols, output_name, read_names}
use Rattle.craig_aiger.proofs.TextWordLemmas.{bytes-placed, five_numbers, pieces-ended}
use Rattle.craig_spec.proofs.TextWordLemmas.{ended}
use Rattle.craig_aiger.proofs.TextWrittenLemmas.{output_within}

-- no variable is left over
exact_test : (i a : ℕ) → eqb (i + a) (i + 0 + a) ≡ true
exact_test i a = eq-eqb (i + a) (i + 0 + a) (omega arith)

-- the header is read
header_read : (line : TextLine) (i o a : ℕ) → line.bytes ≡ binary_header_bytes i o a → i + a < 10 ^ 18 → o < 10 ^ 18 → binary_header_in line ≡ Ok (counts i o a)
unfolding binary_header_in
header_read line i o a bytes few few_outputs =
    ap (λ (b : List ℕ). if begins_binary b then binary_header_of line.offset (numbers_in (drop 4 b)) else fault FaultKind.Header line.offset) bytes
    ∙ ap (binary_header_of line.offset) (five_numbers (i + a) i o a few (omega arith) few_outputs (omega arith)) ∙ (rw (exact_test i a, header_test i a) refl)

module _ (l : Layout) (h : IsWritable l) where
  -- the circuit of a layout has what the layout has
  same : SameCircuit l (circuit_of l)
  same = record {
    is_circuit = record {
      operands = in_order l h;
      literals = all_of_each (λ (o : Output). o.literal / 2 < variable_count (circuit_of l)) (circuit_of l).outputs
          (to_map (λ (o : Output). o.literal / 2 < variable_count (circuit_of l)) (to_output (λ n. n)) l.outputs
          (each_then (λ (o : OutName × ℕ). o.1 / 2 < 1 + length l.inputs + length l.gates) (λ (o : OutName × ℕ). o.1 / 2 < variable_count (circuit_of l)) l.outputs (λ o b. omega (arith, b, length-map l.gates to_gate)) (literals_within l h)));
    };
    inputs_are = refl;
    names_are = map-map (λ (o : Output). o.name) (to_output (λ n. n)) l.outputs;
    values_are = λ s. map-map (λ (o : Output). circuit_value s (circuit_of l) o.literal) (to_output (λ n. n)) l.outputs;
    cones_are = map-map (λ (o : Output). circuit_cone (circuit_of l) o.literal) (to_output (λ n. n)) l.outputs;
    constants = λ j o at_j small. (to_output (λ n. n) o, slice_get-to_map (to_output (λ n. n)) l.outputs j o at_j, refl);
  }

  -- the counts of the header
  abbrev c : Counts
  c = counts (length l.inputs) (length l.outputs) (length l.gates)

  -- the symbols
  abbrev symbols : List Symbol
  symbols = layout_symbols l.inputs l.outputs

  -- the file with these outputs
  abbrev file : List RootLine → AigerFile
  file outputs = binary_file c [] outputs [] (map to_gate l.gates) symbols

  -- the file that is read, as a circuit
  file_is : (outputs : List RootLine) → literals_of outputs ≡ map (λ (o : OutName × ℕ). o.1) l.outputs → file_circuit (file outputs) ≡ Some (circuit_of l)
  file_is outputs outputs_are =
      let named : input_variables (names_of symbols 105 (length l.inputs)) ≡ Some l.inputs =
      inputs_read symbols l.inputs (λ i x e. input_name l.inputs l.outputs i x e) (each_of_all (λ x. (1 ≤ x) × (x ≤ 2147483647)) l.inputs h.variables) h.strict.rising in
      let rooted : all_read (map named_output (named_roots (λ n. n) symbols 111 0 outputs)) ≡ Some (map (to_output (λ n. n)) l.outputs) =
      outputs_read (λ n. n) (λ n. n) symbols 0 outputs l.outputs outputs_are (λ i o e. let e0 : i ≡ 0 + i = omega arith in rw e0 at (output_name l.inputs l.outputs i o e)) (each_of (λ (o : OutName × ℕ). o.1 ≡ o.1) l.outputs (λ i o e. refl)) in
      rw (named, rooted) refl

  -- the symbols are read
  symbols_read : (end place : ℕ) (d : OutName × ℕ) → symbols_in c end (lines_from place (ended (last_lines l))) ≡ Ok symbols
  symbols_read end place d =
      let bytes : bytes_of (lines_from place (ended (last_lines l))) ≡ last_lines l = bytes-placed place _ ∙ pieces-ended (last_lines l) (last_lines-lines l h) in
      let r = read_names c end l.inputs l.outputs refl refl (omega (arith, h.few_inputs)) (omega (arith, h.few_outputs)) (lines_from place (ended (last_lines l))) d bytes in
      rw (r.1) refl

  -- the gates and the symbols are read
  end_read : (end : ℕ) (outputs : List RootLine) (d : OutName × ℕ) → binary_end c end [] outputs [] (last_bytes l) ≡ Ok (file outputs)
  unfolding binary_end
  end_read end outputs d =
      let own : 2 * (1 + length l.inputs + 0) ≡ 2 * (1 + length l.inputs) = omega arith in
      let gates : binary_gates end (length l.gates) (2 * (1 + length l.inputs + 0)) [] (last_bytes l) ≡ Ok (map to_gate l.gates, ended (last_lines l)) =
      ap (λ n. binary_gates end (length l.gates) n [] (last_bytes l)) own ∙ gates_read end (1 + length l.inputs) l.gates [] (ended (last_lines l)) h.operands (omega (arith, h.few_inputs, h.few_gates)) in
      rw (gates, symbols_read end (end - length (ended (last_lines l))) d) refl

  -- how many bytes stand before the gates
  abbrev front : ℕ
  front = length (ended (first_lines l))

  -- what the lines behind the header are read as
  record Body (bytes : List ℕ) (lines : List TextLine) : Type 0 where
    outputs : List RootLine
    read : binary_in c bytes lines ≡ Ok (file outputs)
    outputs_are : literals_of outputs ≡ map (λ (o : OutName × ℕ). o.1) l.outputs

  -- the outputs, the gates and the symbols are read
  body_read : (bytes : List ℕ) (first : ℕ) (d : OutName × ℕ) → bytes ≡ ended (first_lines l) ++ last_bytes l → Body bytes (placed first (each_line output_bytes 0 l.outputs) ++ lines_from front (last_bytes l))
  unfolding binary_in
  body_read bytes first d is =
      let end : ℕ = length bytes in
      let outputs : List TextLine = placed first (each_line output_bytes 0 l.outputs) in
      let others : List TextLine = lines_from front (last_bytes l) in
      let small : 2 * (1 + (length l.inputs + length l.gates)) < 10 ^ 18 = omega (arith, h.few_inputs, h.few_gates) in
      let texts : bytes_of (outputs ++ others) ≡ each_line output_bytes 0 l.outputs ++ bytes_of others = map-append (λ (t : TextLine). t.bytes) outputs others ∙ ap (λ t. t ++ bytes_of others) (bytes-placed first (each_line output_bytes 0 l.outputs)) in
      let s = read_outputs c end l.outputs (bytes_of others) (output_within l h) small (outputs ++ others) d texts in
      let many : length outputs ≡ length l.outputs = sym (length-map outputs (λ (t : TextLine). t.bytes)) ∙ ap length (bytes-placed first (each_line output_bytes 0 l.outputs)) ∙ length-each_line output_bytes 0 l.outputs in
      let after : s.after ≡ others = after_lines (root_in c) end (length l.outputs) [] s.all (outputs ++ others) s.after s.read ∙ drop_at outputs others (length l.outputs) many in
      let total : end ≡ front + length (last_bytes l) = ap length is ∙ length-append (ended (first_lines l)) (last_bytes l) in
      let place : lines_place end s.after ≡ front = ap (lines_place end) after ∙ place_from end front (last_bytes l) total in
      let left : drop (lines_place end s.after) bytes ≡ last_bytes l = ap (λ n. drop n bytes) place ∙ ap (drop front) is ∙ drop_at (ended (first_lines l)) (last_bytes l) front refl in
      record {
        outputs = s.all;
        read = rw (s.read, left) (end_read end s.all d);
        outputs_are = s.right ∙ ap (map (λ (o : OutName × ℕ). o.1)) (take_all (length (each_line output_bytes 0 l.outputs)) l.outputs (omega (arith, length-each_line output_bytes 0 l.outputs)));
      }

  -- the header is read, and what is behind it
  all_read_from : (bytes : List ℕ) (lines : List TextLine) → bytes ≡ ended (first_lines l) ++ last_bytes l → lines ≡ placed 0 (first_lines l) ++ lines_from front (last_bytes l) → (outputs : List RootLine) × (binary_from bytes lines ≡ Ok (file outputs)) × (literals_of outputs ≡ map (λ (o : OutName × ℕ). o.1) l.outputs)
  all_read_from bytes lines is lines_are =
      let header : List ℕ = binary_header_bytes (length l.inputs) (length l.outputs) (length l.gates) in
      let line : TextLine = record { offset = 0; bytes = header } in
      let b = body_read bytes (0 + length header + 1) (record { family = None; cut = 0 }, 0) is in
      let head : binary_header_in line ≡ Ok c = header_read line (length l.inputs) (length l.outputs) (length l.gates) refl (omega (arith, h.few_inputs, h.few_gates)) (omega (arith, h.few_outputs)) in
      (b.outputs, ap (binary_from bytes) lines_are ∙ ap (λ r. r >>= λ k. binary_in k bytes (placed (0 + length header + 1) (each_line output_bytes 0 l.outputs) ++ lines_from front (last_bytes l))) head ∙ b.read, b.outputs_are)

  -- what is written is read back
  pub reads_as_binary : ReadsAsBinary l (aig_text l)
  unfolding read_aig aig_reading
  reads_as_binary =
      let parts : aig_text l ≡ ended (first_lines l) ++ last_bytes l = aig_text-parts l in
      let r = all_read_from (aig_text l) (lines_of (aig_text l)) parts (ap lines_of parts ∙ front_lines (first_lines l) (last_bytes l) (first_lines-lines l h)) in
      (circuit_of l, rw (r.1) (file_is r.0 r.2), same)
