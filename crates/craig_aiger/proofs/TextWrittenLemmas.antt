-- What the lines of a layout's text say, and the file that this is.
use Rattle.std.proofs.Common.{◌≡◌, ℕ, suc, ◌+◌, ◌*◌, ◌^◌, ◌<◌, List, [], ◌∷◌, ◌++◌, length, map, Some, Ok, slice_get, refl, ap, ◌∙◌, subst, arith}
use Rattle.std.specs.List.{range_with_len}
use Rattle.std.proofs.lemmas.List.{append-nil, take_all}
use Rattle.std.proofs.lemmas.Option.{slice_get_within, get_or_from_slice_get}
use Rattle.craig_spec.specs.AigerReading.{Counts, GateLine, RootLine, Symbol, TextLine, Written, leaves_of, written_in}
use Rattle.craig_aiger.specs.declared.out_name.OutName.{OutName}
use Rattle.craig_aiger.specs.Layouts.{IsWritable, Layout}
use Rattle.craig_aiger.proofs.TextLinesLemmas.{body_lines, each_line, gate_bytes, input_bytes, input_name_bytes, length-each_line, output_bytes, output_name_bytes}
use Rattle.craig_aiger.proofs.TextSectionLemmas.{bytes_of, counts, literals_of, operands_of, read_gates, read_inputs, read_outputs, variables_of_gates}
use Rattle.craig_aiger.proofs.TextSymbolLemmas.{layout_symbols, read_names}

-- what is written, where there are no latches and bad literals
abbrev pub written_of : List ℕ → List RootLine → List GateLine → List Symbol → Written
written_of inputs outputs gates symbols = record { inputs = inputs; latches = []; outputs = outputs; bads = []; gates = gates; symbols = symbols }

-- what the lines after the header say
pub record Said (l : Layout) (end : ℕ) (lines : List TextLine) : Type 0 where
  pub inputs : List ℕ
  pub outputs : List RootLine
  pub gates : List GateLine
  pub read : written_in (counts (length l.inputs) (length l.outputs) (length l.gates)) end lines ≡ Ok (written_of inputs outputs gates (layout_symbols l.inputs l.outputs))
  pub inputs_are : inputs ≡ range_with_len 1 (length l.inputs)
  pub outputs_are : literals_of outputs ≡ map (λ (o : OutName × ℕ). o.1) l.outputs
  pub variables_are : variables_of_gates gates ≡ range_with_len (1 + length l.inputs) (length l.gates)
  pub operands_are : operands_of gates ≡ l.gates

pub range-one : (n : ℕ) → 0 ∷ range_with_len 1 n ≡ range_with_len 0 (1 + n)
range-one n = let e : 1 + n ≡ suc n = omega arith in rw e refl

module _ (l : Layout) (h : IsWritable l) where
  abbrev I : ℕ
  I = length l.inputs

  abbrev O : ℕ
  O = length l.outputs

  abbrev A : ℕ
  A = length l.gates

  abbrev c : Counts
  c = counts I O A

  pub output_within : (i : ℕ) (x : OutName × ℕ) → slice_get l.outputs i ≡ Some x → x.1 < 2 * (1 + (I + A))
  output_within i x e =
      let b : x.1 < 2 * (1 + I + A) = subst (λ (o : OutName × ℕ). o.1 < 2 * (1 + I + A)) (get_or_from_slice_get l.outputs i x x e) (h.literals i x (slice_get_within l.outputs i x e)) in
      omega (arith, b)

  gate_within : (i : ℕ) (x : ℕ × ℕ) → slice_get l.gates i ≡ Some x → (x.0 < 2 * (1 + (I + A))) × (x.1 < 2 * (1 + (I + A)))
  gate_within i x e =
      let o = h.operands i x e in
      let b : i < A = slice_get_within l.gates i x e in
      (omega (arith, o.1, b), omega (arith, o.0, o.1, b))

  abbrev rest_inputs : List (List ℕ)
  rest_inputs = each_line output_bytes 0 l.outputs ++ (each_line gate_bytes (1 + I) l.gates ++ (each_line input_name_bytes 0 l.inputs ++ each_line output_name_bytes 0 l.outputs))

  abbrev rest_outputs : List (List ℕ)
  rest_outputs = each_line gate_bytes (1 + I) l.gates ++ (each_line input_name_bytes 0 l.inputs ++ each_line output_name_bytes 0 l.outputs)

  abbrev rest_gates : List (List ℕ)
  rest_gates = each_line input_name_bytes 0 l.inputs ++ each_line output_name_bytes 0 l.outputs

  pub said : (end : ℕ) (lines : List TextLine) (d : OutName × ℕ) → bytes_of lines ≡ body_lines l → Said l end lines
  unfolding written_in
  said end lines d bytes =
      let small : 2 * (1 + (I + A)) < 10 ^ 18 = omega (arith, h.few_inputs, h.few_gates) in
      let first = read_inputs c end l.inputs rest_inputs (omega arith) (omega (arith, small)) lines bytes in
      let inputs_are : first.all ≡ range_with_len 1 I = first.right ∙ ap (range_with_len 1) (length-each_line input_bytes 1 l.inputs) in
      let second = read_outputs c end l.outputs rest_outputs output_within small first.after d first.bytes in
      let known_is : leaves_of first.all [] ≡ range_with_len 0 (1 + I) = append-nil (0 ∷ first.all) ∙ ap (λ xs. 0 ∷ xs) inputs_are ∙ range-one I in
      let third = read_gates c end (1 + I) (leaves_of first.all []) l.gates rest_gates known_is (omega arith) (omega arith) gate_within small second.after second.bytes in
      let fourth = read_names c end l.inputs l.outputs refl refl (omega (arith, h.few_inputs)) (omega (arith, h.few_outputs)) third.after d third.bytes in
      record {
        inputs = first.all;
        outputs = second.all;
        gates = third.all;
        read = rw (first.read, second.read, third.read, fourth.1) refl;
        inputs_are = inputs_are;
        outputs_are = second.right ∙ ap (map (λ (o : OutName × ℕ). o.1)) (take_all (length (each_line output_bytes 0 l.outputs)) l.outputs (omega (arith, length-each_line output_bytes 0 l.outputs)));
        variables_are = third.right.variables ∙ ap (range_with_len (1 + I)) (length-each_line gate_bytes (1 + I) l.gates);
        operands_are = third.right.operands ∙ take_all (length (each_line gate_bytes (1 + I) l.gates)) l.gates (omega (arith, length-each_line gate_bytes (1 + I) l.gates));
      }
