-- The binary text of a layout as lines, the numbers of gates, and lines again.
use Rattle.std.proofs.Common.{◌≡◌, ℕ, ◌+◌, List, [], ◌∷◌, ◌++◌, length, refl, sym, ap, ◌∙◌, append_assoc, arith}
use Rattle.std.proofs.lemmas.Option.{slice_get_within}
use Rattle.std.specs.Fmt.{decimal}
use Rattle.craig_aiger.specs.AsciiText.{input_symbol, numbered_lines, output_line, output_symbol}
use Rattle.craig_aiger.specs.BinaryText.{aig_header, aig_text, gate_groups}
use Rattle.craig_aiger.specs.Layouts.{IsWritable, Layout}
use Rattle.craig_aiger.specs.OutNames.{name_text}
use Rattle.craig_aiger.proofs.TextLinesLemmas.{IsLine-name, IsLine-number, are_lines, cut_small, each_line, ended-lines, header_numbers, input_name_bytes, input_small, input_symbol-is, lacks-header, lacks-name, output_bytes, output_literal, output_name_bytes, output_symbol-is}
use Rattle.craig_aiger.proofs.TextWordLemmas.{AreLines, AreLines-append}
use Rattle.craig_spec.proofs.TextWordLemmas.{ended, ended-append, lacks-decimal}

-- what stands on the first line
abbrev pub binary_header_bytes : ℕ → ℕ → ℕ → List ℕ
binary_header_bytes inputs outputs gates = 97 ∷ (105 ∷ (103 ∷ (32 ∷ header_numbers inputs outputs gates)))

-- the header is that line
header-is : (i o a : ℕ) → aig_header i o a ≡ binary_header_bytes i o a ++ 10 ∷ []
header-is i o a = simp append_assoc

-- the lines before the gates
abbrev pub first_lines : Layout → List (List ℕ)
first_lines l = binary_header_bytes (length l.inputs) (length l.outputs) (length l.gates) ∷ each_line output_bytes 0 l.outputs

-- the lines behind them
abbrev pub last_lines : Layout → List (List ℕ)
last_lines l = each_line input_name_bytes 0 l.inputs ++ each_line output_name_bytes 0 l.outputs

-- the bytes behind the first lines
abbrev pub last_bytes : Layout → List ℕ
last_bytes l = numbered_lines gate_groups (1 + length l.inputs) l.gates ++ ended (last_lines l)

-- two parts before the gates and three from there on
regrouped : (h a b c d : List ℕ) → (((h ++ a) ++ b) ++ c) ++ d ≡ (h ++ a) ++ (b ++ (c ++ d))
regrouped h a b c d = simp append_assoc

-- the text is these lines and bytes
pub aig_text-parts : (l : Layout) → aig_text l ≡ ended (first_lines l) ++ last_bytes l
aig_text-parts l =
    let I : ℕ = length l.inputs in
    let O : ℕ = length l.outputs in
    let A : ℕ = length l.gates in
    let h : List ℕ = aig_header I O A in
    let hb : List ℕ = binary_header_bytes I O A in
    let outputs : List ℕ = numbered_lines output_line 0 l.outputs in
    let gates : List ℕ = numbered_lines gate_groups (1 + I) l.gates in
    let names : List ℕ = numbered_lines input_symbol 0 l.inputs in
    let output_names : List ℕ = numbered_lines output_symbol 0 l.outputs in
    let o : outputs ≡ ended (each_line output_bytes 0 l.outputs) = ended-lines output_line output_bytes 0 l.outputs (λ n x. refl) in
    let p : names ≡ ended (each_line input_name_bytes 0 l.inputs) = ended-lines input_symbol input_name_bytes 0 l.inputs input_symbol-is in
    let q : output_names ≡ ended (each_line output_name_bytes 0 l.outputs) = ended-lines output_symbol output_name_bytes 0 l.outputs output_symbol-is in
    let front : h ++ outputs ≡ ended (first_lines l) =
    ap (λ t. t ++ outputs) (header-is I O A) ∙ append_assoc hb (10 ∷ []) outputs ∙ ap (λ t. hb ++ 10 ∷ t) o in
    let back : names ++ output_names ≡ ended (last_lines l) =
    ap (λ t. t ++ output_names) p ∙ ap (λ t. ended (each_line input_name_bytes 0 l.inputs) ++ t) q ∙ sym (ended-append (each_line input_name_bytes 0 l.inputs) (each_line output_name_bytes 0 l.outputs)) in
    regrouped h outputs gates names output_names ∙ ap (λ t. t ++ (gates ++ (names ++ output_names))) front ∙ ap (λ t. ended (first_lines l) ++ (gates ++ t)) back

-- the first lines of a layout that can be written are lines
pub first_lines-lines : (l : Layout) → IsWritable l → AreLines (first_lines l)
first_lines-lines l h = (
  record { some = omega arith; one = lacks-header (length l.inputs) (length l.outputs) (length l.gates) (omega (arith, h.few_inputs, h.few_gates)) (omega (arith, h.few_outputs)) },
  are_lines output_bytes 0 l.outputs (λ i o e. IsLine-number o.1 (omega (arith, h.few_inputs, h.few_gates, output_literal l h i o e))),
)

-- and so are the last ones
pub last_lines-lines : (l : Layout) → IsWritable l → AreLines (last_lines l)
last_lines-lines l h =
    AreLines-append (each_line input_name_bytes 0 l.inputs) (each_line output_name_bytes 0 l.outputs)
    (are_lines input_name_bytes 0 l.inputs (λ i x e. IsLine-name 105 (0 + i) (decimal x) refl (omega (arith, h.few_inputs, slice_get_within l.inputs i x e)) (lacks-decimal 10 x refl (omega (arith, input_small l h i x e)))))
    (are_lines output_name_bytes 0 l.outputs (λ i o e. IsLine-name 111 (0 + i) (name_text o.0) refl (omega (arith, h.few_outputs, slice_get_within l.outputs i o e)) (lacks-name o.0 (omega (arith, cut_small l h i o e)))))
