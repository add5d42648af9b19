-- The text of a layout as a list of lines.
use Rattle.std.proofs.Common.{◌≡◌, ℕ, zero, suc, ◌+◌, ◌*◌, ◌^◌, ◌<◌, ◌≤◌, List, [], ◌∷◌, ◌++◌, length, get_or, Option, Some, None, slice_get, refl, sym, ap, ◌∙◌, subst, append_assoc, length-append, arith}
use Rattle.std.proofs.lemmas.Option.{get_or_from_slice_get, slice_get_within}
use Rattle.std.specs.Fmt.{decimal}
use Rattle.std.proofs.lemmas.Fmt.{decimal_nonempty}
use Rattle.craig_aiger.specs.declared.family.Family.{Family}
use Rattle.craig_aiger.specs.declared.family.Family.TheVariants.{McMillan, Pudlak, Inverse}
use Rattle.craig_aiger.specs.declared.out_name.OutName.{OutName}
use Rattle.craig_aiger.specs.AsciiText.{aag_header, aag_text, gate_line, input_line, input_symbol, numbered_lines, output_line, output_symbol}
use Rattle.craig_aiger.specs.Layouts.{IsWritable, Layout}
use Rattle.craig_aiger.specs.OutNames.{family_text, name_text}
use Rattle.craig_aiger.proofs.TextWordLemmas.{AreLines, AreLines-append, IsLine}
use Rattle.craig_spec.proofs.TextWordLemmas.{Lacks, ended, ended-append, lacks-append, lacks-decimal}

-- what stands on each line
abbrev pub input_bytes : ℕ → ℕ → List ℕ
input_bytes n x = decimal (2 * n)

abbrev pub output_bytes : ℕ → (OutName × ℕ) → List ℕ
output_bytes n o = decimal o.1

abbrev pub gate_bytes : ℕ → (ℕ × ℕ) → List ℕ
gate_bytes n g = decimal (2 * n) ++ 32 ∷ (decimal g.0 ++ 32 ∷ decimal g.1)

abbrev pub input_name_bytes : ℕ → ℕ → List ℕ
input_name_bytes n x = 105 ∷ (decimal n ++ 32 ∷ decimal x)

abbrev pub output_name_bytes : ℕ → (OutName × ℕ) → List ℕ
output_name_bytes n o = 111 ∷ (decimal n ++ 32 ∷ name_text o.0)

abbrev pub header_numbers : ℕ → ℕ → ℕ → List ℕ
header_numbers inputs outputs gates = decimal (inputs + gates) ++ 32 ∷ (decimal inputs ++ 32 ∷ (48 ∷ (32 ∷ (decimal outputs ++ 32 ∷ decimal gates))))

abbrev pub header_bytes : ℕ → ℕ → ℕ → List ℕ
header_bytes inputs outputs gates = 97 ∷ (97 ∷ (103 ∷ (32 ∷ header_numbers inputs outputs gates)))

-- a line for each of the list, which are numbered from n on
abbrev pub each_line : {X : Type 0} → (ℕ → X → List ℕ) → ℕ → List X → List (List ℕ)
each_line bytes n [] = []
each_line bytes n (x ∷ xs) = bytes n x ∷ each_line bytes (n + 1) xs

pub length-each_line : {X : Type 0} (bytes : ℕ → X → List ℕ) (n : ℕ) (xs : List X) → length (each_line bytes n xs) ≡ length xs
length-each_line bytes n [] = refl
length-each_line bytes n (x ∷ xs) = ap suc (length-each_line bytes (n + 1) xs)

pub get_or-each_line : {X : Type 0} (bytes : ℕ → X → List ℕ) (n : ℕ) (xs : List X) (i m : ℕ) (x : X) → slice_get xs i ≡ Some x → n + i ≡ m → get_or (each_line bytes n xs) i [] ≡ bytes m x
get_or-each_line bytes n [] i m x e is = absurd cc
get_or-each_line bytes n (y ∷ xs) zero m x e is =
    let same : y ≡ x = cc in
    let k : n ≡ m = omega arith in
    ap (bytes n) same ∙ ap (λ j. bytes j x) k
get_or-each_line bytes n (y ∷ xs) (suc i) m x e is = get_or-each_line bytes (n + 1) xs i m x e (omega arith)

pub ended-lines : {X : Type 0} (line bytes : ℕ → X → List ℕ) (n : ℕ) (xs : List X) → ((m : ℕ) (x : X) → line m x ≡ bytes m x ++ 10 ∷ []) → numbered_lines line n xs ≡ ended (each_line bytes n xs)
ended-lines line bytes n [] h = refl
ended-lines line bytes n (x ∷ xs) h = ap (λ l. l ++ numbered_lines line (n + 1) xs) (h n x) ∙ append_assoc (bytes n x) (10 ∷ []) (numbered_lines line (n + 1) xs) ∙ ap (λ l. bytes n x ++ 10 ∷ l) (ended-lines line bytes (n + 1) xs h)

gate_line-is : (n : ℕ) (g : ℕ × ℕ) → gate_line n g ≡ gate_bytes n g ++ 10 ∷ []
gate_line-is n g =
    let d : List ℕ = decimal (2 * n) in
    let a : List ℕ = decimal g.0 in
    let b : List ℕ = decimal g.1 in
    append_assoc ((d ++ 32 ∷ []) ++ a) (32 ∷ []) (b ++ 10 ∷ []) ∙ append_assoc (d ++ 32 ∷ []) a (32 ∷ (b ++ 10 ∷ [])) ∙ append_assoc d (32 ∷ []) (a ++ 32 ∷ (b ++ 10 ∷ []))
    ∙ ap (λ l. d ++ 32 ∷ l) (sym (append_assoc a (32 ∷ b) (10 ∷ []))) ∙ sym (append_assoc d (32 ∷ (a ++ 32 ∷ b)) (10 ∷ []))

pub input_symbol-is : (n x : ℕ) → input_symbol n x ≡ input_name_bytes n x ++ 10 ∷ []
input_symbol-is n x =
    ap (λ l. 105 ∷ l) (append_assoc (decimal n) (32 ∷ []) (decimal x ++ 10 ∷ []) ∙ sym (append_assoc (decimal n) (32 ∷ decimal x) (10 ∷ [])))

pub output_symbol-is : (n : ℕ) (o : OutName × ℕ) → output_symbol n o ≡ output_name_bytes n o ++ 10 ∷ []
output_symbol-is n o =
    ap (λ l. 111 ∷ l) (append_assoc (decimal n ++ 32 ∷ []) (name_text o.0) (10 ∷ []) ∙ append_assoc (decimal n) (32 ∷ []) (name_text o.0 ++ 10 ∷ []) ∙ sym (append_assoc (decimal n) (32 ∷ name_text o.0) (10 ∷ [])))

header-is : (i o a : ℕ) → aag_header i o a ≡ header_bytes i o a ++ 10 ∷ []
header-is i o a = simp append_assoc

-- the lines after the header
abbrev pub body_lines : Layout → List (List ℕ)
body_lines l =
    each_line input_bytes 1 l.inputs
    ++ (each_line output_bytes 0 l.outputs
    ++ (each_line gate_bytes (1 + length l.inputs) l.gates
    ++ (each_line input_name_bytes 0 l.inputs
    ++ each_line output_name_bytes 0 l.outputs)))

abbrev pub text_lines : Layout → List (List ℕ)
text_lines l = header_bytes (length l.inputs) (length l.outputs) (length l.gates) ∷ body_lines l

regrouped : (h a b c d e : List ℕ) → ((((h ++ a) ++ b) ++ c) ++ d) ++ e ≡ h ++ (a ++ (b ++ (c ++ (d ++ e))))
regrouped h a b c d e = simp append_assoc

ended-five : (a b c d e : List (List ℕ)) → ended (a ++ (b ++ (c ++ (d ++ e)))) ≡ ended a ++ (ended b ++ (ended c ++ (ended d ++ ended e)))
ended-five a b c d e =
    ended-append a (b ++ (c ++ (d ++ e))) ∙ ap (λ l. ended a ++ l) (ended-append b (c ++ (d ++ e)) ∙ ap (λ l. ended b ++ l) (ended-append c (d ++ e) ∙ ap (λ l. ended c ++ l) (ended-append d e)))

-- the text is these lines
pub aag_text-lines : (l : Layout) → aag_text l ≡ ended (text_lines l)
aag_text-lines l =
    let i : numbered_lines input_line 1 l.inputs ≡ ended (each_line input_bytes 1 l.inputs) = ended-lines input_line input_bytes 1 l.inputs (λ n x. refl) in
    let o : numbered_lines output_line 0 l.outputs ≡ ended (each_line output_bytes 0 l.outputs) = ended-lines output_line output_bytes 0 l.outputs (λ n x. refl) in
    let g : numbered_lines gate_line (1 + length l.inputs) l.gates ≡ ended (each_line gate_bytes (1 + length l.inputs) l.gates) = ended-lines gate_line gate_bytes (1 + length l.inputs) l.gates gate_line-is in
    let p : numbered_lines input_symbol 0 l.inputs ≡ ended (each_line input_name_bytes 0 l.inputs) = ended-lines input_symbol input_name_bytes 0 l.inputs input_symbol-is in
    let q : numbered_lines output_symbol 0 l.outputs ≡ ended (each_line output_name_bytes 0 l.outputs) = ended-lines output_symbol output_name_bytes 0 l.outputs output_symbol-is in
    regrouped (aag_header (length l.inputs) (length l.outputs) (length l.gates)) (numbered_lines input_line 1 l.inputs) (numbered_lines output_line 0 l.outputs) (numbered_lines gate_line (1 + length l.inputs) l.gates) (numbered_lines input_symbol 0 l.inputs) (numbered_lines output_symbol 0 l.outputs)
    ∙ ap (λ h. h ++ (numbered_lines input_line 1 l.inputs ++ (numbered_lines output_line 0 l.outputs ++ (numbered_lines gate_line (1 + length l.inputs) l.gates ++ (numbered_lines input_symbol 0 l.inputs ++ numbered_lines output_symbol 0 l.outputs))))) (header-is (length l.inputs) (length l.outputs) (length l.gates))
    ∙ ap (λ t. (header_bytes (length l.inputs) (length l.outputs) (length l.gates) ++ 10 ∷ []) ++ t) (cc (i, o, g, p, q, ended-five (each_line input_bytes 1 l.inputs) (each_line output_bytes 0 l.outputs) (each_line gate_bytes (1 + length l.inputs) l.gates) (each_line input_name_bytes 0 l.inputs) (each_line output_name_bytes 0 l.outputs)))
    ∙ append_assoc (header_bytes (length l.inputs) (length l.outputs) (length l.gates)) (10 ∷ []) (ended (body_lines l))

pub are_lines : {X : Type 0} (bytes : ℕ → X → List ℕ) (n : ℕ) (xs : List X) → ((i : ℕ) (x : X) → slice_get xs i ≡ Some x → IsLine (bytes (n + i) x)) → AreLines (each_line bytes n xs)
are_lines bytes n [] h = tt
are_lines bytes n (x ∷ xs) h =
    let e0 : n + 0 ≡ n = omega arith in
    (rw e0 at (h 0 x refl), are_lines bytes (n + 1) xs (λ i y e. let e1 : n + suc i ≡ (n + 1) + i = omega arith in rw e1 at (h (suc i) y e)))

pub IsLine-number : (n : ℕ) → n < 2 ^ 64 → IsLine (decimal n)
IsLine-number n h = record { some = decimal_nonempty n h; one = lacks-decimal 10 n refl h }

family_letter : (f : Option Family) → Lacks 10 (family_text f)
family_letter None = refl
family_letter (Some McMillan) = refl
family_letter (Some Pudlak) = refl
family_letter (Some Inverse) = refl

pub lacks-name : (o : OutName) → o.cut < 2 ^ 64 → Lacks 10 (name_text o)
lacks-name o h = lacks-append 10 (family_text o.family) (decimal o.cut) (family_letter o.family) (lacks-decimal 10 o.cut refl h)

pub lacks-header : (i o a : ℕ) → i + a < 2 ^ 64 → o < 2 ^ 64 → Lacks 10 (header_numbers i o a)
lacks-header i o a h k =
    lacks-append 10 (decimal (i + a)) (32 ∷ (decimal i ++ 32 ∷ (48 ∷ (32 ∷ (decimal o ++ 32 ∷ decimal a))))) (lacks-decimal 10 (i + a) refl h)
    (lacks-append 10 (decimal i) (32 ∷ (48 ∷ (32 ∷ (decimal o ++ 32 ∷ decimal a)))) (lacks-decimal 10 i refl (omega arith))
    (lacks-append 10 (decimal o) (32 ∷ decimal a) (lacks-decimal 10 o refl k) (lacks-decimal 10 a refl (omega arith))))

IsLine-header : (i o a : ℕ) → i + a < 2 ^ 64 → o < 2 ^ 64 → IsLine (header_bytes i o a)
IsLine-header i o a h k = record { some = omega arith; one = lacks-header i o a h k }

IsLine-gate : (n : ℕ) (g : ℕ × ℕ) → 2 * n < 2 ^ 64 → g.0 < 2 ^ 64 → g.1 < 2 ^ 64 → IsLine (gate_bytes n g)
IsLine-gate n g h l r = record {
  some = omega (arith, decimal_nonempty (2 * n) h, length-append (decimal (2 * n)) (32 ∷ (decimal g.0 ++ 32 ∷ decimal g.1)));
  one = lacks-append 10 (decimal (2 * n)) (32 ∷ (decimal g.0 ++ 32 ∷ decimal g.1)) (lacks-decimal 10 (2 * n) refl h) (lacks-append 10 (decimal g.0) (32 ∷ decimal g.1) (lacks-decimal 10 g.0 refl l) (lacks-decimal 10 g.1 refl r));
}

pub IsLine-name : (letter n : ℕ) (name : List ℕ) → Lacks 10 (letter ∷ []) → n < 2 ^ 64 → Lacks 10 name → IsLine (letter ∷ (decimal n ++ 32 ∷ name))
IsLine-name letter n name plain h e = record {
  some = omega arith;
  one = lacks-append 10 (letter ∷ []) (decimal n ++ 32 ∷ name) plain (lacks-append 10 (decimal n) (32 ∷ name) (lacks-decimal 10 n refl h) e);
}

pub output_literal : (l : Layout) → IsWritable l → (i : ℕ) (o : OutName × ℕ) → slice_get l.outputs i ≡ Some o → o.1 < 2 * (1 + length l.inputs + length l.gates)
output_literal l h i o e = subst (λ (p : OutName × ℕ). p.1 < 2 * (1 + length l.inputs + length l.gates)) (get_or_from_slice_get l.outputs i o o e) (h.literals i o (slice_get_within l.outputs i o e))

pub cut_small : (l : Layout) → IsWritable l → (i : ℕ) (o : OutName × ℕ) → slice_get l.outputs i ≡ Some o → o.0.cut < 2 ^ 32
cut_small l h i o e = subst (λ (p : OutName × ℕ). p.0.cut < 2 ^ 32) (get_or_from_slice_get l.outputs i o o e) (h.cuts i o (slice_get_within l.outputs i o e))

pub input_small : (l : Layout) → IsWritable l → (i x : ℕ) → slice_get l.inputs i ≡ Some x → x ≤ 2147483647
input_small l h i x e = subst (λ y. y ≤ 2147483647) (get_or_from_slice_get l.inputs i x x e) (h.variables i x (slice_get_within l.inputs i x e)).1

gate_is_line : (l : Layout) → IsWritable l → (i : ℕ) (g : ℕ × ℕ) → slice_get l.gates i ≡ Some g → IsLine (gate_bytes (1 + length l.inputs + i) g)
gate_is_line l h i g e =
    let o = h.operands i g e in
    let b : i < length l.gates = slice_get_within l.gates i g e in
    IsLine-gate (1 + length l.inputs + i) g (omega (arith, h.few_inputs, h.few_gates, b)) (omega (arith, h.few_inputs, h.few_gates, b, o.1)) (omega (arith, h.few_inputs, h.few_gates, b, o.0, o.1))

-- the lines of a layout that can be written are lines
pub text_lines-lines : (l : Layout) → IsWritable l → AreLines (text_lines l)
text_lines-lines l h = (
  IsLine-header (length l.inputs) (length l.outputs) (length l.gates) (omega (arith, h.few_inputs, h.few_gates)) (omega (arith, h.few_outputs)),
  AreLines-append (each_line input_bytes 1 l.inputs) _ (are_lines input_bytes 1 l.inputs (λ i x e. IsLine-number (2 * (1 + i)) (omega (arith, h.few_inputs, slice_get_within l.inputs i x e))))
      (AreLines-append (each_line output_bytes 0 l.outputs) _ (are_lines output_bytes 0 l.outputs (λ i o e. IsLine-number o.1 (omega (arith, h.few_inputs, h.few_gates, output_literal l h i o e))))
      (AreLines-append (each_line gate_bytes (1 + length l.inputs) l.gates) _ (are_lines gate_bytes (1 + length l.inputs) l.gates (λ i g e. gate_is_line l h i g e))
      (AreLines-append (each_line input_name_bytes 0 l.inputs) _ (are_lines input_name_bytes 0 l.inputs (λ i x e. IsLine-name 105 (0 + i) (decimal x) refl (omega (arith, h.few_inputs, slice_get_within l.inputs i x e)) (lacks-decimal 10 x refl (omega (arith, input_small l h i x e)))))
      (are_lines output_name_bytes 0 l.outputs (λ i o e. IsLine-name 111 (0 + i) (name_text o.0) refl (omega (arith, h.few_outputs, slice_get_within l.outputs i o e)) (lacks-name o.0 (omega (arith, cut_small l h i o e)))))))),
)
