-- The sections of a text are read as they were written.
use Rattle.std.proofs.Common.{◌≡◌, ℕ, zero, suc, ◌+◌, ◌*◌, ◌^◌, ◌<◌, ◌≤◌, ◌/◌, ◌%◌, true, false, eqb, nat_le, List, [], ◌∷◌, ◌++◌, length, get_or, take, drop, map, Some, Result, Ok, slice_get, refl, sym, ap, ◌∙◌, arith}
use Rattle.std.specs.Fmt.{decimal}
use Rattle.std.specs.List.{range_with_len}
use Rattle.std.proofs.lemmas.Bool.Decides.{nat_tests}
use Rattle.std.proofs.lemmas.List.{drop_all, drop_more, take_more, map_push}
use Rattle.std.proofs.lemmas.Option.{slice_get-get_or, slice_get_within, get_or_from_slice_get}
use Rattle.craig_spec.specs.AigerFault.{Fault}
use Rattle.craig_spec.specs.AigerReading.{Counts, GateLine, RootLine, TextLine, gate_in, gate_of, input_in, input_of, is_literal, is_new, is_variable, numbers_in, read_lines, root_in, root_of}
use Rattle.craig_aiger.specs.declared.out_name.OutName.{OutName}
use Rattle.craig_aiger.proofs.TextLinesLemmas.{each_line, get_or-each_line, length-each_line, gate_bytes, input_bytes, output_bytes}
use Rattle.craig_spec.proofs.AigerOrderLemmas.{has}
use Rattle.craig_aiger.proofs.TextWordLemmas.{one_number, three_numbers}

-- the bytes of lines
abbrev pub bytes_of : List TextLine → List (List ℕ)
bytes_of lines = map (λ (l : TextLine). l.bytes) lines

-- what a section is read as, and the lines after it
pub record Section {A : Type 0} (each : List A → TextLine → Result A Fault) (end count : ℕ) (before : List A) (lines : List TextLine) (Right : List A → Type 0) (rest : List (List ℕ)) : Type 0 where
  pub all : List A
  pub after : List TextLine
  pub read : read_lines each end count before lines ≡ Ok (all, after)
  pub right : Right all
  pub bytes : bytes_of after ≡ rest

-- a line that is read, and what holds then
pub record Step {A : Type 0} (each : List A → TextLine → Result A Fault) (before : List A) (line : TextLine) (Right : List A → Type 0) : Type 0 where
  pub one : A
  pub read : each before line ≡ Ok one
  pub right : Right (before ++ one ∷ [])

module _ {A : Type 0} (each : List A → TextLine → Result A Fault) (end : ℕ) (texts rest : List (List ℕ)) (Right : ℕ → List A → Type 0)
    (step : (i : ℕ) (before : List A) (line : TextLine) → i < length texts → line.bytes ≡ get_or texts i [] → Right i before → Step each before line (Right (i + 1))) where
  head_line : (b : List ℕ) (bs : List (List ℕ)) (line : TextLine) (lines : List TextLine) → bytes_of (line ∷ lines) ≡ b ∷ bs → (line.bytes ≡ b) × (bytes_of lines ≡ bs)
  head_line b bs line lines e = (cc, cc)

  no_line : (b : List ℕ) (bs : List (List ℕ)) → bytes_of [] ≡ b ∷ bs → ⊥
  no_line b bs e = cc

  section_step : (count i : ℕ) (before : List A) (lines : List TextLine) → i < length texts → bytes_of lines ≡ get_or texts i [] ∷ (drop (i + 1) texts ++ rest) → Right i before →
      ((before : List A) (lines : List TextLine) → bytes_of lines ≡ drop (i + 1) texts ++ rest → Right (i + 1) before → Section each end count before lines (Right (length texts)) rest) → Section each end (suc count) before lines (Right (length texts)) rest
  section_step count i before [] within bytes right later = absurd (no_line (get_or texts i []) (drop (i + 1) texts ++ rest) bytes)
  section_step count i before (line ∷ lines) within bytes right later =
      let h = head_line (get_or texts i []) (drop (i + 1) texts ++ rest) line lines bytes in
      let s : Step each before line (Right (i + 1)) = step i before line within h.0 right in
      let r : Section each end count (before ++ s.one ∷ []) lines (Right (length texts)) rest = later (before ++ s.one ∷ []) lines h.1 s.right in
      record { all = r.all; after = r.after; read = rw (s.read) r.read; right = r.right; bytes = r.bytes }

  -- all lines of a section
  pub section : (count i : ℕ) (before : List A) (lines : List TextLine) → i + count ≡ length texts → bytes_of lines ≡ drop i texts ++ rest → Right i before → Section each end count before lines (Right (length texts)) rest
  section zero i before lines all bytes right = record {
    all = before;
    after = lines;
    read = refl;
    right = let e : i ≡ length texts = omega arith in rw e at right;
    bytes = bytes ∙ ap (λ l. l ++ rest) (drop_all i texts (omega arith));
  }
  section (suc count) i before lines all bytes right =
      section_step count i before lines (omega arith) (bytes ∙ ap (λ l. l ++ rest) (drop_more texts i [] (omega arith))) right
      (λ before lines bytes right. section count (i + 1) before lines (omega arith) bytes right)

has-outside : (a n j : ℕ) → a + n ≤ j → has (range_with_len a n) j ≡ false
has-outside a zero j h = refl
has-outside a (suc n) j h = let e : eqb j a ≡ false = grind (arith, nat_tests) in rw e (has-outside (a + 1) n j (omega arith))

pub range-more : (a n m : ℕ) → a + n ≡ m → range_with_len a n ++ m ∷ [] ≡ range_with_len a (n + 1)
range-more a zero m e = let k : a ≡ m = omega arith in ap (λ j. j ∷ []) (sym k)
range-more a (suc n) m e = let z : suc n + 1 ≡ suc (n + 1) = omega arith in rw z (ap (λ l. a ∷ l) (range-more (a + 1) n m (omega arith)))

pub range-split : (a n k : ℕ) → range_with_len a n ++ range_with_len (a + n) k ≡ range_with_len a (n + k)
range-split a zero k = let e : a + zero ≡ a = omega arith in let f : zero + k ≡ k = omega arith in rw (e, f) refl
range-split a (suc n) k = let e : a + suc n ≡ (a + 1) + n = omega arith in let f : suc n + k ≡ suc (n + k) = omega arith in rw (e, f) (ap (λ l. a ∷ l) (range-split (a + 1) n k))

-- the greatest variable and the counts of a circuit
abbrev pub counts : ℕ → ℕ → ℕ → Counts
counts inputs outputs gates = record { greatest = inputs + gates; inputs = inputs; latches = 0; outputs = outputs; gates = gates; bads = 0 }

variable_test : (c : Counts) (n : ℕ) → 1 ≤ n → n ≤ c.greatest → is_variable c (2 * n) ≡ true
variable_test c n low high =
    let a : nat_le (2 * n) (2 * c.greatest + 1) ≡ true = grind (arith, nat_tests, high) in
    let b : nat_le 2 (2 * n) ≡ true = grind (arith, nat_tests, low) in
    let even : (2 * n) % 2 ≡ 0 = omega arith in
    rw (a, b, even) refl

literal_test : (c : Counts) (l : ℕ) → l < 2 * (1 + c.greatest) → is_literal c l ≡ true
literal_test c l h = grind (arith, nat_tests, h)

new_test : (known : List ℕ) (n : ℕ) → has known n ≡ false → is_new known (2 * n) ≡ true
new_test known n e = let h : (2 * n) / 2 ≡ n = omega arith in rw (h, e) refl

input_read : (c : Counts) (known : List ℕ) (offset n : ℕ) → 1 ≤ n → n ≤ c.greatest → has known n ≡ false → input_of c known offset (Some (2 * n ∷ [])) ≡ Ok n
input_read c known offset n low high new = let h : (2 * n) / 2 ≡ n = omega arith in rw (variable_test c n low high, new_test known n new, h) refl

root_read : (c : Counts) (offset l : ℕ) → l < 2 * (1 + c.greatest) → root_of c offset (Some (l ∷ [])) ≡ Ok (record { offset = offset; literal = l })
root_read c offset l h = rw (literal_test c l h) refl

gate_read : (c : Counts) (known : List ℕ) (offset n a b : ℕ) → 1 ≤ n → n ≤ c.greatest → has known n ≡ false → a < 2 * (1 + c.greatest) → b < 2 * (1 + c.greatest) → gate_of c known offset (Some (2 * n ∷ (a ∷ (b ∷ [])))) ≡ Ok (record { offset = offset; variable = n; left = a; right = b })
gate_read c known offset n a b low high new ha hb =
    let h : (2 * n) / 2 ≡ n = omega arith in
    rw (variable_test c n low high, literal_test c a ha, literal_test c b hb, new_test known n new, h) refl

-- the inputs
module _ (c : Counts) (end : ℕ) (xs : List ℕ) (rest : List (List ℕ)) (few : length xs ≤ c.greatest) (small : 2 * c.greatest < 10 ^ 18) where
  abbrev RightInputs : ℕ → List ℕ → Type 0
  RightInputs i before = before ≡ range_with_len 1 i

  input_step : (i : ℕ) (before : List ℕ) (line : TextLine) → i < length xs → line.bytes ≡ decimal (2 * (1 + i)) → RightInputs i before → Step (input_in c) before line (RightInputs (i + 1))
  unfolding input_in
  input_step i before line within bytes right = record {
    one = 1 + i;
    read = ap (input_of c (0 ∷ before) line.offset) (ap numbers_in bytes ∙ one_number (2 * (1 + i)) (omega arith)) ∙ input_read c (0 ∷ before) line.offset (1 + i) (omega arith) (omega arith)
        (ap (λ known. has (0 ∷ known) (1 + i)) right ∙ (let e : eqb (1 + i) 0 ≡ false = grind (arith, nat_tests) in rw e (has-outside 1 i (1 + i) (omega arith))));
    right = ap (λ l. l ++ (1 + i) ∷ []) right ∙ range-more 1 i (1 + i) refl;
  }

  pub read_inputs : (lines : List TextLine) → bytes_of lines ≡ each_line input_bytes 1 xs ++ rest → Section (input_in c) end (length xs) [] lines (RightInputs (length (each_line input_bytes 1 xs))) rest
  read_inputs lines bytes =
      section (input_in c) end (each_line input_bytes 1 xs) rest RightInputs
      (λ i before line within is right. input_step i before line (omega (arith, within, length-each_line input_bytes 1 xs)) (is ∙ get_or-each_line input_bytes 1 xs i (1 + i) (get_or xs i 0) (slice_get-get_or xs i 0 (omega (arith, within, length-each_line input_bytes 1 xs))) refl) right)
      (length xs) 0 [] lines (omega (arith, length-each_line input_bytes 1 xs)) bytes refl

-- the literals of outputs
abbrev pub literals_of : List RootLine → List ℕ
literals_of lines = map (λ (r : RootLine). r.literal) lines

module _ (c : Counts) (end : ℕ) (xs : List (OutName × ℕ)) (rest : List (List ℕ)) (within : (i : ℕ) (x : OutName × ℕ) → slice_get xs i ≡ Some x → x.1 < 2 * (1 + c.greatest)) (small : 2 * (1 + c.greatest) < 10 ^ 18) where
  abbrev RightOutputs : ℕ → List RootLine → Type 0
  RightOutputs i before = literals_of before ≡ map (λ (x : OutName × ℕ). x.1) (take i xs)

  output_step : (i : ℕ) (x : OutName × ℕ) (before : List RootLine) (line : TextLine) → slice_get xs i ≡ Some x → line.bytes ≡ decimal x.1 → RightOutputs i before → Step (root_in c) before line (RightOutputs (i + 1))
  unfolding root_in
  output_step i x before line there bytes right =
      let inside : i < length xs = slice_get_within xs i x there in
      let more : map (λ (y : OutName × ℕ). y.1) (take (i + 1) xs) ≡ map (λ (y : OutName × ℕ). y.1) (take i xs) ++ x.1 ∷ [] = ap (map (λ (y : OutName × ℕ). y.1)) (take_more xs i x inside ∙ ap (λ y. take i xs ++ y ∷ []) (get_or_from_slice_get xs i x x there)) ∙ map_push (λ (y : OutName × ℕ). y.1) (take i xs) x in
      record {
        one = record { offset = line.offset; literal = x.1 };
        read = ap (root_of c line.offset) (ap numbers_in bytes ∙ one_number x.1 (omega (arith, within i x there))) ∙ root_read c line.offset x.1 (within i x there);
        right = map_push (λ (r : RootLine). r.literal) before (record { offset = line.offset; literal = x.1 }) ∙ ap (λ l. l ++ x.1 ∷ []) right ∙ sym more;
      }

  pub read_outputs : (lines : List TextLine) (d : OutName × ℕ) → bytes_of lines ≡ each_line output_bytes 0 xs ++ rest → Section (root_in c) end (length xs) [] lines (RightOutputs (length (each_line output_bytes 0 xs))) rest
  read_outputs lines d bytes =
      section (root_in c) end (each_line output_bytes 0 xs) rest RightOutputs
      (λ i before line inside is right.
      let there : slice_get xs i ≡ Some (get_or xs i d) = slice_get-get_or xs i d (omega (arith, inside, length-each_line output_bytes 0 xs)) in
      output_step i (get_or xs i d) before line there (is ∙ get_or-each_line output_bytes 0 xs i (0 + i) (get_or xs i d) there refl) right)
      (length xs) 0 [] lines (omega (arith, length-each_line output_bytes 0 xs)) bytes refl

-- the operands of gates, and their variables
abbrev pub operands_of : List GateLine → List (ℕ × ℕ)
operands_of lines = map (λ (g : GateLine). (g.left, g.right)) lines

abbrev pub variables_of_gates : List GateLine → List ℕ
variables_of_gates lines = map (λ (g : GateLine). g.variable) lines

known_range : (known variables : List ℕ) (first i : ℕ) → known ≡ range_with_len 0 first → variables ≡ range_with_len first i → known ++ variables ≡ range_with_len 0 (first + i)
known_range known variables first i e f =
    let start : first ≡ 0 + first = omega arith in
    let joined : range_with_len 0 first ++ range_with_len first i ≡ range_with_len 0 (first + i) = ap (λ n. range_with_len 0 first ++ range_with_len n i) start ∙ range-split 0 first i in
    ap (λ l. l ++ variables) e ∙ ap (λ l. range_with_len 0 first ++ l) f ∙ joined

pub record RightGates (first : ℕ) (xs : List (ℕ × ℕ)) (i : ℕ) (before : List GateLine) : Type 0 where
  pub variables : variables_of_gates before ≡ range_with_len first i
  pub operands : operands_of before ≡ take i xs

module _ (c : Counts) (end first : ℕ) (known : List ℕ) (xs : List (ℕ × ℕ)) (rest : List (List ℕ)) (known_is : known ≡ range_with_len 0 first) (some : 1 ≤ first) (few : first + length xs ≡ 1 + c.greatest)
    (within : (i : ℕ) (x : ℕ × ℕ) → slice_get xs i ≡ Some x → (x.0 < 2 * (1 + c.greatest)) × (x.1 < 2 * (1 + c.greatest))) (small : 2 * (1 + c.greatest) < 10 ^ 18) where
  gate_step : (i : ℕ) (x : ℕ × ℕ) (before : List GateLine) (line : TextLine) → slice_get xs i ≡ Some x → line.bytes ≡ gate_bytes (first + i) x → RightGates first xs i before → Step (gate_in c known) before line (RightGates first xs (i + 1))
  unfolding gate_in
  gate_step i x before line there bytes right =
      let inside : i < length xs = slice_get_within xs i x there in
      let w = within i x there in
      let more : take (i + 1) xs ≡ take i xs ++ x ∷ [] = take_more xs i x inside ∙ ap (λ y. take i xs ++ y ∷ []) (get_or_from_slice_get xs i x x there) in
      let g : GateLine = record { offset = line.offset; variable = first + i; left = x.0; right = x.1 } in
      let new : has (known ++ variables_of_gates before) (first + i) ≡ false = ap (λ l. has l (first + i)) (known_range known (variables_of_gates before) first i known_is right.variables) ∙ has-outside 0 (first + i) (first + i) (omega arith) in
      record {
        one = g;
        read = ap (gate_of c (known ++ variables_of_gates before) line.offset) (ap numbers_in bytes ∙ three_numbers (2 * (first + i)) x.0 x.1 (omega arith) (omega (arith, w.0)) (omega (arith, w.1)))
            ∙ gate_read c (known ++ variables_of_gates before) line.offset (first + i) x.0 x.1 (omega arith) (omega arith) new w.0 w.1;
        right = record {
          variables = map_push (λ (l : GateLine). l.variable) before g ∙ ap (λ l. l ++ (first + i) ∷ []) right.variables ∙ range-more first i (first + i) refl;
          operands = map_push (λ (l : GateLine). (l.left, l.right)) before g ∙ ap (λ l. l ++ x ∷ []) right.operands ∙ sym more;
        };
      }

  pub read_gates : (lines : List TextLine) → bytes_of lines ≡ each_line gate_bytes first xs ++ rest → Section (gate_in c known) end (length xs) [] lines (RightGates first xs (length (each_line gate_bytes first xs))) rest
  read_gates lines bytes =
      section (gate_in c known) end (each_line gate_bytes first xs) rest (RightGates first xs)
      (λ i before line inside is right.
      let there : slice_get xs i ≡ Some (get_or xs i (0, 0)) = slice_get-get_or xs i (0, 0) (omega (arith, inside, length-each_line gate_bytes first xs)) in
      gate_step i (get_or xs i (0, 0)) before line there (is ∙ get_or-each_line gate_bytes first xs i (first + i) (get_or xs i (0, 0)) there refl) right)
      (length xs) 0 [] lines (omega (arith, length-each_line gate_bytes first xs)) bytes (record { variables = refl; operands = refl })
