-- The symbols of a text are read as they were written, and name what they are written for.
use Rattle.std.proofs.Common.{◌≡◌, ℕ, zero, suc, ◌+◌, ◌^◌, ◌<◌, ◌≤◌, Bool, true, false, not, ◌&&◌, ◌||◌, eqb, eq-eqb, nat_lt, List, [], ◌∷◌, ◌++◌, length, get_or, take, Some, Result, Ok, Err, slice_get, refl, sym, ap, ◌∙◌, append_assoc, length-append, arith}
use Rattle.std.proofs.Math.Bool.{and-false, or-true}
use Rattle.std.proofs.lemmas.Bool.{and_from}
use Rattle.std.specs.Fmt.{decimal}
use Rattle.std.specs.List.{find, list_all, list_any, prefix_len, take_while}
use Rattle.std.specs.Option.{option_map, option_or}
use Rattle.std.proofs.lemmas.Bool.Decides.{nat_tests}
use Rattle.std.proofs.lemmas.List.{append-nil, length-map, take_more, take_all}
use Rattle.std.proofs.lemmas.List.Folds.{find-append, list_all-append, list_any-append}
use Rattle.std.proofs.lemmas.Option.{slice_get-get_or, slice_get_within, get_or_from_slice_get}
use Rattle.craig_spec.specs.AigerFault.{Fault}
use Rattle.craig_spec.specs.AigerReading.{Counts, Symbol, TextLine, ◌>>=◌, count_named, is_before_comments, is_symbol_of, name_of, read_lines, symbol_checked, symbol_in, symbol_of}
use Rattle.craig_aiger.specs.declared.out_name.OutName.{OutName}
use Rattle.craig_aiger.specs.OutNames.{name_text}
use Rattle.craig_aiger.proofs.TextLinesLemmas.{each_line, get_or-each_line, length-each_line, input_name_bytes, output_name_bytes}
use Rattle.craig_aiger.proofs.TextSectionLemmas.{Section, Step, bytes_of, section}
use Rattle.craig_aiger.proofs.TextWordLemmas.{after_byte, before_byte}
use Rattle.craig_spec.proofs.TextWordLemmas.{lacks-decimal, number_in-decimal}
use Rattle.craig_spec.proofs.AigerBinaryLemmas.{ok-is}

-- a symbol for each of the list, which are numbered from n on
abbrev pub symbols_from : {X : Type 0} → ℕ → (X → List ℕ) → ℕ → List X → List Symbol
symbols_from letter name n [] = []
symbols_from letter name n (x ∷ xs) = record { letter = letter; position = n; name = name x } ∷ symbols_from letter name (n + 1) xs

length-symbols : {X : Type 0} (letter : ℕ) (name : X → List ℕ) (n : ℕ) (xs : List X) → length (symbols_from letter name n xs) ≡ length xs
length-symbols letter name n [] = refl
length-symbols letter name n (x ∷ xs) = ap suc (length-symbols letter name (n + 1) xs)

symbol_at : {X : Type 0} (letter : ℕ) (name : X → List ℕ) (n : ℕ) (xs : List X) (i m : ℕ) (x : X) → slice_get xs i ≡ Some x → n + i ≡ m → slice_get (symbols_from letter name n xs) i ≡ Some (record { letter = letter; position = m; name = name x })
symbol_at letter name n [] i m x e is = absurd cc
symbol_at letter name n (y ∷ xs) zero m x e is =
    let same : y ≡ x = cc in
    let k : n ≡ m = omega arith in
    ap (λ z. Some (record { letter = letter; position = n; name = name z })) same ∙ ap (λ j. Some (record { letter = letter; position = j; name = name x })) k
symbol_at letter name n (y ∷ xs) (suc i) m x e is = symbol_at letter name (n + 1) xs i m x e (omega arith)

symbols-more : {X : Type 0} (letter : ℕ) (name : X → List ℕ) (xs : List X) (i : ℕ) (x : X) → slice_get xs i ≡ Some x → take (i + 1) (symbols_from letter name 0 xs) ≡ take i (symbols_from letter name 0 xs) ++ record { letter = letter; position = i; name = name x } ∷ []
symbols-more letter name xs i x e =
    let s : Symbol = record { letter = letter; position = i; name = name x } in
    let there : slice_get (symbols_from letter name 0 xs) i ≡ Some s = symbol_at letter name 0 xs i i x e (omega arith) in
    take_more (symbols_from letter name 0 xs) i s (slice_get_within (symbols_from letter name 0 xs) i s there) ∙ ap (λ y. take i (symbols_from letter name 0 xs) ++ y ∷ []) (get_or_from_slice_get (symbols_from letter name 0 xs) i s s there)

-- no symbol of another letter, or of an earlier place, is that of a thing
other_letter : {X : Type 0} (other letter position : ℕ) (name : X → List ℕ) (n k : ℕ) (xs : List X) → eqb other letter ≡ false → list_any (is_symbol_of letter position) (take k (symbols_from other name n xs)) ≡ false
other_letter other letter position name n zero xs e = refl
other_letter other letter position name n (suc k) [] e = refl
other_letter other letter position name n (suc k) (x ∷ xs) e = rw e (other_letter other letter position name (n + 1) k xs e)

earlier : {X : Type 0} (letter position : ℕ) (name : X → List ℕ) (n k : ℕ) (xs : List X) → n + k ≤ position → list_any (is_symbol_of letter position) (take k (symbols_from letter name n xs)) ≡ false
earlier letter position name n zero xs h = refl
earlier letter position name n (suc k) [] h = refl
earlier letter position name n (suc k) (x ∷ xs) h =
    let e : eqb n position ≡ false = grind (arith, nat_tests) in
    rw (e, and-false (eqb letter letter)) (earlier letter position name (n + 1) k xs (omega arith))

-- the bytes of a symbol
symbol_bytes : (letter n : ℕ) (name : List ℕ) → n < 10 ^ 18 → symbol_of (letter ∷ (decimal n ++ 32 ∷ name)) ≡ Some (record { letter = letter; position = n; name = name })
symbol_bytes letter n name h =
    let plain : list_any (λ b. eqb b 32) (decimal n) ≡ false = lacks-decimal 32 n refl (omega arith) in
    let some : list_any (λ b. eqb b 32) (decimal n ++ 32 ∷ name) ≡ true = list_any-append (λ b. eqb b 32) (decimal n) (32 ∷ name) ∙ or-true (list_any (λ b. eqb b 32) (decimal n)) in
    rw (some, before_byte 32 (decimal n) name plain refl, after_byte 32 (decimal n) name plain refl, number_in-decimal n h) refl

symbol_read : (c : Counts) (before : List Symbol) (line : TextLine) (letter n : ℕ) (name : List ℕ) → line.bytes ≡ letter ∷ (decimal n ++ 32 ∷ name) → n < 10 ^ 18 → nat_lt n (count_named c letter) ≡ true → list_any (is_symbol_of letter n) before ≡ false → symbol_in c before line ≡ Ok (record { letter = letter; position = n; name = name })
unfolding symbol_in
symbol_read c before line letter n name bytes small counted new =
    ap (symbol_checked c before line.offset) (ap symbol_of bytes ∙ symbol_bytes letter n name small) ∙ (rw (counted, new) refl)

pub no_ok : {A : Type 0} (f : Fault) (x : A) → ◌≡◌ {A = Result A Fault} (Err f) (Ok x) → ⊥
no_ok f x e = cc

read_one : {A : Type 0} (each : List A → TextLine → Result A Fault) (end a b : ℕ) (before all : List A) (line : TextLine) (lines after : List TextLine) (r : Result (List A × List TextLine) Fault) (o : Result A Fault) → each before line ≡ o → (o >>= λ x. read_lines each end a (before ++ x ∷ []) lines) ≡ Ok (all, after) →
    ((before : List A) → read_lines each end a before lines ≡ Ok (all, after) → read_lines each end (a + b) before lines ≡ r) → (o >>= λ x. read_lines each end (a + b) (before ++ x ∷ []) lines) ≡ r
read_one each end a b before all line lines after r (Ok x) is e later = later (before ++ x ∷ []) e
read_one each end a b before all line lines after r (Err f) is e later = absurd (no_ok f (all, after) e)

-- two sections that are read one after the other
pub read_both : {A : Type 0} (each : List A → TextLine → Result A Fault) (end a b : ℕ) (before all : List A) (lines after : List TextLine) (r : Result (List A × List TextLine) Fault) → read_lines each end a before lines ≡ Ok (all, after) → read_lines each end b all after ≡ r → read_lines each end (a + b) before lines ≡ r
read_both {A} each end zero b before all lines after r e f =
    let n : zero + b ≡ b = omega arith in
    let pair : (before, lines) ≡ (all, after) = ok-is (before, lines) (all, after) e in
    let same : before ≡ all = ap (λ (p : List A × List TextLine). p.0) pair in
    let same_lines : lines ≡ after = ap (λ (p : List A × List TextLine). p.1) pair in
    rw (n, same, same_lines) f
read_both each end (suc a) b before all [] after r e f = absurd cc
read_both each end (suc a) b before all (line ∷ lines) after r e f =
    let n : suc a + b ≡ suc (a + b) = omega arith in
    rw n (read_one each end a b before all line lines after r (each before line) refl e (λ before e. read_both each end a b before all lines after r e f))

-- lines of which none opens the comments
abbrev is_plain : List ℕ → Bool
is_plain bytes = not (eqb (get_or bytes 0 0) 99)

all_before_by : (line : TextLine) (lines : List TextLine) (t : Bool) → is_plain line.bytes ≡ t → (t && list_all is_plain (bytes_of lines)) ≡ true → (list_all is_plain (bytes_of lines) ≡ true → prefix_len is_before_comments lines ≡ length lines) → prefix_len is_before_comments (line ∷ lines) ≡ length (line ∷ lines)
all_before_by line lines true e h rest = rw e (omega (arith, rest h))
all_before_by line lines false e h rest = absurd cc

all_before : (lines : List TextLine) → list_all is_plain (bytes_of lines) ≡ true → prefix_len is_before_comments lines ≡ length lines
all_before [] e = refl
all_before (line ∷ lines) e = all_before_by line lines (is_plain line.bytes) refl e (all_before lines)

pub length-before_comments : (lines : List TextLine) → list_all is_plain (bytes_of lines) ≡ true → length (take_while is_before_comments lines) ≡ length lines
length-before_comments lines e = rw (all_before lines e) (ap length (take_all (length lines) lines (omega arith)))

plain_lines : {X : Type 0} (bytes : ℕ → X → List ℕ) (n : ℕ) (xs : List X) → ((m : ℕ) (x : X) → is_plain (bytes m x) ≡ true) → list_all is_plain (each_line bytes n xs) ≡ true
plain_lines bytes n [] h = refl
plain_lines bytes n (x ∷ xs) h = rw (h n x) (plain_lines bytes (n + 1) xs h)

-- the symbols of a layout
abbrev pub layout_symbols : List ℕ → List (OutName × ℕ) → List Symbol
layout_symbols inputs outputs = symbols_from 105 (λ (x : ℕ). decimal x) 0 inputs ++ symbols_from 111 (λ (o : OutName × ℕ). name_text o.0) 0 outputs

module _ (c : Counts) (end : ℕ) (inputs : List ℕ) (outputs : List (OutName × ℕ)) (inputs_are : c.inputs ≡ length inputs) (outputs_are : c.outputs ≡ length outputs) (few_inputs : length inputs < 10 ^ 18) (few_outputs : length outputs < 10 ^ 18) where
  abbrev input_symbols : List Symbol
  input_symbols = symbols_from 105 (λ (x : ℕ). decimal x) 0 inputs

  abbrev output_symbols : List Symbol
  output_symbols = symbols_from 111 (λ (o : OutName × ℕ). name_text o.0) 0 outputs

  abbrev RightInputs : ℕ → List Symbol → Type 0
  RightInputs i before = before ≡ take i input_symbols

  abbrev RightOutputs : ℕ → List Symbol → Type 0
  RightOutputs i before = before ≡ input_symbols ++ take i output_symbols

  input_step : (i x : ℕ) (before : List Symbol) (line : TextLine) → slice_get inputs i ≡ Some x → line.bytes ≡ input_name_bytes i x → RightInputs i before → Step (symbol_in c) before line (RightInputs (i + 1))
  input_step i x before line there bytes right =
      let inside : i < length inputs = slice_get_within inputs i x there in
      let counted : nat_lt i c.inputs ≡ true = grind (arith, nat_tests, inside, inputs_are) in
      record {
        one = record { letter = 105; position = i; name = decimal x };
        read = symbol_read c before line 105 i (decimal x) bytes (omega (arith, inside)) counted (ap (list_any (is_symbol_of 105 i)) right ∙ earlier 105 i (λ (y : ℕ). decimal y) 0 i inputs (omega arith));
        right = ap (λ l. l ++ record { letter = 105; position = i; name = decimal x } ∷ []) right ∙ sym (symbols-more 105 (λ (y : ℕ). decimal y) inputs i x there);
      }

  output_step : (i : ℕ) (x : OutName × ℕ) (before : List Symbol) (line : TextLine) → slice_get outputs i ≡ Some x → line.bytes ≡ output_name_bytes i x → RightOutputs i before → Step (symbol_in c) before line (RightOutputs (i + 1))
  output_step i x before line there bytes right =
      let inside : i < length outputs = slice_get_within outputs i x there in
      let counted : nat_lt i c.outputs ≡ true = grind (arith, nat_tests, inside, outputs_are) in
      let whole : take (length inputs) input_symbols ≡ input_symbols = take_all (length inputs) input_symbols (omega (arith, length-symbols 105 (λ (y : ℕ). decimal y) 0 inputs)) in
      let none : list_any (is_symbol_of 111 i) input_symbols ≡ false = ap (list_any (is_symbol_of 111 i)) (sym whole) ∙ other_letter 105 111 i (λ (y : ℕ). decimal y) 0 (length inputs) inputs refl in
      record {
        one = record { letter = 111; position = i; name = name_text x.0 };
        read = symbol_read c before line 111 i (name_text x.0) bytes (omega (arith, inside)) counted
            (ap (list_any (is_symbol_of 111 i)) right ∙ list_any-append (is_symbol_of 111 i) input_symbols (take i output_symbols) ∙ ap (λ b. b || list_any (is_symbol_of 111 i) (take i output_symbols)) none ∙ earlier 111 i (λ (o : OutName × ℕ). name_text o.0) 0 i outputs (omega arith));
        right = ap (λ l. l ++ record { letter = 111; position = i; name = name_text x.0 } ∷ []) right ∙ append_assoc input_symbols (take i output_symbols) (record { letter = 111; position = i; name = name_text x.0 } ∷ [])
            ∙ ap (λ l. input_symbols ++ l) (sym (symbols-more 111 (λ (o : OutName × ℕ). name_text o.0) outputs i x there));
      }

  read_input_names : (lines : List TextLine) (rest : List (List ℕ)) → bytes_of lines ≡ each_line input_name_bytes 0 inputs ++ rest → Section (symbol_in c) end (length inputs) [] lines (RightInputs (length (each_line input_name_bytes 0 inputs))) rest
  read_input_names lines rest bytes =
      section (symbol_in c) end (each_line input_name_bytes 0 inputs) rest RightInputs
      (λ i before line inside is right.
      let there : slice_get inputs i ≡ Some (get_or inputs i 0) = slice_get-get_or inputs i 0 (omega (arith, inside, length-each_line input_name_bytes 0 inputs)) in
      input_step i (get_or inputs i 0) before line there (is ∙ get_or-each_line input_name_bytes 0 inputs i i (get_or inputs i 0) there (omega arith)) right)
      (length inputs) 0 [] lines (omega (arith, length-each_line input_name_bytes 0 inputs)) bytes refl

  read_output_names : (before : List Symbol) (lines : List TextLine) (d : OutName × ℕ) → before ≡ input_symbols ++ [] → bytes_of lines ≡ each_line output_name_bytes 0 outputs ++ [] → Section (symbol_in c) end (length outputs) before lines (RightOutputs (length (each_line output_name_bytes 0 outputs))) []
  read_output_names before lines d start bytes =
      section (symbol_in c) end (each_line output_name_bytes 0 outputs) [] RightOutputs
      (λ i before line inside is right.
      let there : slice_get outputs i ≡ Some (get_or outputs i d) = slice_get-get_or outputs i d (omega (arith, inside, length-each_line output_name_bytes 0 outputs)) in
      output_step i (get_or outputs i d) before line there (is ∙ get_or-each_line output_name_bytes 0 outputs i i (get_or outputs i d) there (omega arith)) right)
      (length outputs) 0 before lines (omega (arith, length-each_line output_name_bytes 0 outputs)) bytes start

  -- all symbols
  pub read_names : (lines : List TextLine) (d : OutName × ℕ) → bytes_of lines ≡ each_line input_name_bytes 0 inputs ++ each_line output_name_bytes 0 outputs → (after : List TextLine) × (read_lines (symbol_in c) end (length (take_while is_before_comments lines)) [] lines ≡ Ok (layout_symbols inputs outputs, after))
  read_names lines d bytes =
      let first : Section (symbol_in c) end (length inputs) [] lines (RightInputs (length (each_line input_name_bytes 0 inputs))) (each_line output_name_bytes 0 outputs) = read_input_names lines (each_line output_name_bytes 0 outputs) bytes in
      let inputs_done : first.all ≡ input_symbols = first.right ∙ take_all (length (each_line input_name_bytes 0 inputs)) input_symbols (omega (arith, length-symbols 105 (λ (y : ℕ). decimal y) 0 inputs, length-each_line input_name_bytes 0 inputs)) in
      let second : Section (symbol_in c) end (length outputs) first.all first.after (RightOutputs (length (each_line output_name_bytes 0 outputs))) [] = read_output_names first.all first.after d (inputs_done ∙ sym (append-nil input_symbols)) (first.bytes ∙ sym (append-nil (each_line output_name_bytes 0 outputs))) in
      let outputs_done : second.all ≡ layout_symbols inputs outputs = second.right ∙ ap (λ l. input_symbols ++ l) (take_all (length (each_line output_name_bytes 0 outputs)) output_symbols (omega (arith, length-symbols 111 (λ (o : OutName × ℕ). name_text o.0) 0 outputs, length-each_line output_name_bytes 0 outputs))) in
      let plain : list_all is_plain (bytes_of lines) ≡ true =
      ap (list_all is_plain) bytes ∙ list_all-append is_plain (each_line input_name_bytes 0 inputs) (each_line output_name_bytes 0 outputs)
      ∙ ap (λ b. b && list_all is_plain (each_line output_name_bytes 0 outputs)) (plain_lines input_name_bytes 0 inputs (λ m x. refl)) ∙ plain_lines output_name_bytes 0 outputs (λ m x. refl) in
      let count : length (take_while is_before_comments lines) ≡ length inputs + length outputs =
      length-before_comments lines plain ∙ sym (length-map lines (λ (l : TextLine). l.bytes)) ∙ ap length bytes ∙ length-append (each_line input_name_bytes 0 inputs) (each_line output_name_bytes 0 outputs)
      ∙ ap (λ n. n + length (each_line output_name_bytes 0 outputs)) (length-each_line input_name_bytes 0 inputs) ∙ ap (λ n. length inputs + n) (length-each_line output_name_bytes 0 outputs) in
      (second.after, ap (λ n. read_lines (symbol_in c) end n [] lines) count ∙ read_both (symbol_in c) end (length inputs) (length outputs) [] first.all lines first.after (Ok (second.all, second.after)) first.read second.read ∙ ap (λ l. Ok (l, second.after)) outputs_done)

-- the symbol of a thing is found
find_by : {X : Type 0} (letter : ℕ) (name : X → List ℕ) (n i m : ℕ) (xs : List X) (x : X) → slice_get xs i ≡ Some x → n + i ≡ m → find (is_symbol_of letter m) (symbols_from letter name n xs) ≡ Some (record { letter = letter; position = m; name = name x })
find_by letter name n i m [] x e is = absurd cc
find_by letter name n zero m (y ∷ xs) x e is =
    let same : y ≡ x = cc in
    let k : n ≡ m = omega arith in
    let t : (eqb letter letter && eqb n m) ≡ true = and_from (eqb letter letter) (eqb n m) (eq-eqb letter letter refl) (eq-eqb n m k) in
    rw t (ap (λ z. Some (record { letter = letter; position = n; name = name z })) same ∙ ap (λ j. Some (record { letter = letter; position = j; name = name x })) k)
find_by letter name n (suc i) m (y ∷ xs) x e is =
    let f : eqb n m ≡ false = grind (arith, nat_tests, is) in
    rw (f, and-false (eqb letter letter)) (find_by letter name (n + 1) i m xs x e (omega arith))

find_other : {X : Type 0} (other letter m : ℕ) (name : X → List ℕ) (n : ℕ) (xs : List X) (more : List Symbol) → eqb other letter ≡ false → find (is_symbol_of letter m) (symbols_from other name n xs ++ more) ≡ find (is_symbol_of letter m) more
find_other other letter m name n [] more e = refl
find_other other letter m name n (x ∷ xs) more e = rw e (find_other other letter m name (n + 1) xs more e)

find_first : (p : Symbol → Bool) (xs ys : List Symbol) (s : Symbol) → find p xs ≡ Some s → find p (xs ++ ys) ≡ Some s
find_first p xs ys s e = find-append p xs ys ∙ ap (λ o. option_or o (find p ys)) e

pub input_name : (inputs : List ℕ) (outputs : List (OutName × ℕ)) (i x : ℕ) → slice_get inputs i ≡ Some x → name_of (layout_symbols inputs outputs) 105 i ≡ Some (decimal x)
input_name inputs outputs i x e =
    ap (option_map (λ (s : Symbol). s.name)) (find_first (is_symbol_of 105 i) (symbols_from 105 (λ (y : ℕ). decimal y) 0 inputs) (symbols_from 111 (λ (o : OutName × ℕ). name_text o.0) 0 outputs) (record { letter = 105; position = i; name = decimal x }) (find_by 105 (λ (y : ℕ). decimal y) 0 i i inputs x e (omega arith)))

pub output_name : (inputs : List ℕ) (outputs : List (OutName × ℕ)) (i : ℕ) (o : OutName × ℕ) → slice_get outputs i ≡ Some o → name_of (layout_symbols inputs outputs) 111 i ≡ Some (name_text o.0)
output_name inputs outputs i o e =
    ap (option_map (λ (s : Symbol). s.name)) (find_other 105 111 i (λ (y : ℕ). decimal y) 0 inputs (symbols_from 111 (λ (p : OutName × ℕ). name_text p.0) 0 outputs) refl ∙ find_by 111 (λ (p : OutName × ℕ). name_text p.0) 0 i i outputs o e (omega arith))
