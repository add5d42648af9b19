-- Commands that are written are read as they were.
use Rattle.std.proofs.Common.{◌≡◌, ◌≢◌, ◌∙◌, sym, ap, refl, ℕ, zero, suc, ◌^◌, ◌<◌, ◌≤◌, Bool, true, false, not, ◌&&◌, ◌==◌, nat_le, List, [], ◌∷◌, ◌++◌, length, map, All, Contains, get_or, OnOk, Option, Some, None, Result, Ok, Err, codes, ℤ, pos, negsuc, append-nil, arith}
use Rattle.std.proofs.lemmas.Bool.{and_parts}
use Rattle.std.proofs.lemmas.Bool.Decides.{nat_tests}
use Rattle.std.proofs.lemmas.Fmt.{decimal_nonempty}
use Rattle.std.proofs.lemmas.List.Sums.{AllPass-from_list_all}
use Rattle.std.proofs.lemmas.List.Splits.{slice_split_at, slice_split_none}
use Rattle.std.proofs.lemmas.Slice.Eq.{bytes_eq-Decides}
use Rattle.std.specs.Bool.{if◌then◌else◌}
use Rattle.std.specs.Char.{is_ascii_digit}
use Rattle.std.specs.Fmt.{decimal, signed_decimal}
use Rattle.std.specs.Int.RustNames.{unsigned_abs}
use Rattle.std.specs.List.{filter, flat_map, join_with_byte, list_all, slice_split}
use Rattle.std.specs.Str.{bytes_eq}
use Rattle.craig_script.specs.declared.command.Command.{Command}
use Rattle.craig_script.specs.declared.command.Command.TheVariants.{Nothing, Parts, Add, System, Mark, Cuts, Limit, Format, Solve}
use Rattle.craig_script.specs.declared.cut_word.CutWord.{CutWord}
use Rattle.craig_script.specs.declared.cut_word.CutWord.TheVariants as cut
use Rattle.craig_script.specs.declared.setting_words.FormatWord.{FormatWord}
use Rattle.craig_script.specs.declared.setting_words.FormatWord.TheVariants as format
use Rattle.craig_script.specs.declared.setting_words.MarkWord.{MarkWord}
use Rattle.craig_script.specs.declared.setting_words.MarkWord.TheVariants as mark
use Rattle.craig_script.specs.declared.setting_words.SystemWord.{SystemWord}
use Rattle.craig_script.specs.declared.setting_words.SystemWord.TheVariants as system
use Rattle.craig_script.specs.declared.line.Line.{Line}
use Rattle.craig_script.specs.declared.line.Line.TheVariants as line
use Rattle.craig_script.specs.declared.refusal.Refusal.{Refusal}
use Rattle.craig_script.specs.declared.refusal.Refusal.TheVariants.{Syntax, Overlong}
use Rattle.craig_script.specs.Lines.{line_limit}
use Rattle.craig_script.specs.NumberWords.{literal_of, number_of}
use Rattle.craig_script.specs.Reading.{format_named, format_of, ◌>>=◌, add_of, command_of, cuts_of, is_comment, is_end, limit_of, literals_to_end, mark_named, mark_of, numbers_to_end, only_word, or_syntax, pairs_to_end, parsed, parts_of, solve_of, system_named, system_of, then_nothing}
use Rattle.craig_script.specs.Words.{has_byte, is_separator, words}
use Rattle.craig_script.specs.Writing.{format_word, are_writable_cuts, command_line, command_words, cut_words, has_cut, is_writable, is_writable_cut, is_writable_literal, is_writable_number, is_writable_pair, mark_word, pair_words, spaced, system_word}
use Rattle.craig_script.proofs.NumbersLemmas.{digits-decimal, literal_of-is_decimal, literal_of-signed_decimal, number_of-decimal, number_of-is_decimal}
use Rattle.craig_script.proofs.WordsLemmas.{in_word}

pub both_true : (a b : Bool) → a ≡ true → b ≡ true → (a && b) ≡ true
both_true a b p q = rw (p, q) refl

-- ---- the words of a line that is written

-- whether the byte is no newline
abbrev pub in_line : ℕ → Bool
in_line b = not (b == 10)

-- whether the byte can stand in a word
abbrev pub in_line_word : ℕ → Bool
in_line_word b = in_word b && in_line b

-- whether the bytes can stand as a word
abbrev pub is_word : List ℕ → Bool
is_word w = has_byte w && list_all in_line_word w

no_separators : (w : List ℕ) → list_all in_line_word w ≡ true → All (λ b. is_separator b ≡ false) w
no_separators [] e k d within = absurd (omega arith)
no_separators (b ∷ bs) e zero d within =
    let inside : in_word b ≡ true = (and_parts (in_word b) (in_line b) (and_parts (in_line_word b) (list_all in_line_word bs) e).0).0 in grind arith
no_separators (b ∷ bs) e (suc k) d within = no_separators bs (and_parts (in_line_word b) (list_all in_line_word bs) e).1 k d (omega arith)

kept : (w : List ℕ) (vs : List (List ℕ)) → has_byte w ≡ true → filter has_byte (w ∷ vs) ≡ w ∷ filter has_byte vs
kept w vs e = rw e refl

-- words with one space between them are split into these words again
pub words-joined : (ws : List (List ℕ)) → list_all is_word ws ≡ true → words (join_with_byte 32 ws) ≡ ws
words-joined [] e = refl
words-joined (w ∷ []) e =
    let word = and_parts (has_byte w) (list_all in_line_word w) (and_parts (is_word w) true e).0 in
    ap (filter has_byte) (slice_split_none is_separator w (no_separators w word.1)) ∙ kept w [] word.0
words-joined (w ∷ (v ∷ ws)) e =
    let both = and_parts (is_word w) (list_all is_word (v ∷ ws)) e in
    let word = and_parts (has_byte w) (list_all in_line_word w) both.0 in
    ap (filter has_byte) (slice_split_at is_separator w 32 (join_with_byte 32 (v ∷ ws)) (no_separators w word.1) refl)
    ∙ kept w (slice_split is_separator (join_with_byte 32 (v ∷ ws))) word.0
    ∙ ap (λ vs. w ∷ vs) (words-joined (v ∷ ws) both.1)

-- the words behind the first stand behind a space each
pub joined-spaced : (w : List ℕ) (ws : List (List ℕ)) → join_with_byte 32 (w ∷ ws) ≡ w ++ spaced ws
joined-spaced w [] = sym (append-nil w)
joined-spaced w (v ∷ ws) = ap (λ bs. w ++ (32 ∷ bs)) (joined-spaced v ws)

-- ---- what is written is words

small_number : (n : ℕ) → is_writable_number n ≡ true → n < 10 ^ 18
small_number n e = grind (arith, nat_tests)

digit-in_word : (d : ℕ) → is_ascii_digit d ≡ true → in_line_word d ≡ true
digit-in_word d e = grind (arith, nat_tests)

digits-in_word : (ds : List ℕ) → list_all is_ascii_digit ds ≡ true → list_all in_line_word ds ≡ true
digits-in_word [] e = refl
digits-in_word (d ∷ ds) e =
    let both = and_parts (is_ascii_digit d) (list_all is_ascii_digit ds) e in
    both_true (in_line_word d) (list_all in_line_word ds) (digit-in_word d both.0) (digits-in_word ds both.1)

has_byte-long : (w : List ℕ) → 1 ≤ length w → has_byte w ≡ true
has_byte-long [] h = absurd (omega (arith, h))
has_byte-long (b ∷ bs) h = refl

decimal-is_word : (n : ℕ) → n < 10 ^ 18 → is_word (decimal n) ≡ true
decimal-is_word n h =
    let fits : n < 2 ^ 64 = omega arith in
    both_true (has_byte (decimal n)) (list_all in_line_word (decimal n)) (has_byte-long (decimal n) (decimal_nonempty n fits)) (digits-in_word (decimal n) (digits-decimal n fits))

signed-is_word : (z : ℤ) → unsigned_abs z < 10 ^ 18 → is_word (signed_decimal z) ≡ true
signed-is_word (pos n) h = decimal-is_word n h
signed-is_word (negsuc n) h = digits-in_word (decimal (suc n)) (digits-decimal (suc n) (omega (arith, h)))

small_literal : (z : ℤ) → is_writable_literal z ≡ true → (z ≢ pos 0) × (unsigned_abs z < 10 ^ 18)
small_literal z e =
    let both = and_parts (not (unsigned_abs z == 0)) (is_writable_number (unsigned_abs z)) e in
    (λ none. (let no : false ≡ true = ap (λ y. not (unsigned_abs y == 0)) (sym none) ∙ both.0 in cc), small_number (unsigned_abs z) both.1)

small_cut : (z : ℤ) → is_writable_cut z ≡ true → (n : ℕ) × (z ≡ pos n) × (n < 10 ^ 18)
small_cut (pos n) e = (n, refl, small_number n e)
small_cut (negsuc n) e = absurd cc

literals-are_words : (lits : List ℤ) (ws : List (List ℕ)) → list_all is_writable_literal lits ≡ true → list_all is_word ws ≡ true → list_all is_word (map signed_decimal lits ++ ws) ≡ true
literals-are_words [] ws e h = h
literals-are_words (z ∷ zs) ws e h =
    let both = and_parts (is_writable_literal z) (list_all is_writable_literal zs) e in
    both_true (is_word (signed_decimal z)) _ (signed-is_word z (small_literal z both.0).1) (literals-are_words zs ws both.1 h)

cuts-are_words : (cuts : List ℤ) → list_all is_writable_cut cuts ≡ true → list_all is_word (map signed_decimal cuts) ≡ true
cuts-are_words [] e = refl
cuts-are_words (z ∷ zs) e =
    let both = and_parts (is_writable_cut z) (list_all is_writable_cut zs) e in
    let small = small_cut z both.0 in
    both_true (is_word (signed_decimal z)) _ (ap (λ y. is_word (signed_decimal y)) small.1 ∙ decimal-is_word small.0 small.2) (cuts-are_words zs both.1)

pairs-are_words : (pairs : List (ℕ × ℤ)) (ws : List (List ℕ)) → list_all is_writable_pair pairs ≡ true → list_all is_word ws ≡ true → list_all is_word (flat_map pair_words pairs ++ ws) ≡ true
pairs-are_words [] ws e h = h
pairs-are_words (pair ∷ pairs) ws e h =
    let both = and_parts (is_writable_pair pair) (list_all is_writable_pair pairs) e in
    let parts = and_parts (is_writable_number pair.0) (is_writable_literal pair.1) both.0 in
    both_true (is_word (decimal pair.0)) _ (decimal-is_word pair.0 (small_number pair.0 parts.0))
    (both_true (is_word (signed_decimal pair.1)) _ (signed-is_word pair.1 (small_literal pair.1 parts.1).1) (pairs-are_words pairs ws both.1 h))

system_word-is_word : (s : SystemWord) → is_word (system_word s) ≡ true
system_word-is_word system.McMillan = refl
system_word-is_word system.Pudlak = refl
system_word-is_word system.Inverse = refl
system_word-is_word system.Dual = refl
system_word-is_word system.Marks = refl
system_word-is_word system.All = refl

mark_word-is_word : (m : MarkWord) → is_word (mark_word m) ≡ true
mark_word-is_word mark.A = refl
mark_word-is_word mark.Ab = refl
mark_word-is_word mark.B = refl

format_word-is_word : (f : FormatWord) → is_word (format_word f) ≡ true
format_word-is_word format.Aag = refl
format_word-is_word format.Aig = refl
format_word-is_word format.Cnf = refl

one_word : (w : List ℕ) → is_word w ≡ true → list_all is_word (w ∷ []) ≡ true
one_word w e = both_true (is_word w) true e refl

-- the words of a command are words of a line
pub words-of_command : (c : Command) → is_writable c ≡ true → list_all is_word (command_words c) ≡ true
words-of_command Nothing e = refl
words-of_command (Parts n) e = one_word (decimal n) (decimal-is_word n (small_number n e))
words-of_command (Add part lits) e =
    let both = and_parts (is_writable_number part) (list_all is_writable_literal lits) e in
    both_true (is_word (decimal part)) _ (decimal-is_word part (small_number part both.0)) (literals-are_words lits (codes "0" ∷ []) both.1 refl)
words-of_command (System s) e = one_word (system_word s) (system_word-is_word s)
words-of_command (Mark name m) e = both_true (is_word (decimal name)) _ (decimal-is_word name (small_number name e)) (one_word (mark_word m) (mark_word-is_word m))
words-of_command (Cuts cut.All) e = refl
words-of_command (Cuts (cut.Chosen cuts)) e = cuts-are_words cuts (and_parts (has_cut cuts) (list_all is_writable_cut cuts) e).1
words-of_command (Limit None) e = refl
words-of_command (Limit (Some n)) e = one_word (decimal n) (decimal-is_word n (small_number n e))
words-of_command (Format f) e = one_word (format_word f) (format_word-is_word f)
words-of_command (Solve pairs) e = pairs-are_words pairs (codes "0" ∷ []) e refl

pub words-of_line : (c : Command) → is_writable c ≡ true → words (command_line c) ≡ command_words c
words-of_line c e = words-joined (command_words c) (words-of_command c e)

-- ---- the words are read as the command

-- a word that is read as a number or a literal is no word that isn't
other_word : {X : Type 0} (read : List ℕ → Option X) (w name : List ℕ) (x : X) → read w ≡ Some x → read name ≡ None → bytes_eq w name ≡ false
other_word read w name x e none = cases (bytes_eq w name) refl
  where
    cases : (b : Bool) → bytes_eq w name ≡ b → bytes_eq w name ≡ false
    cases true is = absurd (let same : w ≡ name = (bytes_eq-Decides w name).0 is in let no : Some x ≡ None = sym e ∙ ap read same ∙ none in cc)
    cases false is = is

literals-read : (lits : List ℤ) → list_all is_writable_literal lits ≡ true → literals_to_end (map signed_decimal lits ++ codes "0" ∷ []) ≡ Ok lits
literals-read [] e = refl
literals-read (z ∷ zs) e =
    let both = and_parts (is_writable_literal z) (list_all is_writable_literal zs) e in
    let small = small_literal z both.0 in
    let read : literal_of (signed_decimal z) ≡ Some z = literal_of-signed_decimal z small.0 small.1 in
    let other : is_end (signed_decimal z) ≡ false = other_word literal_of (signed_decimal z) (codes "0") z read refl in
    rw (other, read, literals-read zs both.1) refl

numbers-read : (cuts : List ℤ) → list_all is_writable_cut cuts ≡ true → numbers_to_end (map signed_decimal cuts) ≡ Ok cuts
numbers-read [] e = refl
numbers-read (pos n ∷ zs) e =
    let both = and_parts (is_writable_cut (pos n)) (list_all is_writable_cut zs) e in
    rw (number_of-decimal n (small_number n both.0), numbers-read zs both.1) refl
numbers-read (negsuc n ∷ zs) e = absurd cc

pairs-read : (pairs : List (ℕ × ℤ)) → list_all is_writable_pair pairs ≡ true → pairs_to_end (flat_map pair_words pairs ++ codes "0" ∷ []) ≡ Ok pairs
pairs-read [] e = refl
pairs-read (pair ∷ pairs) e =
    let both = and_parts (is_writable_pair pair) (list_all is_writable_pair pairs) e in
    let parts = and_parts (is_writable_number pair.0) (is_writable_literal pair.1) both.0 in
    let small = small_literal pair.1 parts.1 in
    rw (number_of-decimal pair.0 (small_number pair.0 parts.0), literal_of-signed_decimal pair.1 small.0 small.1, pairs-read pairs both.1) refl

system-read : (s : SystemWord) → system_named (system_word s) ≡ Some s
system-read system.McMillan = refl
system-read system.Pudlak = refl
system-read system.Inverse = refl
system-read system.Dual = refl
system-read system.Marks = refl
system-read system.All = refl

mark-read : (m : MarkWord) → mark_named (mark_word m) ≡ Some m
mark-read mark.A = refl
mark-read mark.Ab = refl
mark-read mark.B = refl

format-read : (f : FormatWord) → format_named (format_word f) ≡ Some f
format-read format.Aag = refl
format-read format.Aig = refl
format-read format.Cnf = refl

cuts-read : (cuts : List ℤ) → are_writable_cuts (cut.Chosen cuts) ≡ true → cuts_of (map signed_decimal cuts) ≡ Ok (Cuts (cut.Chosen cuts))
cuts-read [] e = absurd cc
cuts-read (negsuc n ∷ zs) e = absurd cc
cuts-read (pos n ∷ zs) e =
    let both = and_parts (is_writable_cut (pos n)) (list_all is_writable_cut zs) e in
    let read : number_of (decimal n) ≡ Some n = number_of-decimal n (small_number n both.0) in
    let other : bytes_eq (decimal n) (codes "all") ≡ false = other_word number_of (decimal n) (codes "all") n read refl in
    rw (other, read, numbers-read zs both.1) refl

-- they are read as the command
pub command_read : (c : Command) → is_writable c ≡ true → command_of (command_words c) ≡ Ok c
command_read Nothing e = absurd cc
command_read (Parts n) e = rw (number_of-decimal n (small_number n e)) refl
command_read (Add part lits) e =
    let both = and_parts (is_writable_number part) (list_all is_writable_literal lits) e in
    rw (number_of-decimal part (small_number part both.0), literals-read lits both.1) refl
command_read (System s) e = rw (system-read s) refl
command_read (Mark name m) e = rw (number_of-decimal name (small_number name e), mark-read m) refl
command_read (Cuts cut.All) e = refl
command_read (Cuts (cut.Chosen cuts)) e = cuts-read cuts e
command_read (Limit None) e = refl
command_read (Limit (Some n)) e =
    let read : number_of (decimal n) ≡ Some n = number_of-decimal n (small_number n e) in
    let other : bytes_eq (decimal n) (codes "none") ≡ false = other_word number_of (decimal n) (codes "none") n read refl in
    rw (other, read) refl
command_read (Format f) e = rw (format-read f) refl
command_read (Solve pairs) e = rw (pairs-read pairs e) refl

pub line_read : (c : Command) → is_writable c ≡ true → command_of (words (command_line c)) ≡ Ok c
line_read c e = ap command_of (words-of_line c e) ∙ command_read c e

-- and so is its line, where it isn't overlong
pub line_parsed : (c : Command) → is_writable c ≡ true → length (command_line c) ≤ line_limit → parsed (line.Text (command_line c)) ≡ Ok c
line_parsed c e short = let within : nat_le (length (command_line c)) line_limit ≡ true = grind (arith, nat_tests, short) in rw within (line_read c e)

-- ---- the line has no newline

word_in_line : (w : List ℕ) → list_all in_line_word w ≡ true → list_all in_line w ≡ true
word_in_line [] e = refl
word_in_line (b ∷ bs) e =
    let both = and_parts (in_line_word b) (list_all in_line_word bs) e in
    both_true (in_line b) (list_all in_line bs) (and_parts (in_word b) (in_line b) both.0).1 (word_in_line bs both.1)

behind_in_line : (w bs : List ℕ) → list_all in_line w ≡ true → list_all in_line bs ≡ true → list_all in_line (w ++ bs) ≡ true
behind_in_line [] bs e h = h
behind_in_line (b ∷ w) bs e h = let both = and_parts (in_line b) (list_all in_line w) e in both_true (in_line b) (list_all in_line (w ++ bs)) both.0 (behind_in_line w bs both.1 h)

joined_in_line : (ws : List (List ℕ)) → list_all is_word ws ≡ true → list_all in_line (join_with_byte 32 ws) ≡ true
joined_in_line [] e = refl
joined_in_line (w ∷ []) e = word_in_line w (and_parts (has_byte w) (list_all in_line_word w) (and_parts (is_word w) true e).0).1
joined_in_line (w ∷ (v ∷ ws)) e =
    let both = and_parts (is_word w) (list_all is_word (v ∷ ws)) e in
    behind_in_line w (32 ∷ join_with_byte 32 (v ∷ ws)) (word_in_line w (and_parts (has_byte w) (list_all in_line_word w) both.0).1) (joined_in_line (v ∷ ws) both.1)

not_in : (bs : List ℕ) → list_all in_line bs ≡ true → ¬ Contains bs 10
not_in bs e (k, within, at) = let is : in_line (get_or bs k 10) ≡ true = AllPass-from_list_all in_line bs e k 10 within in (let no : false ≡ true = sym (ap in_line at) ∙ is in cc)

pub line-no_newline : (c : Command) → is_writable c ≡ true → ¬ Contains (command_line c) 10
line-no_newline c e = not_in (command_line c) (joined_in_line (command_words c) (words-of_command c e))

-- ---- what is appended word by word

pub add_written : {T E : Type 0} (r : Result T E) (old new : List ℕ) (c : Command) (part : ℕ) (lits items : List ℤ) → c ≡ Add part lits → items ≡ lits
    → OnOk r (new ≡ old ++ (codes "add" ++ spaced (decimal part ∷ (map signed_decimal items ++ codes "0" ∷ [])))) → OnOk r (new ≡ old ++ command_line c)
add_written (Err x) old new c part lits items is same e = tt
add_written (Ok x) old new c part lits items is same e =
    e ∙ ap (λ zs. old ++ (codes "add" ++ spaced (decimal part ∷ (map signed_decimal zs ++ codes "0" ∷ [])))) same
    ∙ ap (λ bs. old ++ bs) (sym (joined-spaced (codes "add") (decimal part ∷ (map signed_decimal lits ++ codes "0" ∷ [])))) ∙ ap (λ d. old ++ command_line d) (sym is)

pub cuts_written : {T E : Type 0} (r : Result T E) (old new : List ℕ) (c : Command) (cuts : CutWord) → c ≡ Cuts cuts → OnOk r (new ≡ old ++ (codes "cuts" ++ spaced (cut_words cuts))) → OnOk r (new ≡ old ++ command_line c)
cuts_written (Err x) old new c cuts is e = tt
cuts_written (Ok x) old new c cuts is e = e ∙ ap (λ bs. old ++ bs) (sym (joined-spaced (codes "cuts") (cut_words cuts))) ∙ ap (λ d. old ++ command_line d) (sym is)

pub solve_written : {T E : Type 0} (r : Result T E) (old new : List ℕ) (c : Command) (pairs items : List (ℕ × ℤ)) → c ≡ Solve pairs → items ≡ pairs
    → OnOk r (new ≡ old ++ (codes "solve" ++ spaced (flat_map pair_words items ++ codes "0" ∷ []))) → OnOk r (new ≡ old ++ command_line c)
solve_written (Err x) old new c pairs items is same e = tt
solve_written (Ok x) old new c pairs items is same e =
    e ∙ ap (λ (ps : List (ℕ × ℤ)). old ++ (codes "solve" ++ spaced (flat_map pair_words ps ++ codes "0" ∷ []))) same
    ∙ ap (λ bs. old ++ bs) (sym (joined-spaced (codes "solve") (flat_map pair_words pairs ++ codes "0" ∷ []))) ∙ ap (λ d. old ++ command_line d) (sym is)

-- ---- what is read can be written

-- what is read passes the test, or there is a refusal
abbrev passes : {A : Type 0} → (A → Bool) → Result A Refusal → Bool
passes p (Ok x) = p x
passes p (Err e) = true

-- the same as a claim
record Passes {A : Type 0} (p : A → Bool) (read : Result A Refusal) : Type 0 where
  passed : passes p read ≡ true

passes-then : {A B : Type 0} (p : A → Bool) (q : B → Bool) (read : Result A Refusal) (f : A → Result B Refusal) → passes p read ≡ true → ((x : A) → p x ≡ true → passes q (f x) ≡ true) → passes q (read >>= f) ≡ true
passes-then p q (Ok x) f e next = next x e
passes-then p q (Err r) f e next = refl

passes-chosen : {A : Type 0} (p : A → Bool) (b : Bool) (x y : Result A Refusal) → passes p x ≡ true → passes p y ≡ true → passes p (if b then x else y) ≡ true
passes-chosen p true x y e h = e
passes-chosen p false x y e h = h

-- any word
abbrev always : {A : Type 0} → A → Bool
always x = true

passes-always : {A : Type 0} (read : Result A Refusal) → passes always read ≡ true
passes-always (Ok x) = refl
passes-always (Err e) = refl

passes-number : (w : List ℕ) → passes is_writable_number (or_syntax (number_of w)) ≡ true
passes-number w = cases (number_of w) refl
  where
    cases : (o : Option ℕ) → number_of w ≡ o → passes is_writable_number (or_syntax o) ≡ true
    cases None e = refl
    cases (Some n) e = let small : n < 10 ^ 18 = (number_of-is_decimal w n e).1 in grind (arith, nat_tests, small)

writable-literal : (z : ℤ) → z ≢ pos 0 → unsigned_abs z < 10 ^ 18 → is_writable_literal z ≡ true
writable-literal (pos zero) some small = absurd (some refl)
writable-literal (pos (suc n)) some small = grind (arith, nat_tests, small)
writable-literal (negsuc n) some small = grind (arith, nat_tests, small)

passes-literal : (w : List ℕ) → passes is_writable_literal (or_syntax (literal_of w)) ≡ true
passes-literal w = cases (literal_of w) refl
  where
    cases : (o : Option ℤ) → literal_of w ≡ o → passes is_writable_literal (or_syntax o) ≡ true
    cases None e = refl
    cases (Some z) e = let form = literal_of-is_decimal w z e in writable-literal z form.some form.small

passes-nothing : {A : Type 0} (p : A → Bool) (ws : List (List ℕ)) (x : A) → p x ≡ true → passes p (then_nothing ws x) ≡ true
passes-nothing p [] x e = e
passes-nothing p (w ∷ ws) x e = refl

passes-literals : (ws : List (List ℕ)) → passes (list_all is_writable_literal) (literals_to_end ws) ≡ true
passes-literals [] = refl
passes-literals (w ∷ ws) =
    passes-chosen (list_all is_writable_literal) (is_end w) _ _ (passes-nothing (list_all is_writable_literal) ws [] refl)
    (passes-then is_writable_literal (list_all is_writable_literal) (or_syntax (literal_of w)) (λ l. literals_to_end ws >>= λ ls. Ok (l ∷ ls)) (passes-literal w)
    (λ l e. passes-then (list_all is_writable_literal) (list_all is_writable_literal) (literals_to_end ws) (λ ls. Ok (l ∷ ls)) (passes-literals ws) (λ ls h. both_true (is_writable_literal l) _ e h)))

passes-numbers : (ws : List (List ℕ)) → passes (list_all is_writable_cut) (numbers_to_end ws) ≡ true
passes-numbers [] = refl
passes-numbers (w ∷ ws) =
    passes-then is_writable_number (list_all is_writable_cut) (or_syntax (number_of w)) (λ n. numbers_to_end ws >>= λ ns. Ok (pos n ∷ ns)) (passes-number w)
    (λ n e. passes-then (list_all is_writable_cut) (list_all is_writable_cut) (numbers_to_end ws) (λ ns. Ok (pos n ∷ ns)) (passes-numbers ws) (λ ns h. both_true (is_writable_number n) _ e h))

passes-pairs : (ws : List (List ℕ)) → passes (list_all is_writable_pair) (pairs_to_end ws) ≡ true
passes-pairs [] = refl
passes-pairs (w ∷ []) = passes-chosen (list_all is_writable_pair) (is_end w) (Ok []) (Err Syntax) refl refl
passes-pairs (w ∷ (v ∷ ws)) =
    passes-then is_writable_number (list_all is_writable_pair) (or_syntax (number_of w)) (λ part. or_syntax (literal_of v) >>= λ lit. (pairs_to_end ws >>= λ pairs. Ok ((part, lit) ∷ pairs))) (passes-number w)
    (λ part e. passes-then is_writable_literal (list_all is_writable_pair) (or_syntax (literal_of v)) (λ lit. pairs_to_end ws >>= λ pairs. Ok ((part, lit) ∷ pairs)) (passes-literal v)
    (λ lit h. passes-then (list_all is_writable_pair) (list_all is_writable_pair) (pairs_to_end ws) (λ pairs. Ok ((part, lit) ∷ pairs)) (passes-pairs ws)
    (λ pairs rest. both_true (is_writable_number part && is_writable_literal lit) _ (both_true (is_writable_number part) _ e h) rest)))

-- whether the command can be written, or is none
abbrev is_nothing_or_writable : Command → Bool
is_nothing_or_writable Nothing = true
is_nothing_or_writable (Parts n) = is_writable (Parts n)
is_nothing_or_writable (Add part lits) = is_writable (Add part lits)
is_nothing_or_writable (System s) = true
is_nothing_or_writable (Mark name m) = is_writable (Mark name m)
is_nothing_or_writable (Cuts cuts) = is_writable (Cuts cuts)
is_nothing_or_writable (Limit limit) = is_writable (Limit limit)
is_nothing_or_writable (Format f) = true
is_nothing_or_writable (Solve pairs) = is_writable (Solve pairs)

-- there is a cut where a word is there to write it
some_cut : (w : List ℕ) (ws : List (List ℕ)) → passes has_cut (numbers_to_end (w ∷ ws)) ≡ true
some_cut w ws =
    passes-then always has_cut (or_syntax (number_of w)) (λ n. numbers_to_end ws >>= λ ns. Ok (pos n ∷ ns)) (passes-always (or_syntax (number_of w)))
    (λ n e. passes-then always has_cut (numbers_to_end ws) (λ ns. Ok (pos n ∷ ns)) (passes-always (numbers_to_end ws)) (λ ns h. refl))

passes-both : {A : Type 0} (p q : A → Bool) (read : Result A Refusal) → passes p read ≡ true → passes q read ≡ true → passes (λ x. p x && q x) read ≡ true
passes-both p q (Ok x) e h = both_true (p x) (q x) e h
passes-both p q (Err r) e h = refl

-- what the words of a line ask for can be written, or is nothing
passes-command : (ws : List (List ℕ)) → passes is_nothing_or_writable (command_of ws) ≡ true
passes-command [] = refl
passes-command (w ∷ ws) =
    let all : Passes is_nothing_or_writable (command_of (w ∷ ws)) =
    chosen (is_comment w) (Ok Nothing) _ refl
    (chosen (bytes_eq w (codes "add")) (add_of ws) _ (adds ws)
    (chosen (bytes_eq w (codes "parts")) (parts_of ws) _ (divides ws)
    (chosen (bytes_eq w (codes "system")) (system_of ws) _ (names ws)
    (chosen (bytes_eq w (codes "mark")) (mark_of ws) _ (marks ws)
    (chosen (bytes_eq w (codes "cuts")) (cuts_of ws) _ (cuts ws)
    (chosen (bytes_eq w (codes "limit")) (limit_of ws) _ (limits ws)
    (chosen (bytes_eq w (codes "format")) (format_of ws) _ (formats ws)
    (chosen (bytes_eq w (codes "solve")) (solve_of ws) (Err Syntax) (solves ws) (record { passed = refl }))))))))) in
    all.passed
  where
    chosen : (b : Bool) (x y : Result Command Refusal) → passes is_nothing_or_writable x ≡ true → Passes is_nothing_or_writable y → Passes is_nothing_or_writable (if b then x else y)
    chosen b x y e h = record { passed = passes-chosen is_nothing_or_writable b x y e h.passed }

    adds : (ws : List (List ℕ)) → passes is_nothing_or_writable (add_of ws) ≡ true
    adds [] = refl
    adds (w ∷ ws) =
        passes-then is_writable_number is_nothing_or_writable (or_syntax (number_of w)) (λ part. literals_to_end ws >>= λ lits. Ok (Add part lits)) (passes-number w)
        (λ part e. passes-then (list_all is_writable_literal) is_nothing_or_writable (literals_to_end ws) (λ lits. Ok (Add part lits)) (passes-literals ws) (λ lits h. both_true (is_writable_number part) _ e h))

    divides : (ws : List (List ℕ)) → passes is_nothing_or_writable (parts_of ws) ≡ true
    divides ws =
        passes-then always is_nothing_or_writable (only_word ws) (λ w. or_syntax (number_of w) >>= λ n. Ok (Parts n)) (passes-always (only_word ws))
        (λ w e. passes-then is_writable_number is_nothing_or_writable (or_syntax (number_of w)) (λ n. Ok (Parts n)) (passes-number w) (λ n h. h))

    names : (ws : List (List ℕ)) → passes is_nothing_or_writable (system_of ws) ≡ true
    names ws =
        passes-then always is_nothing_or_writable (only_word ws) (λ w. or_syntax (system_named w) >>= λ s. Ok (System s)) (passes-always (only_word ws))
        (λ w e. passes-then always is_nothing_or_writable (or_syntax (system_named w)) (λ s. Ok (System s)) (passes-always (or_syntax (system_named w))) (λ s h. refl))

    marks : (ws : List (List ℕ)) → passes is_nothing_or_writable (mark_of ws) ≡ true
    marks [] = refl
    marks (w ∷ ws) =
        passes-then is_writable_number is_nothing_or_writable (or_syntax (number_of w)) (λ name. only_word ws >>= λ v. (or_syntax (mark_named v) >>= λ m. Ok (Mark name m))) (passes-number w)
        (λ name e. passes-then always is_nothing_or_writable (only_word ws) (λ v. or_syntax (mark_named v) >>= λ m. Ok (Mark name m)) (passes-always (only_word ws))
        (λ v h. passes-then always is_nothing_or_writable (or_syntax (mark_named v)) (λ m. Ok (Mark name m)) (passes-always (or_syntax (mark_named v))) (λ m k. e)))

    cuts : (ws : List (List ℕ)) → passes is_nothing_or_writable (cuts_of ws) ≡ true
    cuts [] = refl
    cuts (w ∷ ws) =
        passes-chosen is_nothing_or_writable (bytes_eq w (codes "all")) (then_nothing ws (Cuts cut.All)) _ (passes-nothing is_nothing_or_writable ws (Cuts cut.All) refl)
        (passes-then (λ zs. has_cut zs && list_all is_writable_cut zs) is_nothing_or_writable (numbers_to_end (w ∷ ws)) (λ ns. Ok (Cuts (cut.Chosen ns)))
        (passes-both has_cut (list_all is_writable_cut) (numbers_to_end (w ∷ ws)) (some_cut w ws) (passes-numbers (w ∷ ws))) (λ ns h. h))

    limits : (ws : List (List ℕ)) → passes is_nothing_or_writable (limit_of ws) ≡ true
    limits ws =
        passes-then always is_nothing_or_writable (only_word ws) (λ w. if bytes_eq w (codes "none") then Ok (Limit None) else (or_syntax (number_of w) >>= λ n. Ok (Limit (Some n)))) (passes-always (only_word ws))
        (λ w e. passes-chosen is_nothing_or_writable (bytes_eq w (codes "none")) (Ok (Limit None)) _ refl (passes-then is_writable_number is_nothing_or_writable (or_syntax (number_of w)) (λ n. Ok (Limit (Some n))) (passes-number w) (λ n h. h)))

    formats : (ws : List (List ℕ)) → passes is_nothing_or_writable (format_of ws) ≡ true
    formats ws =
        passes-then always is_nothing_or_writable (only_word ws) (λ w. or_syntax (format_named w) >>= λ f. Ok (Format f)) (passes-always (only_word ws))
        (λ w e. passes-then always is_nothing_or_writable (or_syntax (format_named w)) (λ f. Ok (Format f)) (passes-always (or_syntax (format_named w))) (λ f h. refl))

    solves : (ws : List (List ℕ)) → passes is_nothing_or_writable (solve_of ws) ≡ true
    solves ws = passes-then (list_all is_writable_pair) is_nothing_or_writable (pairs_to_end ws) (λ pairs. Ok (Solve pairs)) (passes-pairs ws) (λ pairs h. h)

passes-line : (bytes : List ℕ) → passes is_nothing_or_writable (parsed (line.Text bytes)) ≡ true
passes-line bytes = passes-chosen is_nothing_or_writable (nat_le (length bytes) line_limit) (command_of (words bytes)) (Err Overlong) (passes-command (words bytes)) refl

is_some_command : (c : Command) → is_nothing_or_writable c ≡ true → c ≢ Nothing → is_writable c ≡ true
is_some_command Nothing e some = absurd (some refl)
is_some_command (Parts n) e some = e
is_some_command (Add part lits) e some = e
is_some_command (System s) e some = e
is_some_command (Mark name m) e some = e
is_some_command (Cuts cuts) e some = e
is_some_command (Limit limit) e some = e
is_some_command (Format f) e some = refl
is_some_command (Solve pairs) e some = e

-- a command that was read can be written
pub given_is_writable : (l : Line) (c : Command) → parsed l ≡ Ok c → c ≢ Nothing → is_writable c ≡ true
given_is_writable line.Overlong c e some = absurd (cc)
given_is_writable (line.Text bytes) c e some = is_some_command c (sym (ap (passes is_nothing_or_writable) e) ∙ passes-line bytes) some
