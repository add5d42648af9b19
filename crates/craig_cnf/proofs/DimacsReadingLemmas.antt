-- A DIMACS text is read as its clauses.
use Rattle.std.proofs.Common.{◌≡◌, ◌∙◌, sym, ap, subst, refl, ℕ, ◌^◌, ◌<◌, ◌≤◌, Bool, true, false, eqb, List, [], ◌∷◌, ◌++◌, length, get_or, map, Some, option_map, codes, append_assoc, arith}
use Rattle.std.specs.Char.{is_ascii_digit}
use Rattle.std.specs.Fmt.{decimal}
use Rattle.std.specs.List.{flat_map, list_all, slice_split}
use Rattle.std.specs.Str.{bytes_eq}
use Rattle.std.proofs.lemmas.Bool.Decides.{nat_tests}
use Rattle.std.proofs.lemmas.Fmt.{first_decimal}
use Rattle.std.proofs.lemmas.Slice.Eq.{bytes_eq-Decides}
use Rattle.craig_spec.specs.AigerReading.{all_read, words_of}
use Rattle.craig_spec.specs.Dimacs.{clause_of_line, clause_of_words, ended_lines, ended_pieces, is_by_variable, literal_of_word, read_dimacs, variable_of_word}
use Rattle.craig_spec.specs.DimacsText.{clause_line, dimacs_text, greatest_of_clause, greatest_of_clauses, header_bytes, literal_text}
use Rattle.craig_spec.specs.Literal.{Literal, Clause}
use Rattle.craig_spec.proofs.TextWordLemmas.{Lacks, ended, lacks-append, lacks-decimal, number_in-decimal, split_first, split_last}

-- a number that a word can write, and not 0
pub record IsVariable (x : ℕ) : Type 0 where
  pub some : 1 ≤ x
  pub small : x < 10 ^ 18

abbrev pub AreVariables : Clause → Type 0
AreVariables [] = Unit {0}
AreVariables (l ∷ c) = IsVariable l.var × AreVariables c

abbrev pub EachHasVariables : List Clause → Type 0
EachHasVariables [] = Unit {0}
EachHasVariables (c ∷ cs) = AreVariables c × EachHasVariables cs

variable_read : (x : ℕ) → IsVariable x → variable_of_word (decimal x) ≡ Some x
variable_read x h =
    let first : 48 < get_or (decimal x) 0 0 = first_decimal x (omega (arith, h.some)) (omega (arith, h.small)) in
    let f : eqb (get_or (decimal x) 0 0) 48 ≡ false = grind (arith, nat_tests, first) in
    rw f (number_in-decimal x h.small)

literal_read_by : (x : ℕ) (negated : Bool) → IsVariable x → literal_of_word (literal_text (record { var = x; negated = negated })) ≡ Some (record { var = x; negated = negated })
literal_read_by x true h = ap (option_map (λ (y : ℕ). record { var = y; negated = true })) (variable_read x h)
literal_read_by x false h =
    let first : 48 < get_or (decimal x) 0 0 = first_decimal x (omega (arith, h.some)) (omega (arith, h.small)) in
    let f : eqb (get_or (decimal x) 0 0) 45 ≡ false = grind (arith, nat_tests, first) in
    rw f (ap (option_map (λ (y : ℕ). record { var = y; negated = false })) (variable_read x h))

-- a literal is read from its text
pub literal_read : (l : Literal) → IsVariable l.var → literal_of_word (literal_text l) ≡ Some l
literal_read l h = literal_read_by l.var l.negated h

lacks_literal_by : (b x : ℕ) (negated : Bool) → is_ascii_digit b ≡ false → eqb 45 b ≡ false → x < 2 ^ 64 → Lacks b (literal_text (record { var = x; negated = negated }))
lacks_literal_by b x true digit minus h = rw minus (lacks-decimal b x digit h)
lacks_literal_by b x false digit minus h = lacks-decimal b x digit h

-- it has no byte but a minus sign and digits
pub lacks_literal : (b : ℕ) (l : Literal) → is_ascii_digit b ≡ false → eqb 45 b ≡ false → IsVariable l.var → Lacks b (literal_text l)
lacks_literal b l digit minus h = lacks_literal_by b l.var l.negated digit minus (omega (arith, h.small))

clause-small : (c : Clause) → AreVariables c → greatest_of_clause c < 10 ^ 18
clause-small [] h = omega arith
clause-small (l ∷ c) h = omega (arith, h.0.small, clause-small c h.1)

-- the greatest variable can be written
pub greatest-small : (cs : List Clause) → EachHasVariables cs → greatest_of_clauses cs < 10 ^ 18
greatest-small [] h = omega arith
greatest-small (c ∷ cs) h = omega (arith, clause-small c h.0, greatest-small cs h.1)

-- a clause on its line, without the newline
abbrev pub literals_bytes : Clause → List ℕ
literals_bytes c = flat_map (λ l. literal_text l ++ codes " ") c

abbrev pub clause_bytes : Clause → List ℕ
clause_bytes c = literals_bytes c ++ 48 ∷ []

clause_line-is : (c : Clause) → clause_line c ≡ clause_bytes c ++ 10 ∷ []
clause_line-is c = sym (append_assoc (literals_bytes c) (48 ∷ []) (10 ∷ []))

clause_bytes-more : (l : Literal) (c : Clause) → clause_bytes (l ∷ c) ≡ literal_text l ++ 32 ∷ clause_bytes c
clause_bytes-more l c = append_assoc (literal_text l ++ 32 ∷ []) (literals_bytes c) (48 ∷ []) ∙ append_assoc (literal_text l) (32 ∷ []) (clause_bytes c)

clause_words : (c : Clause) → AreVariables c → words_of (clause_bytes c) ≡ map literal_text c ++ (48 ∷ []) ∷ []
clause_words [] h = split_last 32 (48 ∷ []) refl
clause_words (l ∷ c) h =
    ap words_of (clause_bytes-more l c) ∙ split_first 32 (literal_text l) (clause_bytes c) (lacks_literal 32 l refl refl h.0) refl
    ∙ ap (λ ws. literal_text l ∷ ws) (clause_words c h.1)

words_read : (c : Clause) → AreVariables c → clause_of_words (map literal_text c ++ (48 ∷ []) ∷ []) ≡ Some c
words_read [] h = refl
words_read (l ∷ []) h = rw (literal_read l h.0) refl
words_read (l ∷ (m ∷ c)) h =
    let rest : clause_of_words (map literal_text (m ∷ c) ++ (48 ∷ []) ∷ []) ≡ Some (m ∷ c) = words_read (m ∷ c) h.1 in
    rw (literal_read l h.0, rest) refl

-- a clause is read from its line
pub clause_read : (c : Clause) → AreVariables c → clause_of_line (clause_bytes c) ≡ Some c
unfolding clause_of_line
clause_read c h = ap clause_of_words (clause_words c h) ∙ words_read c h

pub clauses_read : (cs : List Clause) → EachHasVariables cs → all_read (map clause_of_line (map clause_bytes cs)) ≡ Some cs
clauses_read [] h = refl
clauses_read (c ∷ cs) h =
    let rest : all_read (map clause_of_line (map clause_bytes cs)) ≡ Some cs = clauses_read cs h.1 in
    rw (clause_read c h.0, rest) refl

-- lines with their newlines
pub clause_lines-ended : (cs : List Clause) → flat_map clause_line cs ≡ ended (map clause_bytes cs)
clause_lines-ended [] = refl
clause_lines-ended (c ∷ cs) =
    ap (λ l. l ++ flat_map clause_line cs) (clause_line-is c) ∙ append_assoc (clause_bytes c) (10 ∷ []) (flat_map clause_line cs) ∙ ap (λ l. clause_bytes c ++ 10 ∷ l) (clause_lines-ended cs)

abbrev pub AllLack : List (List ℕ) → Type 0
AllLack [] = Unit {0}
AllLack (l ∷ ls) = Lacks 10 l × AllLack ls

pub AllLack-append : (xs ys : List (List ℕ)) → AllLack xs → AllLack ys → AllLack (xs ++ ys)
AllLack-append [] ys p q = q
AllLack-append (x ∷ xs) ys p q = (p.0, AllLack-append xs ys p.1 q)

split_ended : (ls : List (List ℕ)) → AllLack ls → slice_split (λ b. eqb b 10) (ended ls) ≡ ls ++ [] ∷ []
split_ended [] h = refl
split_ended (l ∷ ls) h = split_first 10 l (ended ls) h.0 refl ∙ ap (λ ps. l ∷ ps) (split_ended ls h.1)

pieces_ended : (ls : List (List ℕ)) → ended_pieces (ls ++ [] ∷ []) ≡ Some ls
pieces_ended [] = refl
pieces_ended (l ∷ []) = refl
pieces_ended (l ∷ (m ∷ ls)) = ap (option_map (λ (rest : List (List ℕ)). l ∷ rest)) (pieces_ended (m ∷ ls))

-- the lines of a text that is made of lines
pub ended_lines-ended : (ls : List (List ℕ)) → AllLack ls → ended_lines (ended ls) ≡ Some ls
ended_lines-ended ls h = ap ended_pieces (split_ended ls h) ∙ pieces_ended ls

lacks_clause : (c : Clause) → AreVariables c → Lacks 10 (clause_bytes c)
lacks_clause [] h = refl
lacks_clause (l ∷ c) h = subst (Lacks 10) (sym (clause_bytes-more l c)) (lacks-append 10 (literal_text l) (32 ∷ clause_bytes c) (lacks_literal 10 l refl refl h.0) (lacks_clause c h.1))

pub lack_clauses : (cs : List Clause) → EachHasVariables cs → AllLack (map clause_bytes cs)
lack_clauses [] h = tt
lack_clauses (c ∷ cs) h = (lacks_clause c h.0, lack_clauses cs h.1)

pub lacks_header : (g n : ℕ) → g < 2 ^ 64 → n < 2 ^ 64 → Lacks 10 (header_bytes g n)
lacks_header g n hg hn =
    lacks-append 10 ((codes "p cnf " ++ decimal g) ++ codes " ") (decimal n)
    (lacks-append 10 (codes "p cnf " ++ decimal g) (codes " ") (lacks-append 10 (codes "p cnf ") (decimal g) refl (lacks-decimal 10 g refl hg)) refl)
    (lacks-decimal 10 n refl hn)

pub bytes_same : (xs : List ℕ) → bytes_eq xs xs ≡ true
bytes_same xs = (bytes_eq-Decides xs xs).1 refl

text-ended : (cs : List Clause) → dimacs_text cs ≡ ended (header_bytes (greatest_of_clauses cs) (length cs) ∷ map clause_bytes cs)
text-ended cs =
    append_assoc (header_bytes (greatest_of_clauses cs) (length cs)) (10 ∷ []) (flat_map clause_line cs)
    ∙ ap (λ l. header_bytes (greatest_of_clauses cs) (length cs) ++ 10 ∷ l) (clause_lines-ended cs)

-- the clauses are read from their text
pub dimacs_read : (cs : List Clause) → EachHasVariables cs → list_all is_by_variable cs ≡ true → length cs < 2 ^ 64 → read_dimacs (dimacs_text cs) ≡ Some cs
unfolding read_dimacs
dimacs_read cs h up n =
    let g : greatest_of_clauses cs < 2 ^ 64 = omega (arith, greatest-small cs h) in
    let lines : ended_lines (dimacs_text cs) ≡ Some (header_bytes (greatest_of_clauses cs) (length cs) ∷ map clause_bytes cs) =
    ap ended_lines (text-ended cs) ∙ ended_lines-ended (header_bytes (greatest_of_clauses cs) (length cs) ∷ map clause_bytes cs) (lacks_header (greatest_of_clauses cs) (length cs) g n, lack_clauses cs h) in
    rw (lines, clauses_read cs h, bytes_same (header_bytes (greatest_of_clauses cs) (length cs)), up) refl
