-- The reading of a DIMACS text, over the list of its lines: the clauses that it has.
--
-- After the format of the second DIMACS implementation challenge, "Satisfiability: Suggested Format", 1993. What is
-- read here is narrower: there are no comments, a clause is one line with one space between its words, numbers have no
-- leading zeros, the literals of a clause stand by rising variable, and the header says what there is exactly.
use Rattle.std.specs.Prelude.{ℕ, ◌&&◌, ◌==◌, Bool, true, false, nat_lt, List, [], ◌∷◌, length, map, drop, slice_index, Option, Some, None, codes, if◌then◌else◌}
use Rattle.std.specs.Option.{option_map}
use Rattle.std.specs.List.{list_all, slice_split}
use Rattle.std.specs.Str.{bytes_eq}
use Rattle.craig_spec.specs.AigerReading.{all_read, number_in, words_of, ◌>>?◌}
use Rattle.craig_spec.specs.DimacsText.{greatest_of_clauses, header_bytes}
use Rattle.craig_spec.specs.Literal.{Literal, Clause}

-- the pieces but the last, which is empty: a newline ends each line
abbrev pub ended_pieces : List (List ℕ) → Option (List (List ℕ))
ended_pieces [] = None
ended_pieces (last ∷ []) = if length last == 0 then Some [] else None
ended_pieces (line ∷ (next ∷ pieces)) = option_map (λ lines. line ∷ lines) (ended_pieces (next ∷ pieces))

-- the lines of a text, each of which a newline ends
abbrev pub ended_lines : List ℕ → Option (List (List ℕ))
ended_lines bytes = ended_pieces (slice_split (λ b. b == 10) bytes)

-- the variable that a word writes: a number without leading zeros, and not 0
abbrev pub variable_of_word : List ℕ → Option ℕ
variable_of_word word = if slice_index word 0 == 48 then None else number_in word

-- the literal that a word writes: a variable, behind a minus sign where it is negated
abbrev pub literal_of_word : List ℕ → Option Literal
literal_of_word word =
    if slice_index word 0 == 45
    then option_map (λ x. record { var = x; negated = true }) (variable_of_word (drop 1 word))
    else option_map (λ x. record { var = x; negated = false }) (variable_of_word word)

-- the clause of these words: its literals, and a 0 behind them
abbrev pub clause_of_words : List (List ℕ) → Option Clause
clause_of_words [] = None
clause_of_words (word ∷ []) = if bytes_eq word (codes "0") then Some [] else None
clause_of_words (word ∷ (next ∷ words)) = literal_of_word word >>? λ l. option_map (λ c. l ∷ c) (clause_of_words (next ∷ words))

-- the clause that a line is
unfoldable pub clause_of_line : List ℕ → Option Clause
clause_of_line line = clause_of_words (words_of line)

-- whether each literal has a variable below those of all later ones
abbrev pub is_by_variable : Clause → Bool
is_by_variable [] = true
is_by_variable (l ∷ c) = list_all (λ m. nat_lt l.var m.var) c && is_by_variable c

-- the clauses of these lines: a header, and behind it a line for each clause
abbrev pub clauses_of_lines : List (List ℕ) → Option (List Clause)
clauses_of_lines [] = None
clauses_of_lines (header ∷ lines) =
    all_read (map clause_of_line lines) >>? λ cs.
    (if bytes_eq header (header_bytes (greatest_of_clauses cs) (length cs)) && list_all is_by_variable cs then Some cs else None)

-- the clauses that a text has, over its own variables
unfoldable pub read_dimacs : List ℕ → Option (List Clause)
read_dimacs bytes = ended_lines bytes >>? clauses_of_lines
