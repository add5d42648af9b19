-- How a line is read: the grammar of the commands, and the tests on what it names.
use Rattle.std.specs.Prelude.{◌≡◌, ℕ, ◌+◌, Bool, true, false, not, ◌&&◌, ◌||◌, ◌==◌, nat_le, List, [], ◌∷◌, map, slice_index, Option, Some, None, Result, Ok, Err, ℤ, pos, negsuc, codes, if◌then◌else◌, length}
use Rattle.std.specs.List.{list_all}
use Rattle.std.specs.Option.{is_some}
use Rattle.std.specs.Str.{bytes_eq}
use Rattle.std.specs.Int.RustNames.{unsigned_abs}
use Rattle.craig_script.specs.declared.line.Line.{Line}
use Rattle.craig_script.specs.declared.line.Line.TheVariants as line
use Rattle.craig_script.specs.declared.command.Command.{Command}
use Rattle.craig_script.specs.declared.command.Command.TheVariants.{Nothing, Parts, Add, System, Mark, Cuts, Limit, Format, Solve}
use Rattle.craig_script.specs.declared.cut_word.CutWord.TheVariants as cut
use Rattle.craig_script.specs.declared.setting_words.FormatWord.{FormatWord}
use Rattle.craig_script.specs.declared.setting_words.FormatWord.TheVariants as format
use Rattle.craig_script.specs.declared.setting_words.MarkWord.{MarkWord}
use Rattle.craig_script.specs.declared.setting_words.MarkWord.TheVariants as mark
use Rattle.craig_script.specs.declared.setting_words.SystemWord.{SystemWord}
use Rattle.craig_script.specs.declared.setting_words.SystemWord.TheVariants as system
use Rattle.craig_script.specs.declared.refusal.Refusal.{Refusal}
use Rattle.craig_script.specs.declared.refusal.Refusal.TheVariants.{Syntax, Overlong, Range, Variable, LateParts, LimitRange, CutRange}
use Rattle.craig_script.specs.declared.refusal.LineFault.{LineFault}
use Rattle.craig_script.specs.declared.refusal.LineFault.TheVariants.{Refused, NoMemory}
use Rattle.craig_script.specs.Lines.{line_limit}
use Rattle.craig_script.specs.Words.{words}
use Rattle.craig_script.specs.NumberWords.{number_of, literal_of}

-- goes on with what was read, or stays refused
infixl 10 ◌>>=◌
abbrev pub ◌>>=◌ : {A B : Type 0} → Result A Refusal → (A → Result B Refusal) → Result B Refusal
(Ok x) >>= f = f x
(Err e) >>= f = Err e

-- a word that reads as nothing is refused
abbrev pub or_syntax : {A : Type 0} → Option A → Result A Refusal
or_syntax None = Err Syntax
or_syntax (Some x) = Ok x

-- whether the word is the one digit 0, which ends a line
abbrev pub is_end : List ℕ → Bool
is_end word = bytes_eq word (codes "0")

-- nothing may follow
abbrev pub then_nothing : {A : Type 0} → List (List ℕ) → A → Result A Refusal
then_nothing [] x = Ok x
then_nothing (w ∷ ws) x = Err Syntax

-- literals, and the end
abbrev pub literals_to_end : List (List ℕ) → Result (List ℤ) Refusal
literals_to_end [] = Err Syntax
literals_to_end (w ∷ ws) =
    if is_end w then then_nothing ws []
    else (or_syntax (literal_of w) >>= λ l. (literals_to_end ws >>= λ ls. Ok (l ∷ ls)))

-- a part, literals, and the end
abbrev pub add_of : List (List ℕ) → Result Command Refusal
add_of [] = Err Syntax
add_of (w ∷ ws) = or_syntax (number_of w) >>= λ part. (literals_to_end ws >>= λ lits. Ok (Add part lits))

-- the word that stands alone
abbrev pub only_word : List (List ℕ) → Result (List ℕ) Refusal
only_word [] = Err Syntax
only_word (w ∷ ws) = then_nothing ws w

-- a number alone
abbrev pub parts_of : List (List ℕ) → Result Command Refusal
parts_of ws = only_word ws >>= λ w. (or_syntax (number_of w) >>= λ n. Ok (Parts n))

-- the system that the word names
abbrev pub system_named : List ℕ → Option SystemWord
system_named w =
    if bytes_eq w (codes "mcmillan") then Some system.McMillan
    else if bytes_eq w (codes "pudlak") then Some system.Pudlak
    else if bytes_eq w (codes "inverse") then Some system.Inverse
    else if bytes_eq w (codes "dual") then Some system.Dual
    else if bytes_eq w (codes "marks") then Some system.Marks
    else if bytes_eq w (codes "all") then Some system.All
    else None

-- the name of a system alone
abbrev pub system_of : List (List ℕ) → Result Command Refusal
system_of ws = only_word ws >>= λ w. (or_syntax (system_named w) >>= λ s. Ok (System s))

-- the mark that the word names
abbrev pub mark_named : List ℕ → Option MarkWord
mark_named w =
    if bytes_eq w (codes "a") then Some mark.A
    else if bytes_eq w (codes "ab") then Some mark.Ab
    else if bytes_eq w (codes "b") then Some mark.B
    else None

-- a variable and a mark
abbrev pub mark_of : List (List ℕ) → Result Command Refusal
mark_of [] = Err Syntax
mark_of (w ∷ ws) = or_syntax (number_of w) >>= λ name. (only_word ws >>= λ v. (or_syntax (mark_named v) >>= λ m. Ok (Mark name m)))

-- numbers alone
abbrev pub numbers_to_end : List (List ℕ) → Result (List ℤ) Refusal
numbers_to_end [] = Ok []
numbers_to_end (w ∷ ws) = or_syntax (number_of w) >>= λ n. (numbers_to_end ws >>= λ ns. Ok (pos n ∷ ns))

-- the word for all cuts, or one or more numbers
abbrev pub cuts_of : List (List ℕ) → Result Command Refusal
cuts_of [] = Err Syntax
cuts_of (w ∷ ws) = if bytes_eq w (codes "all") then then_nothing ws (Cuts cut.All) else (numbers_to_end (w ∷ ws) >>= λ ns. Ok (Cuts (cut.Chosen ns)))

-- the word for no limit, or a number alone
abbrev pub limit_of : List (List ℕ) → Result Command Refusal
limit_of ws = only_word ws >>= λ w. if bytes_eq w (codes "none") then Ok (Limit None) else (or_syntax (number_of w) >>= λ n. Ok (Limit (Some n)))

-- the format that the word names
abbrev pub format_named : List ℕ → Option FormatWord
format_named w =
    if bytes_eq w (codes "aag") then Some format.Aag
    else if bytes_eq w (codes "aig") then Some format.Aig
    else if bytes_eq w (codes "cnf") then Some format.Cnf
    else None

-- the name of a format alone
abbrev pub format_of : List (List ℕ) → Result Command Refusal
format_of ws = only_word ws >>= λ w. (or_syntax (format_named w) >>= λ f. Ok (Format f))

-- pairs of a part and a literal, and the end
abbrev pub pairs_to_end : List (List ℕ) → Result (List (ℕ × ℤ)) Refusal
pairs_to_end [] = Err Syntax
pairs_to_end (w ∷ []) = if is_end w then Ok [] else Err Syntax
pairs_to_end (w ∷ v ∷ ws) = or_syntax (number_of w) >>= λ part. (or_syntax (literal_of v) >>= λ lit. (pairs_to_end ws >>= λ pairs. Ok ((part, lit) ∷ pairs)))

-- the assumptions of a solve, and the end
abbrev pub solve_of : List (List ℕ) → Result Command Refusal
solve_of ws = pairs_to_end ws >>= λ pairs. Ok (Solve pairs)

-- whether the word begins a comment
abbrev pub is_comment : List ℕ → Bool
is_comment word = slice_index word 0 == 35

-- the command that the words of a line ask for
abbrev pub command_of : List (List ℕ) → Result Command Refusal
command_of [] = Ok Nothing
command_of (w ∷ ws) =
    if is_comment w then Ok Nothing
    else if bytes_eq w (codes "add") then add_of ws
    else if bytes_eq w (codes "parts") then parts_of ws
    else if bytes_eq w (codes "system") then system_of ws
    else if bytes_eq w (codes "mark") then mark_of ws
    else if bytes_eq w (codes "cuts") then cuts_of ws
    else if bytes_eq w (codes "limit") then limit_of ws
    else if bytes_eq w (codes "format") then format_of ws
    else if bytes_eq w (codes "solve") then solve_of ws
    else Err Syntax

-- the command that the line asks for, by the grammar alone
abbrev pub parsed : Line → Result Command Refusal
parsed line.Overlong = Err Overlong
parsed (line.Text bytes) = if nat_le (length bytes) line_limit then command_of (words bytes) else Err Overlong

-- the most that a variable of the script is
abbrev pub variable_limit : ℕ
variable_limit = 2147483647

-- the most parts that a script has
abbrev pub part_limit : ℕ
part_limit = 4096

-- the variables that the command names
abbrev pub variables_named : Command → List ℕ
variables_named Nothing = []
variables_named (Parts n) = []
variables_named (Add part lits) = map unsigned_abs lits
variables_named (System s) = []
variables_named (Mark name m) = name ∷ []
variables_named (Cuts cuts) = []
variables_named (Limit limit) = []
variables_named (Format f) = []
variables_named (Solve pairs) = map (λ pair. unsigned_abs pair.1) pairs

-- whether the number is from 1 to the limit
abbrev pub is_within : ℕ → ℕ → Bool
is_within limit n = nat_le 1 n && nat_le n limit

-- whether the command gives the number of parts
abbrev pub gives_parts : Command → Bool
gives_parts Nothing = false
gives_parts (Parts n) = true
gives_parts (Add part lits) = false
gives_parts (System s) = false
gives_parts (Mark name m) = false
gives_parts (Cuts cuts) = false
gives_parts (Limit limit) = false
gives_parts (Format f) = false
gives_parts (Solve pairs) = false

-- whether each part that the command names is from 0 to the number of parts, and a number of parts from 1 to the most
abbrev pub are_parts_within : ℕ → Command → Bool
are_parts_within parts Nothing = true
are_parts_within parts (Parts n) = is_within part_limit n
are_parts_within parts (Add part lits) = nat_le part parts
are_parts_within parts (System s) = true
are_parts_within parts (Mark name m) = true
are_parts_within parts (Cuts cuts) = true
are_parts_within parts (Limit limit) = true
are_parts_within parts (Format f) = true
are_parts_within parts (Solve pairs) = list_all (λ pair. nat_le pair.0 parts) pairs

-- a number that isn't negative
abbrev pub natural : ℤ → Option ℕ
natural (pos n) = Some n
natural (negsuc n) = None

-- one more than the number, where it is from the least to the greatest
abbrev pub next_least : ℕ → ℕ → Option ℕ → Option ℕ
next_least least greatest None = None
next_least least greatest (Some n) = if nat_le least n && nat_le n greatest then Some (n + 1) else None

-- whether it is there, and what follows from it passes
abbrev pub goes_on : Option ℕ → (ℕ → Bool) → Bool
goes_on None after = false
goes_on (Some next) after = after next

-- whether the numbers rise, from the least on to the greatest
abbrev pub are_rising_within : ℕ → ℕ → List ℤ → Bool
are_rising_within least greatest [] = true
are_rising_within least greatest (z ∷ zs) = goes_on (next_least least greatest (natural z)) (λ next. are_rising_within next greatest zs)

-- whether the cuts that the command chooses rise and none is above the number of parts
abbrev pub are_cuts_within : ℕ → Command → Bool
are_cuts_within parts Nothing = true
are_cuts_within parts (Parts n) = true
are_cuts_within parts (Add part lits) = true
are_cuts_within parts (System s) = true
are_cuts_within parts (Mark name m) = true
are_cuts_within parts (Cuts cut.All) = true
are_cuts_within parts (Cuts (cut.Chosen ns)) = are_rising_within 0 parts ns
are_cuts_within parts (Limit limit) = true
are_cuts_within parts (Format f) = true
are_cuts_within parts (Solve pairs) = true

-- the most that a conflict limit is
abbrev pub limit_limit : ℕ
limit_limit = 100000

-- whether a conflict limit that the command gives is from 1 to the most
abbrev pub is_limit_within : Command → Bool
is_limit_within Nothing = true
is_limit_within (Parts n) = true
is_limit_within (Add part lits) = true
is_limit_within (System s) = true
is_limit_within (Mark name m) = true
is_limit_within (Cuts cuts) = true
is_limit_within (Limit None) = true
is_limit_within (Limit (Some n)) = is_within limit_limit n
is_limit_within (Format f) = true
is_limit_within (Solve pairs) = true

-- the tests on what a command names: whether it comes too late, its parts, its variables, its limit, its cuts
abbrev pub admitted : ℕ → Bool → Command → Result (Unit {0}) Refusal
admitted parts any_clause command =
    if any_clause && gives_parts command then Err LateParts
    else if not (are_parts_within parts command) then Err Range
    else if not (list_all (is_within variable_limit) (variables_named command)) then Err Variable
    else if not (is_limit_within command) then Err LimitRange
    else if not (are_cuts_within parts command) then Err CutRange
    else Ok tt

-- how a line is read: the command, or the first refusal
abbrev pub read_line : ℕ → Bool → Line → Result Command Refusal
read_line parts any_clause line = parsed line >>= λ command. (admitted parts any_clause command >>= λ _. Ok command)

-- a fault is the refusal that reading gives, unless memory ran out
abbrev pub IsFaultOf : {X : Type 0} → LineFault → Result X Refusal → Type 0
IsFaultOf (NoMemory e) read = Unit {0}
IsFaultOf (Refused r) read = read ≡ Err r

-- what was returned is what reading gives, unless memory ran out
abbrev pub IsParsedAs : {X : Type 0} → Result X LineFault → Result X Refusal → Type 0
IsParsedAs (Ok x) read = read ≡ Ok x
IsParsedAs (Err e) read = IsFaultOf e read

-- want of memory
abbrev pub IsNoMemory : LineFault → Type 0
IsNoMemory (NoMemory e) = Unit {0}
IsNoMemory (Refused r) = ⊥

-- whether a literal is the first of the words
abbrev pub begins_with_literal : List (List ℕ) → Bool
begins_with_literal [] = false
begins_with_literal (w ∷ ws) = is_some (literal_of w)

-- whether a number is the first of the words, and a literal the next
abbrev pub begins_with_part_and_literal : List (List ℕ) → Bool
begins_with_part_and_literal [] = false
begins_with_part_and_literal (w ∷ ws) = is_some (number_of w) && begins_with_literal ws

-- whether a number is the first of the words
abbrev pub begins_with_number : List (List ℕ) → Bool
begins_with_number [] = false
begins_with_number (w ∷ ws) = is_some (number_of w)

-- whether the words begin as a clause with a literal, as chosen cuts or as a solve with a pair do, which take memory to keep
abbrev pub begins_list : List (List ℕ) → Bool
begins_list [] = false
begins_list (w ∷ ws) = (bytes_eq w (codes "add") || bytes_eq w (codes "solve")) && begins_with_part_and_literal ws || bytes_eq w (codes "cuts") && begins_with_number ws

-- whether the line begins so
abbrev pub may_take_memory : Line → Bool
may_take_memory line.Overlong = false
may_take_memory (line.Text bytes) = begins_list (words bytes)
