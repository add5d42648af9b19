-- The reading of an ASCII AIGER text, over the list of its lines: the file that it writes, or its first fault.
-- The same reading, narrowed, gives the circuit that a text without latches and bad literals is.
--
-- After Biere, Heljanko and Wieringa, AIGER 1.9 and beyond, 2011. A text has a header, one line for each input,
-- latch, output, bad literal and gate, and then symbols and comments. What is read has its variables numbered anew.
use Rattle.std.specs.Prelude.{◌≡◌, ℕ, zero, suc, ◌+◌, ◌-◌, ◌*◌, ◌/◌, ◌%◌, ◌<◌, All, Bool, true, false, not, ◌&&◌, ◌==◌, nat_eq, nat_le, nat_lt, max, List, [], ◌∷◌, ◌++◌, length, take, drop, map, find, filter, take_while, slice_get, slice_index, slice_index_or, Option, Some, None, Result, Ok, Err, codes, is_none, if◌then◌else◌}
use Rattle.std.specs.Option.{option_map}
use Rattle.std.specs.List.{before_first, after_first, enumerate_from, flat_map, list_all, list_any, position_or_len, range_with_len, slice_split}
use Rattle.std.specs.Char.{is_ascii_digit}
use Rattle.std.specs.Str.{bytes_eq}
use Rattle.std.specs.Str.Parse.{digits_value}
use Rattle.craig_spec.specs.AigerFault.{Fault, FaultKind}
use Rattle.craig_spec.specs.Circuit.{Circuit, Gate, Output}

-- goes on with what was read, or stays at the fault
infixl 10 ◌>>=◌
abbrev pub ◌>>=◌ : {A B : Type 0} → Result A Fault → (A → Result B Fault) → Result B Fault
(Ok x) >>= f = f x
(Err e) >>= f = Err e

-- the fault of this kind at the place
abbrev pub fault : {A : Type 0} → FaultKind → ℕ → Result A Fault
fault kind offset = Err (record { kind = kind; offset = offset })

-- what is read, if the test holds, and else the fault
abbrev pub checked : {A : Type 0} → Bool → FaultKind → ℕ → Result A Fault → Result A Fault
checked test kind offset read = if test then read else fault kind offset

-- all that was read, if each was
abbrev pub all_read : {A : Type 0} → List (Option A) → Option (List A)
all_read [] = Some []
all_read (None ∷ xs) = None
all_read ((Some a) ∷ xs) = option_map (λ read. a ∷ read) (all_read xs)

-- a line, and the number of bytes before it
pub record TextLine : Type 0 where
  -- the number of bytes before the line
  pub offset : ℕ
  -- the bytes of the line, without its newline
  pub bytes : List ℕ

-- the pieces without a last one that is empty
abbrev pub without_empty_end : List (List ℕ) → List (List ℕ)
without_empty_end [] = []
without_empty_end ([] ∷ []) = []
without_empty_end ([] ∷ (q ∷ ps)) = [] ∷ without_empty_end (q ∷ ps)
without_empty_end ((b ∷ bs) ∷ ps) = (b ∷ bs) ∷ without_empty_end ps

-- the lines with their places, where the first has this one: one byte stands between two lines
abbrev pub placed : ℕ → List (List ℕ) → List TextLine
placed offset [] = []
placed offset (line ∷ lines) = record { offset = offset; bytes = line } ∷ placed (offset + length line + 1) lines

-- the lines of a text: none begins at its end
abbrev pub lines_of : List ℕ → List TextLine
lines_of bytes = placed 0 (without_empty_end (slice_split (λ b. b == 10) bytes))

-- the number that the word writes: 1 to 18 digits
abbrev pub number_in : List ℕ → Option ℕ
number_in word = if nat_le 1 (length word) && nat_le (length word) 18 && list_all is_ascii_digit word then Some (digits_value 10 word) else None

-- what stands between the spaces
abbrev pub words_of : List ℕ → List (List ℕ)
words_of bytes = slice_split (λ b. b == 32) bytes

-- the numbers of a line, nine at most, with one space between them
abbrev pub numbers_in : List ℕ → Option (List ℕ)
numbers_in bytes = if nat_le (length (words_of bytes)) 9 then all_read (map number_in (words_of bytes)) else None

-- the numbers of the header: the greatest variable, and how many there are of each kind
pub record Counts : Type 0 where
  -- the greatest variable
  pub greatest : ℕ
  -- how many inputs there are
  pub inputs : ℕ
  -- how many latches there are
  pub latches : ℕ
  -- how many outputs there are
  pub outputs : ℕ
  -- how many gates there are
  pub gates : ℕ
  -- how many bad literals there are
  pub bads : ℕ

-- the counts, in the order in which a header has them; those that are missing are 0
abbrev pub counts_of : List ℕ → Counts
counts_of ns = record { greatest = slice_index ns 0; inputs = slice_index ns 1; latches = slice_index ns 2; outputs = slice_index ns 3; gates = slice_index ns 4; bads = slice_index ns 5 }

-- the counts, if the variables are enough for them, and if the numbers behind them, those of constraints and of justice and fairness properties, are 0
abbrev pub counts_checked : ℕ → List ℕ → Result Counts Fault
counts_checked offset ns =
    let c = counts_of ns in
    checked (nat_le (c.inputs + c.latches + c.gates) c.greatest) FaultKind.Count offset
    (checked (list_all (λ n. n == 0) (drop 6 ns)) FaultKind.Unsupported offset (Ok c))

-- the header of these numbers: five to nine of them
abbrev pub header_of : ℕ → Option (List ℕ) → Result Counts Fault
header_of offset None = fault FaultKind.Header offset
header_of offset (Some ns) = checked (nat_le 5 (length ns)) FaultKind.Header offset (counts_checked offset ns)

-- the header that a line is: the letters aag, a space, and its numbers
unfoldable pub header_in : TextLine → Result Counts Fault
header_in line = if bytes_eq (take 4 line.bytes) (codes "aag ") then header_of line.offset (numbers_in (drop 4 line.bytes)) else fault FaultKind.Header line.offset

-- whether the literal is of a variable up to the greatest
abbrev pub is_literal : Counts → ℕ → Bool
is_literal c l = nat_le l (2 * c.greatest + 1)

-- whether the literal is a variable, and not the constant, so that it may be defined
abbrev pub is_variable : Counts → ℕ → Bool
is_variable c l = is_literal c l && nat_le 2 l && l % 2 == 0

-- whether the variable of the literal is none of these
abbrev pub is_new : List ℕ → ℕ → Bool
is_new variables l = not (list_any (nat_eq (l / 2)) variables)

-- how a latch starts: as false, as true, or as either
pub data Reset : Type 0 where
  -- as false
  Zero : Reset
  -- as true
  One : Reset
  -- as either
  Open : Reset

-- the line of a latch
pub record LatchLine : Type 0 where
  -- the number of bytes before the line
  pub offset : ℕ
  -- the variable that is defined
  pub variable : ℕ
  -- the literal that the latch goes on with
  pub next : ℕ
  -- how the latch starts
  pub reset : Reset

-- the line of an output or of a bad literal
pub record RootLine : Type 0 where
  -- the number of bytes before the line
  pub offset : ℕ
  -- the literal
  pub literal : ℕ

-- the line of a gate
pub record GateLine : Type 0 where
  -- the number of bytes before the line
  pub offset : ℕ
  -- the variable that is defined
  pub variable : ℕ
  -- the first operand literal
  pub left : ℕ
  -- the second operand literal
  pub right : ℕ

-- the variable of an input with this literal, given the variables before it
abbrev pub input_of : Counts → List ℕ → ℕ → Option (List ℕ) → Result ℕ Fault
input_of c known offset (Some (l ∷ [])) = checked (is_variable c l) FaultKind.Literal offset (checked (is_new known l) FaultKind.Twice offset (Ok (l / 2)))
input_of c known offset other = fault FaultKind.Line offset

-- how the latch of a literal starts, by the last number of its line
abbrev pub reset_of : ℕ → ℕ → ℕ → Result Reset Fault
reset_of offset own n = if n == 0 then Ok Zero else if n == 1 then Ok One else if n == own then Ok Open else fault FaultKind.Reset offset

-- the latch of a literal
abbrev pub latch_with : Counts → List ℕ → ℕ → ℕ → ℕ → ℕ → Result LatchLine Fault
latch_with c known offset own next n =
    checked (is_variable c own && is_literal c next) FaultKind.Literal offset
    (checked (is_new known own) FaultKind.Twice offset
    (reset_of offset own n >>= λ reset. Ok (record { offset = offset; variable = own / 2; next = next; reset = reset })))

-- the latch of these numbers, given the variables before it; a reset that is missing is 0
abbrev pub latch_of : Counts → List ℕ → ℕ → Option (List ℕ) → Result LatchLine Fault
latch_of c known offset (Some (own ∷ (next ∷ []))) = latch_with c known offset own next 0
latch_of c known offset (Some (own ∷ (next ∷ (n ∷ [])))) = latch_with c known offset own next n
latch_of c known offset other = fault FaultKind.Line offset

-- the output or bad literal of this number
abbrev pub root_of : Counts → ℕ → Option (List ℕ) → Result RootLine Fault
root_of c offset (Some (l ∷ [])) = checked (is_literal c l) FaultKind.Literal offset (Ok (record { offset = offset; literal = l }))
root_of c offset other = fault FaultKind.Line offset

-- the gate of these numbers, given the variables before it
abbrev pub gate_of : Counts → List ℕ → ℕ → Option (List ℕ) → Result GateLine Fault
gate_of c known offset (Some (own ∷ (left ∷ (right ∷ [])))) =
    checked (is_variable c own && is_literal c left && is_literal c right) FaultKind.Literal offset
    (checked (is_new known own) FaultKind.Twice offset (Ok (record { offset = offset; variable = own / 2; left = left; right = right })))
gate_of c known offset other = fault FaultKind.Line offset

-- the variable of the input that a line is, given those of the lines before it; the constant has the variable 0
unfoldable pub input_in : Counts → List ℕ → TextLine → Result ℕ Fault
input_in c before line = input_of c (0 ∷ before) line.offset (numbers_in line.bytes)

-- the latch that a line is, given the variables before its section and the latches before it
unfoldable pub latch_in : Counts → List ℕ → List LatchLine → TextLine → Result LatchLine Fault
latch_in c known before line = latch_of c (known ++ map (λ (l : LatchLine). l.variable) before) line.offset (numbers_in line.bytes)

-- the output or bad literal that a line is
unfoldable pub root_in : Counts → List RootLine → TextLine → Result RootLine Fault
root_in c before line = root_of c line.offset (numbers_in line.bytes)

-- the gate that a line is, given the variables before its section and the gates before it
unfoldable pub gate_in : Counts → List ℕ → List GateLine → TextLine → Result GateLine Fault
gate_in c known before line = gate_of c (known ++ map (λ (g : GateLine). g.variable) before) line.offset (numbers_in line.bytes)

-- a symbol: the letter of a kind of thing, the position of the thing among its kind, and its name
pub record Symbol : Type 0 where
  -- the letter of the kind of what is named: i, l, o or b
  pub letter : ℕ
  -- where what is named stands among those of its kind
  pub position : ℕ
  -- the bytes of the name
  pub name : List ℕ

-- whether the byte is a space
abbrev pub is_space : ℕ → Bool
is_space b = b == 32

-- the symbol that the bytes are: a letter, directly a position, a space, and the name to the end
abbrev pub symbol_of : List ℕ → Option Symbol
symbol_of [] = None
symbol_of (letter ∷ bytes) =
    if list_any is_space bytes
    then option_map (λ position. record { letter = letter; position = position; name = after_first is_space bytes }) (number_in (before_first is_space bytes))
    else None

-- how many things there are of the kind with this letter: i, l, o or b
abbrev pub count_named : Counts → ℕ → ℕ
count_named c letter =
    if letter == 105 then c.inputs
    else if letter == 108 then c.latches
    else if letter == 111 then c.outputs
    else if letter == 98 then c.bads
    else 0

-- whether the symbol names the thing of the kind at the position
abbrev pub is_symbol_of : ℕ → ℕ → Symbol → Bool
is_symbol_of letter position s = s.letter == letter && s.position == position

-- the symbol, if there is what it names and that has no name yet
abbrev pub symbol_checked : Counts → List Symbol → ℕ → Option Symbol → Result Symbol Fault
symbol_checked c before offset None = fault FaultKind.Symbol offset
symbol_checked c before offset (Some s) =
    checked (nat_lt s.position (count_named c s.letter) && not (list_any (is_symbol_of s.letter s.position) before)) FaultKind.Symbol offset (Ok s)

-- the symbol that a line is, given those before it
unfoldable pub symbol_in : Counts → List Symbol → TextLine → Result Symbol Fault
symbol_in c before line = symbol_checked c before line.offset (symbol_of line.bytes)

-- whether the line goes on with the symbols, and doesn't open the comments
abbrev pub is_before_comments : TextLine → Bool
is_before_comments line = not (slice_index line.bytes 0 == 99)

-- reads so many lines, each given what those before it are, and gives the lines after them; the first that can't be read is the fault, or the end of the text
abbrev pub read_lines : {A : Type 0} → (List A → TextLine → Result A Fault) → ℕ → ℕ → List A → List TextLine → Result (List A × List TextLine) Fault
read_lines each end zero before lines = Ok (before, lines)
read_lines each end (suc count) before [] = fault FaultKind.Truncated end
read_lines each end (suc count) before (line ∷ lines) = each before line >>= λ a. read_lines each end count (before ++ a ∷ []) lines

-- what a text says before its variables are numbered anew
pub record Written : Type 0 where
  -- the variables of the inputs
  pub inputs : List ℕ
  -- the lines of the latches
  pub latches : List LatchLine
  -- the lines of the outputs
  pub outputs : List RootLine
  -- the lines of the bad literals
  pub bads : List RootLine
  -- the lines of the gates
  pub gates : List GateLine
  -- the symbols
  pub symbols : List Symbol

-- the variables of the constant, the inputs and the latches, in order
abbrev pub leaves_of : List ℕ → List LatchLine → List ℕ
leaves_of inputs latches = (0 ∷ inputs) ++ map (λ (l : LatchLine). l.variable) latches

-- what the lines after the header say
unfoldable pub written_in : Counts → ℕ → List TextLine → Result Written Fault
written_in c end lines =
    read_lines (input_in c) end c.inputs [] lines >>= λ inputs.
    (read_lines (latch_in c (0 ∷ inputs.0)) end c.latches [] inputs.1 >>= λ latches.
    (read_lines (root_in c) end c.outputs [] latches.1 >>= λ outputs.
    (read_lines (root_in c) end c.bads [] outputs.1 >>= λ bads.
    (read_lines (gate_in c (leaves_of inputs.0 latches.0)) end c.gates [] bads.1 >>= λ gates.
    (read_lines (symbol_in c) end (length (take_while is_before_comments gates.1)) [] gates.1 >>= λ symbols.
    Ok (record { inputs = inputs.0; latches = latches.0; outputs = outputs.0; bads = bads.0; gates = gates.0; symbols = symbols.0 }))))))

-- the variables that are defined, in the order of their lines, behind the constant's
abbrev pub variables_of : Written → List ℕ
variables_of w = leaves_of w.inputs w.latches ++ map (λ (g : GateLine). g.variable) w.gates

-- the literals that a line uses, and the number of bytes before it
pub record Use : Type 0 where
  -- the number of bytes before the line
  pub offset : ℕ
  -- the literals
  pub literals : List ℕ

-- what the line of a latch uses
abbrev pub latch_use : LatchLine → Use
latch_use l = record { offset = l.offset; literals = l.next ∷ [] }

-- what the line of an output or a bad literal uses
abbrev pub root_use : RootLine → Use
root_use r = record { offset = r.offset; literals = r.literal ∷ [] }

-- what the line of a gate uses
abbrev pub gate_use : GateLine → Use
gate_use g = record { offset = g.offset; literals = g.left ∷ (g.right ∷ []) }

-- the lines that use literals, in order
abbrev pub uses_of : Written → List Use
uses_of w = map latch_use w.latches ++ (map root_use w.outputs ++ (map root_use w.bads ++ map gate_use w.gates))

-- whether a literal of the line has a variable that is none of these
abbrev pub uses_other : List ℕ → Use → Bool
uses_other variables line = list_any (is_new variables) line.literals

-- the place of a number in a list, or the length where it is not there
abbrev pub place_in : List ℕ → ℕ → ℕ
place_in xs n = position_or_len (nat_eq n) xs

-- the literal with its variable numbered by its place in the list
abbrev pub numbered : List ℕ → ℕ → ℕ
numbered variables l = 2 * place_in variables (l / 2) + l % 2

-- the gates with their operands so numbered, in the order of their lines
abbrev pub numbered_gates : List ℕ → List GateLine → List Gate
numbered_gates variables gates = map (λ (g : GateLine). record { left = numbered variables g.left; right = numbered variables g.right }) gates

-- the greater of two depths, where there are both
abbrev pub deeper : Option ℕ → Option ℕ → Option ℕ
deeper (Some m) (Some n) = Some (max m n)
deeper left right = None

-- the depth of a variable that is defined so: one more than the deeper operand, and 0 where it is no gate
abbrev pub depth_by : (ℕ → Option ℕ) → Option Gate → Option ℕ
depth_by operand None = Some 0
depth_by operand (Some g) = option_map suc (deeper (operand g.left) (operand g.right))

-- the gate of a variable, where the gates have the variables from the first one on
abbrev pub gate_at : ℕ → List Gate → ℕ → Option Gate
gate_at first gates variable = if nat_lt variable first then None else slice_get gates (variable - first)

-- how many gates lie on the longest way from a variable down to one that is no gate, where there are so many at most
abbrev pub depth : ℕ → List Gate → ℕ → ℕ → Option ℕ
depth first gates zero variable = depth_by (λ l. None) (gate_at first gates variable)
depth first gates (suc most) variable = depth_by (λ l. depth first gates most (l / 2)) (gate_at first gates variable)

-- the depth of a gate: a way with more gates than there are goes in a circle
unfoldable pub gate_depth : ℕ → List Gate → ℕ → Option ℕ
gate_depth first gates j = depth first gates (length gates) (first + j)

-- whether there is a depth, and it is this one
abbrev pub is_depth : ℕ → Option ℕ → Bool
is_depth n None = false
is_depth n (Some m) = m == n

-- the places of the gates by rising depth, and those of one depth in order
abbrev pub by_depth : ℕ → List Gate → List ℕ
by_depth first gates = flat_map (λ n. filter (λ j. is_depth n (gate_depth first gates j)) (range_with_len 0 (length gates))) (range_with_len 1 (length gates))

-- the literal of a gate at the gate's place in the order, and any other as it is
abbrev pub moved : ℕ → List ℕ → ℕ → ℕ
moved first order l = if nat_lt (l / 2) first then l else 2 * (first + place_in order (l / 2 - first)) + l % 2

-- the gate with its operands so moved
abbrev pub moved_gate : ℕ → List ℕ → Gate → Gate
moved_gate first order g = record { left = moved first order g.left; right = moved first order g.right }

-- the gates in the order, with their operands so moved
abbrev pub moved_gates : ℕ → List Gate → List ℕ → List Gate
moved_gates first gates order = map (λ j. moved_gate first order (slice_index_or gates j (record { left = 0; right = 0 }))) order

-- a latch
pub record FileLatch : Type 0 where
  -- the literal that the latch goes on with
  pub next : ℕ
  -- how the latch starts
  pub reset : Reset
  -- its name, where it has one
  pub name : Option (List ℕ)

-- an output or a bad literal
pub record FileRoot : Type 0 where
  -- the literal
  pub literal : ℕ
  -- its name, where it has one
  pub name : Option (List ℕ)

-- a file: the literals are those of the constant, the inputs, the latches and the gates in this order
pub record AigerFile : Type 0 where
  -- for each input its name, where it has one
  pub inputs : List (Option (List ℕ))
  -- the latches
  pub latches : List FileLatch
  -- the outputs
  pub outputs : List FileRoot
  -- the bad literals
  pub bads : List FileRoot
  -- the gates
  pub gates : List Gate

-- the number of variables of a file, the constant counted in
abbrev pub file_variables : AigerFile → ℕ
file_variables f = 1 + length f.inputs + length f.latches + length f.gates

-- no gate stands before one that it uses, and whatever is used is there
pub record IsDefinedFile (f : AigerFile) : Type 0 where
  -- each gate has operands below its own variable
  pub operands : (j : ℕ) (g : Gate) → slice_get f.gates j ≡ Some g → (g.left / 2 < 1 + length f.inputs + length f.latches + j) × (g.right / 2 < 1 + length f.inputs + length f.latches + j)
  -- each latch goes on with a literal of the file
  pub nexts : All (λ l. l.next / 2 < file_variables f) f.latches
  -- each output is a literal of the file
  pub outputs : All (λ r. r.literal / 2 < file_variables f) f.outputs
  -- and so is each bad literal
  pub bads : All (λ r. r.literal / 2 < file_variables f) f.bads

-- the name of the thing of the kind at the position
abbrev pub name_of : List Symbol → ℕ → ℕ → Option (List ℕ)
name_of symbols letter position = option_map (λ (s : Symbol). s.name) (find (is_symbol_of letter position) symbols)

-- the names of so many things of the kind
abbrev pub names_of : List Symbol → ℕ → ℕ → List (Option (List ℕ))
names_of symbols letter count = map (name_of symbols letter) (range_with_len 0 count)

-- the latches with their names and with renumbered literals
abbrev pub named_latches : (ℕ → ℕ) → List Symbol → ℕ → List LatchLine → List FileLatch
named_latches renumbered symbols i [] = []
named_latches renumbered symbols i (l ∷ ls) = record { next = renumbered l.next; reset = l.reset; name = name_of symbols 108 i } ∷ named_latches renumbered symbols (i + 1) ls

-- the outputs or the bad literals with their names and with renumbered literals
abbrev pub named_roots : (ℕ → ℕ) → List Symbol → ℕ → ℕ → List RootLine → List FileRoot
named_roots renumbered symbols letter i [] = []
named_roots renumbered symbols letter i (r ∷ rs) = record { literal = renumbered r.literal; name = name_of symbols letter i } ∷ named_roots renumbered symbols letter (i + 1) rs

-- the file, where the gates have the variables from the first one on, by the order of its gates
abbrev pub file_by : Written → ℕ → List Gate → List ℕ → AigerFile
file_by w first gates order =
    let renumbered : ℕ → ℕ = λ l. moved first order (numbered (variables_of w) l) in
    record {
      inputs = names_of w.symbols 105 (length w.inputs);
      latches = named_latches renumbered w.symbols 0 w.latches;
      outputs = named_roots renumbered w.symbols 111 0 w.outputs;
      bads = named_roots renumbered w.symbols 98 0 w.bads;
      gates = moved_gates first gates order;
    }

-- what is read, if nothing is found, and else the fault at the place of what is
abbrev pub unless_found : {A : Type 0} → FaultKind → Option ℕ → Result A Fault → Result A Fault
unless_found kind None read = read
unless_found kind (Some offset) read = fault kind offset

-- the first line that uses what is defined nowhere
abbrev pub first_undefined : Written → Option ℕ
first_undefined w = option_map (λ (u : Use). u.offset) (find (uses_other (variables_of w)) (uses_of w))

-- the first line of a gate without a depth
abbrev pub first_cyclic : ℕ → List Gate → List GateLine → Option ℕ
first_cyclic first gates lines = option_map (λ (p : ℕ × GateLine). p.1.offset) (find (λ (p : ℕ × GateLine). is_none (gate_depth first gates p.0)) (enumerate_from 0 lines))

-- the number of the first variable of a gate
abbrev pub first_gate : Written → ℕ
first_gate w = length (leaves_of w.inputs w.latches)

-- the file that is written so
unfoldable pub file_written : Written → Result AigerFile Fault
file_written w =
    let gates = numbered_gates (variables_of w) w.gates in
    unless_found FaultKind.Undefined (first_undefined w)
    (unless_found FaultKind.Cycle (first_cyclic (first_gate w) gates w.gates)
    (Ok (file_by w (first_gate w) gates (by_depth (first_gate w) gates))))

-- the file that these lines of a text with so many bytes write
abbrev pub read_from : ℕ → List TextLine → Result AigerFile Fault
read_from end [] = fault FaultKind.Header 0
read_from end (line ∷ lines) = header_in line >>= λ c. (written_in c end lines >>= file_written)

-- the file that a text writes, or its first fault
unfoldable pub aag_reading : List ℕ → Result AigerFile Fault
aag_reading bytes = read_from (length bytes) (lines_of bytes)

-- goes on with what there is
infixl 10 ◌>>?◌
abbrev pub ◌>>?◌ : {A B : Type 0} → Option A → (A → Option B) → Option B
None >>? f = None
(Some x) >>? f = f x

-- whether no number stands twice
abbrev pub all_differ : List ℕ → Bool
all_differ [] = true
all_differ (x ∷ xs) = not (list_any (nat_eq x) xs) && all_differ xs

-- the variable that the name of an input says: a number from 1 to 2147483647 without leading zeros
abbrev pub variable_in : List ℕ → Option ℕ
variable_in name = number_in name >>? λ n. (if nat_le 1 n && nat_le n 2147483647 && not (slice_index name 0 == 48) then Some n else None)

-- the variables that the names of the inputs say, all different
abbrev pub input_variables : List (Option (List ℕ)) → Option (List ℕ)
input_variables names = all_read (map (λ name. name >>? variable_in) names) >>? λ xs. (if all_differ xs then Some xs else None)

-- an output with its name
abbrev pub named_output : FileRoot → Option Output
named_output r = option_map (λ name. record { name = name; literal = r.literal }) r.name

-- the circuit of a file without latches and bad literals, whose inputs are named by variables and whose outputs have names
abbrev pub file_circuit : AigerFile → Option Circuit
file_circuit f =
    if length f.latches == 0 && length f.bads == 0
    then (input_variables f.inputs >>? λ inputs. (all_read (map named_output f.outputs) >>? λ outputs. Some (record { inputs = inputs; gates = f.gates; outputs = outputs })))
    else None

-- what was read, where there is no fault
abbrev pub without_fault : {A : Type 0} → Result A Fault → Option A
without_fault (Ok x) = Some x
without_fault (Err e) = None

-- the circuit that a text is
unfoldable pub read_aag : List ℕ → Option Circuit
read_aag bytes = without_fault (aag_reading bytes) >>? file_circuit
