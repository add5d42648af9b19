-- The reading of a binary AIGER text, over its bytes: the file that it writes, or its first fault. With it the reading of
-- any bytes, as text or as binary by their first word.
--
-- After Biere, Heljanko and Wieringa, AIGER 1.9 and beyond, 2011. A text has a header, one line for each latch, output
-- and bad literal, then for each gate two numbers in groups of seven bits, and then symbols and comments. The variables
-- are those of the constant, the inputs, the latches and the gates in this order, so that none is written.
use Rattle.std.specs.Prelude.{ℕ, zero, suc, ◌+◌, ◌-◌, ◌*◌, Bool, ◌&&◌, ◌==◌, nat_le, List, [], ◌∷◌, ◌++◌, length, take, drop, take_while, Option, Some, None, Result, Ok, codes, if◌then◌else◌}
use Rattle.std.specs.List.{slice_split}
use Rattle.std.specs.Str.{bytes_eq}
use Rattle.craig_spec.specs.AigerFault.{Fault, FaultKind}
use Rattle.craig_spec.specs.AigerReading.{AigerFile, Counts, LatchLine, RootLine, Symbol, TextLine, ◌>>=◌, ◌>>?◌, aag_reading, checked, counts_of, fault, file_circuit, header_of, is_before_comments, is_literal, lines_of, named_latches, named_roots, names_of, numbers_in, placed, read_lines, reset_of, root_in, symbol_in, without_empty_end, without_fault}
use Rattle.craig_spec.specs.Circuit.{Circuit, Gate}
use Rattle.craig_spec.specs.SevenBits.{FirstNumber, first_number}

-- whether the variables are exactly those of the inputs, the latches and the gates
abbrev pub is_exact : Counts → Bool
is_exact c = c.greatest == c.inputs + c.latches + c.gates

-- the header of these numbers: that of a text, where no variable is left over
abbrev pub binary_header_of : ℕ → Option (List ℕ) → Result Counts Fault
binary_header_of offset None = fault FaultKind.Header offset
binary_header_of offset (Some ns) = checked (nat_le 5 (length ns)) FaultKind.Header offset (checked (is_exact (counts_of ns)) FaultKind.Count offset (header_of offset (Some ns)))

-- whether the bytes begin with the letters aig and a space
abbrev pub begins_binary : List ℕ → Bool
begins_binary bytes = bytes_eq (take 4 bytes) (codes "aig ")

-- the header that a line is: the letters aig, a space, and its numbers
unfoldable pub binary_header_in : TextLine → Result Counts Fault
binary_header_in line = if begins_binary line.bytes then binary_header_of line.offset (numbers_in (drop 4 line.bytes)) else fault FaultKind.Header line.offset

-- the latch with a variable, by its next literal and the number of its reset
abbrev pub binary_latch_with : Counts → ℕ → ℕ → ℕ → ℕ → Result LatchLine Fault
binary_latch_with c variable offset next n =
    checked (is_literal c next) FaultKind.Literal offset
    (reset_of offset (2 * variable) n >>= λ reset. Ok (record { offset = offset; variable = variable; next = next; reset = reset }))

-- the latch with a variable, by the numbers of its line; a reset that is missing is 0
abbrev pub binary_latch_of : Counts → ℕ → ℕ → Option (List ℕ) → Result LatchLine Fault
binary_latch_of c variable offset (Some (next ∷ [])) = binary_latch_with c variable offset next 0
binary_latch_of c variable offset (Some (next ∷ (n ∷ []))) = binary_latch_with c variable offset next n
binary_latch_of c variable offset other = fault FaultKind.Line offset

-- the latch that a line is, given those of the lines before it
unfoldable pub binary_latch_in : Counts → List LatchLine → TextLine → Result LatchLine Fault
binary_latch_in c before line = binary_latch_of c (1 + c.inputs + length before) line.offset (numbers_in line.bytes)

-- a difference of two literals and the bytes behind it, where it lies between two numbers
abbrev pub delta_of : ℕ → ℕ → ℕ → ℕ → FirstNumber → Result (ℕ × List ℕ) Fault
delta_of end offset least most (FirstNumber.Number n rest) = checked (nat_le least n && nat_le n most) FaultKind.Delta offset (Ok (n, rest))
delta_of end offset least most FirstNumber.Ends = fault FaultKind.Truncated end
delta_of end offset least most FirstNumber.TooLong = fault FaultKind.Delta offset

-- the difference at the front of the last bytes of a text with so many bytes
abbrev pub delta_in : ℕ → ℕ → ℕ → List ℕ → Result (ℕ × List ℕ) Fault
delta_in end least most bytes = delta_of end (end - length bytes) least most (first_number bytes)

-- the gate of a literal at the front of the last bytes of a text, and the bytes behind it: its own literal less the first operand, and that less the second
unfoldable pub binary_gate_in : ℕ → ℕ → List ℕ → Result (Gate × List ℕ) Fault
binary_gate_in end own bytes =
    delta_in end 1 own bytes >>= λ first.
    (delta_in end 0 (own - first.0) first.1 >>= λ second.
    Ok (record { left = own - first.0; right = own - first.0 - second.0 }, second.1))

-- reads so many gates behind those before, of which the first has this literal, and gives the bytes behind them
abbrev pub binary_gates : ℕ → ℕ → ℕ → List Gate → List ℕ → Result (List Gate × List ℕ) Fault
binary_gates end zero own before bytes = Ok (before, bytes)
binary_gates end (suc count) own before bytes = binary_gate_in end own bytes >>= λ g. binary_gates end count (own + 2) (before ++ g.0 ∷ []) g.1

-- where the lines that are left begin in a text with so many bytes
abbrev pub lines_place : ℕ → List TextLine → ℕ
lines_place end [] = end
lines_place end (line ∷ lines) = line.offset

-- the lines of the last bytes of a text, where so many bytes stand before them
abbrev pub lines_from : ℕ → List ℕ → List TextLine
lines_from offset bytes = placed offset (without_empty_end (slice_split (λ b. b == 10) bytes))

-- the symbols that the lines up to the comments are
abbrev pub symbols_in : Counts → ℕ → List TextLine → Result (List Symbol) Fault
symbols_in c end lines = read_lines (symbol_in c) end (length (take_while is_before_comments lines)) [] lines >>= λ symbols. Ok symbols.0

-- the file of these lines, gates and symbols
abbrev pub binary_file : Counts → List LatchLine → List RootLine → List RootLine → List Gate → List Symbol → AigerFile
binary_file c latches outputs bads gates symbols = record {
  inputs = names_of symbols 105 c.inputs;
  latches = named_latches (λ l. l) symbols 0 latches;
  outputs = named_roots (λ l. l) symbols 111 0 outputs;
  bads = named_roots (λ l. l) symbols 98 0 bads;
  gates = gates;
}

-- the file whose gates and symbols the last bytes of a text with so many bytes are
unfoldable pub binary_end : Counts → ℕ → List LatchLine → List RootLine → List RootLine → List ℕ → Result AigerFile Fault
binary_end c end latches outputs bads bytes =
    binary_gates end c.gates (2 * (1 + c.inputs + c.latches)) [] bytes >>= λ gates.
    (symbols_in c end (lines_from (end - length gates.1) gates.1) >>= λ symbols.
    Ok (binary_file c latches outputs bads gates.0 symbols))

-- the file of a text whose header has these counts, and whose lines behind the header are these
unfoldable pub binary_in : Counts → List ℕ → List TextLine → Result AigerFile Fault
binary_in c bytes lines =
    let end = length bytes in
    read_lines (binary_latch_in c) end c.latches [] lines >>= λ latches.
    (read_lines (root_in c) end c.outputs [] latches.1 >>= λ outputs.
    (read_lines (root_in c) end c.bads [] outputs.1 >>= λ bads.
    binary_end c end latches.0 outputs.0 bads.0 (drop (lines_place end bads.1) bytes)))

-- the file that a text with these lines writes
abbrev pub binary_from : List ℕ → List TextLine → Result AigerFile Fault
binary_from bytes [] = fault FaultKind.Header 0
binary_from bytes (line ∷ lines) = binary_header_in line >>= λ c. binary_in c bytes lines

-- the file that a binary text writes, or its first fault
unfoldable pub aig_reading : List ℕ → Result AigerFile Fault
aig_reading bytes = binary_from bytes (lines_of bytes)

-- the file that bytes write, or their first fault: they are binary where they begin so
unfoldable pub aiger_reading : List ℕ → Result AigerFile Fault
aiger_reading bytes = if begins_binary bytes then aig_reading bytes else aag_reading bytes

-- the circuit that a binary text is
unfoldable pub read_aig : List ℕ → Option Circuit
read_aig bytes = without_fault (aig_reading bytes) >>? file_circuit
