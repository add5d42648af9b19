-- The names that the symbols of a text give.
use Rattle.std.specs.Prelude.{◌≡◌, ℕ, Bool, false, List, [], ◌∷◌, ◌++◌, length, slice_get, take_while, Option, Result, Ok, is_none}
use Rattle.std.specs.Option.{option_map, unwrap_or}
use Rattle.craig_spec.specs.AigerFault.{Fault}
use Rattle.craig_spec.specs.AigerReading.{Counts, Symbol, TextLine, is_before_comments, names_of, read_lines, symbol_in}
use Rattle.craig_aiger_read.specs.declared.aiger_error.AigerError.{AigerError}
use Rattle.craig_aiger_read.specs.ReadFaults.{IsFaultOf}
use Rattle.craig_aiger_read.specs.declared.symbols.NameTable.{NameTable}

-- the names are those that the symbols give
pub record HasNames (c : Counts) (symbols : List Symbol) (names : NameTable) : Type 0 where
  -- the names of the inputs
  pub inputs : names.inputs.items ≡ names_of symbols 105 c.inputs
  -- the names of the latches
  pub latches : names.latches.items ≡ names_of symbols 108 c.latches
  -- the names of the outputs
  pub outputs : names.outputs.items ≡ names_of symbols 111 c.outputs
  -- the names of the bad literals
  pub bads : names.bads.items ≡ names_of symbols 98 c.bads

-- whether there is a thing at the position, and it has no name
abbrev pub is_free : List (Option (List ℕ)) → ℕ → Bool
is_free names position = unwrap_or (option_map is_none (slice_get names position)) false

-- how many of the lines are symbols
abbrev pub symbol_count : List TextLine → ℕ
symbol_count lines = length (take_while is_before_comments lines)

-- the symbols that the lines are
abbrev pub symbols_read : Counts → ℕ → List TextLine → Result (List Symbol × List TextLine) Fault
symbols_read c end lines = read_lines (symbol_in c) end (symbol_count lines) [] lines

-- symbols are read that give these names
abbrev pub AreNamesRead : Counts → Result (List Symbol × List TextLine) Fault → NameTable → Type 0
AreNamesRead c read names = (symbols : List Symbol) × (rest : List TextLine) × (read ≡ Ok (symbols, rest)) × HasNames c symbols names

-- the symbol that a line is gives one name more, whatever symbols gave those before
abbrev pub AddsName : ℕ → List ℕ → NameTable → NameTable → Type 0
AddsName offset line old new =
    (c : Counts) (symbols : List Symbol) → HasNames c symbols old →
    (s : Symbol) × (symbol_in c symbols (record { offset = offset; bytes = line }) ≡ Ok s) × HasNames c (symbols ++ s ∷ []) new

-- the error is the fault of a line, whatever symbols gave the names
abbrev pub IsNameFault : ℕ → List ℕ → NameTable → AigerError → Type 0
IsNameFault offset line names e =
    (c : Counts) (symbols : List Symbol) → HasNames c symbols names → IsFaultOf e (symbol_in c symbols (record { offset = offset; bytes = line }))
