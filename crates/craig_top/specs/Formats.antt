-- The formats in which circuits are written, and the greatest variable that a solve names, above which a text of clauses
-- has its fresh variables.
use Rattle.std.specs.Prelude.{◌≡◌, ℕ, max, List, map, Option, Some}
use Rattle.craig_spec.specs.AigerBinary.{read_aig}
use Rattle.craig_spec.specs.AigerReading.{read_aag}
use Rattle.craig_spec.specs.Circuit.{Circuit}
use Rattle.craig_spec.specs.CircuitCnf.{read_cnf}
use Rattle.craig_spec.specs.Cut.{PartLiteral}
use Rattle.craig_spec.specs.DimacsText.{greatest_of_clause, greatest_of_clauses}
use Rattle.craig_aiger.specs.AsciiText.{aag_text}
use Rattle.craig_aiger.specs.BinaryText.{aig_text}
use Rattle.craig_aiger.specs.Layouts.{Layout}
use Rattle.craig_aiger.specs.RoundTrip.{SameCircuit}
use Rattle.craig_cnf.specs.LayoutClauses.{layout_text}
use Rattle.craig_script.specs.declared.setting_words.FormatWord.{FormatWord}
use Rattle.craig_script.specs.declared.setting_words.FormatWord.TheVariants.{Aag, Aig, Cnf}
use Rattle.craig_top.specs.GivenState.{State}
use Rattle.craig_top.specs.Named.{bare_clauses}

-- a way to write a layout, and to read it back
pub record CircuitFormat : Type 0 where
  -- the bytes of a layout
  pub write : Layout → List ℕ
  -- the circuit that bytes are read as
  pub read : List ℕ → Option Circuit

-- AIGER in its ASCII form
abbrev pub ascii_format : CircuitFormat
ascii_format = record { write = aag_text; read = read_aag }

-- AIGER in its binary form
abbrev pub binary_format : CircuitFormat
binary_format = record { write = aig_text; read = read_aig }

-- clauses with a fresh variable for each gate, the first of which comes after the top
abbrev pub clause_format : ℕ → CircuitFormat
clause_format top = record { write = layout_text top; read = read_cnf top }

-- the format of a word, where fresh variables come after the top
abbrev pub format_of : FormatWord → ℕ → CircuitFormat
format_of Aag top = ascii_format
format_of Aig top = binary_format
format_of Cnf top = clause_format top

-- the layout's text in the format is read back as a circuit with the same inputs and outputs
abbrev pub ReadsBack : CircuitFormat → Layout → Type 0
ReadsBack format l = (c : Circuit) × (format.read (format.write l) ≡ Some c) × SameCircuit l c

-- the greatest variable of the accepted clauses and the assumptions, and 0 where they have none
abbrev pub greatest_named : State → List PartLiteral → ℕ
greatest_named state assumptions = max (greatest_of_clauses (bare_clauses state.accepted)) (greatest_of_clause (map (λ (a : PartLiteral). a.literal) assumptions))

-- the format of the reply to a solve under the assumptions
abbrev pub format_in : State → List PartLiteral → CircuitFormat
format_in state assumptions = format_of state.settings.format (greatest_named state assumptions)
