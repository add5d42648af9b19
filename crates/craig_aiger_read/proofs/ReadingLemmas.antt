-- Laws of the reading of a whole text.
use Rattle.std.proofs.Common.{◌≡◌, ℕ, ◌-◌, true, false, List, [], ◌∷◌, length, Result, Ok, Err, refl, ◌∙◌, ap, arith}
use Rattle.std.specs.Prelude.{IfErr, IfOk}
use Rattle.std.specs.List.{slice_split}
use Rattle.craig_spec.specs.AigerFault.{Fault, FaultKind}
use Rattle.craig_spec.specs.AigerBinary.{aig_reading, aiger_reading, begins_binary}
use Rattle.craig_spec.specs.AigerReading.{AigerFile, Counts, IsDefinedFile, Written, fault, file_written, header_in, lines_of, placed, read_from, aag_reading, without_empty_end, written_in}
use Rattle.craig_aiger_read.specs.declared.aiger_error.AigerError.{AigerError}
use Rattle.craig_aiger_read.specs.declared.circuit.Circuit.{Circuit}
use Rattle.craig_aiger_read.specs.Cuts.{is_byte}
use Rattle.craig_aiger_read.specs.ReadFaults.{IsFaultOf, IsReadAs}
use Rattle.craig_aiger_read.specs.ReadFiles.{as_file}
use Rattle.craig_aiger_read.specs.ReadLines.{lines_at, IsFirstLine}

pub whole-lines : (bytes : List ℕ) → lines_of bytes ≡ lines_at (length bytes) bytes
whole-lines bytes = let none : 0 ≡ length bytes - length bytes = omega arith in ap (λ z. placed z (without_empty_end (slice_split (is_byte 10) bytes))) none

-- a text without a byte
pub reading-empty : (bytes : List ℕ) → bytes ≡ [] → aag_reading bytes ≡ fault FaultKind.Header 0
unfolding aag_reading
reading-empty bytes e = rw e refl

-- a text with a first line
pub reading-lines : (bytes line behind : List ℕ) → IsFirstLine bytes line behind → aag_reading bytes ≡ read_from (length bytes) (record { offset = 0; bytes = line } ∷ lines_at (length bytes) behind)
unfolding aag_reading
reading-lines bytes line behind first =
    let none : length bytes - length bytes ≡ 0 = omega arith in
    ap (read_from (length bytes)) (whole-lines bytes ∙ first.lines (length bytes) (omega arith) ∙ ap (λ z. record { offset = z; bytes = line } ∷ lines_at (length bytes) behind) none)

-- a header with a fault, and a fault of the lines after it
pub reading-header : (bytes line behind : List ℕ) (f : Fault) → IsFirstLine bytes line behind → header_in (record { offset = 0; bytes = line }) ≡ Err f → aag_reading bytes ≡ Err f
reading-header bytes line behind f first e = reading-lines bytes line behind first ∙ rw e refl

pub reading-written : (bytes line behind : List ℕ) (counts : Counts) (f : Fault) → IsFirstLine bytes line behind → header_in (record { offset = 0; bytes = line }) ≡ Ok counts →
    written_in counts (length bytes) (lines_at (length bytes) behind) ≡ Err f → aag_reading bytes ≡ Err f
reading-written bytes line behind counts f first e h = reading-lines bytes line behind first ∙ rw (e, h) refl

pub reading-file : (bytes line behind : List ℕ) (counts : Counts) (w : Written) → IsFirstLine bytes line behind → header_in (record { offset = 0; bytes = line }) ≡ Ok counts →
    written_in counts (length bytes) (lines_at (length bytes) behind) ≡ Ok w → aag_reading bytes ≡ file_written w
reading-file bytes line behind counts w first e h = reading-lines bytes line behind first ∙ rw (e, h) refl

-- what the last call gives is what reading gives
pub reading-given : (K : Written → Type 0) (w : Written) (result : Result Circuit AigerError) (read : Result AigerFile Fault) → K w → read ≡ file_written w →
    IfOk result (λ circuit. (w : Written) → K w → file_written w ≡ Ok (as_file circuit)) → IfErr result (λ e. (w : Written) → K w → IsFaultOf e (file_written w)) → IsReadAs as_file result read
reading-given K w (Ok circuit) read k same ok err = same ∙ ok w k
reading-given K w (Err e) read k same ok err = rw same (err w k)

-- bytes are read as their first word says
pub reading-binary : (bytes : List ℕ) → begins_binary bytes ≡ true → aig_reading bytes ≡ aiger_reading bytes
unfolding aiger_reading
reading-binary bytes e = rw e refl

pub reading-ascii : (bytes : List ℕ) → begins_binary bytes ≡ false → aag_reading bytes ≡ aiger_reading bytes
unfolding aiger_reading
reading-ascii bytes e = rw e refl

-- what is read is a file in which whatever is used is there
pub defined-read : (bytes : List ℕ) (result : Result Circuit AigerError) → ((b : List ℕ) (f : AigerFile) → aiger_reading b ≡ Ok f → IsDefinedFile f) → IsReadAs as_file result (aiger_reading bytes) → IfOk result (λ c. IsDefinedFile (as_file c))
defined-read bytes (Ok c) law is = law bytes (as_file c) is
defined-read bytes (Err e) law is = tt
