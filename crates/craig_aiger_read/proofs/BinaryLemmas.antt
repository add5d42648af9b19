-- Laws of the reading of a binary text, section by section.
use Rattle.std.proofs.Common.{◌≡◌, ℕ, ◌+◌, ◌-◌, ◌*◌, ◌≤◌, List, [], ◌∷◌, length, drop, map, Option, Ok, Err, refl, sym, ◌∙◌, ap, arith}
use Rattle.std.proofs.lemmas.List.{length-map}
use Rattle.std.proofs.lemmas.List.FromFn.{length-map-range_with_len}
use Rattle.std.specs.List.{before_first, range_with_len}
use Rattle.std.specs.Option.{unwrap_or}
use Rattle.craig_spec.specs.AigerFault.{Fault, FaultKind}
use Rattle.craig_spec.specs.AigerBinary.{aig_reading, binary_end, binary_file, binary_from, binary_gates, binary_header_in, binary_in, binary_latch_in, lines_place}
use Rattle.craig_spec.specs.AigerReading.{AigerFile, Counts, RootLine, Symbol, TextLine, fault, lines_of, name_of, named_latches, named_roots, placed, read_lines, root_in, without_empty_end}
use Rattle.craig_spec.specs.AigerReading as read
use Rattle.craig_spec.specs.Circuit.{Gate}
use Rattle.craig_aiger_read.specs.declared.binary_reading.BinaryParts.{BinaryParts}
use Rattle.craig_aiger_read.specs.declared.latch_line.LatchLine.{LatchLine}
use Rattle.craig_aiger_read.specs.declared.root_line.RootLine as kept_root
use Rattle.craig_aiger_read.specs.Cuts.{behind_first, is_byte}
use Rattle.craig_aiger_read.specs.ReadBinary.{HasNameEach, binary_file_of}
use Rattle.craig_aiger_read.specs.ReadFiles.{latches_with, roots_with}
use Rattle.craig_aiger_read.specs.ReadLines.{IsFirstLine, lines_at}
use Rattle.craig_aiger_read.specs.ReadNames.{HasNames, symbols_read}
use Rattle.craig_aiger_read.specs.ReadViews.{as_latch, as_operands, as_root}
use Rattle.craig_aiger_read.proofs.AssemblyLemmas.{latches-named, roots-named}
use Rattle.craig_aiger_read.proofs.LineLemmas.{first_line}
use Rattle.craig_aiger_read.proofs.ReadingLemmas.{whole-lines}

-- where the lines of the last bytes begin
lines_place-at : (end : ℕ) (rest : List ℕ) → length rest ≤ end → lines_place end (lines_at end rest) ≡ end - length rest
lines_place-at end [] short = omega arith
lines_place-at end (b ∷ rest) short =
    let first = first_line (b ∷ rest) (before_first (is_byte 10) (b ∷ rest)) (unwrap_or (behind_first 10 (b ∷ rest)) []) (omega arith) refl refl in
    ap (lines_place end) (first.lines end short)

-- so that they are found again
pub last-bytes : (bytes rest : List ℕ) → length rest ≤ length bytes → rest ≡ drop (length bytes - length rest) bytes → drop (lines_place (length bytes) (lines_at (length bytes) rest)) bytes ≡ rest
last-bytes bytes rest short last = ap (λ z. drop z bytes) (lines_place-at (length bytes) rest short) ∙ sym last

pub binary-latches : (c : Counts) (bytes : List ℕ) (lines : List TextLine) (f : Fault) → read_lines (binary_latch_in c) (length bytes) c.latches [] lines ≡ Err f → binary_in c bytes lines ≡ Err f
unfolding binary_in
binary-latches c bytes lines f e = rw e refl

pub binary-outputs : (c : Counts) (bytes : List ℕ) (lines : List TextLine) (latches : List read.LatchLine) (l1 : List TextLine) (f : Fault) →
    read_lines (binary_latch_in c) (length bytes) c.latches [] lines ≡ Ok (latches, l1) → read_lines (root_in c) (length bytes) c.outputs [] l1 ≡ Err f → binary_in c bytes lines ≡ Err f
unfolding binary_in
binary-outputs c bytes lines latches l1 f e1 e = rw (e1, e) refl

pub binary-bads : (c : Counts) (bytes : List ℕ) (lines : List TextLine) (latches : List read.LatchLine) (outputs : List RootLine) (l1 l2 : List TextLine) (f : Fault) →
    read_lines (binary_latch_in c) (length bytes) c.latches [] lines ≡ Ok (latches, l1) → read_lines (root_in c) (length bytes) c.outputs [] l1 ≡ Ok (outputs, l2) →
    read_lines (root_in c) (length bytes) c.bads [] l2 ≡ Err f → binary_in c bytes lines ≡ Err f
unfolding binary_in
binary-bads c bytes lines latches outputs l1 l2 f e1 e2 e = rw (e1, e2, e) refl

binary-behind : (c : Counts) (bytes : List ℕ) (lines : List TextLine) (latches : List read.LatchLine) (outputs bads : List RootLine) (l1 l2 l3 : List TextLine) →
    read_lines (binary_latch_in c) (length bytes) c.latches [] lines ≡ Ok (latches, l1) → read_lines (root_in c) (length bytes) c.outputs [] l1 ≡ Ok (outputs, l2) →
    read_lines (root_in c) (length bytes) c.bads [] l2 ≡ Ok (bads, l3) → binary_in c bytes lines ≡ binary_end c (length bytes) latches outputs bads (drop (lines_place (length bytes) l3) bytes)
unfolding binary_in
binary-behind c bytes lines latches outputs bads l1 l2 l3 e1 e2 e3 = rw (e1, e2, e3) refl

-- the lines were read, and these bytes are behind them
pub record LinesRead (c : Counts) (bytes : List ℕ) (lines : List TextLine) (latches : List read.LatchLine) (outputs bads : List RootLine) (rest : List ℕ) : Type 0 where
  pub is : binary_in c bytes lines ≡ binary_end c (length bytes) latches outputs bads rest

pub lines-read : (c : Counts) (bytes : List ℕ) (lines : List TextLine) (latches : List read.LatchLine) (outputs bads : List RootLine) (l1 l2 : List TextLine) (rest : List ℕ) →
    read_lines (binary_latch_in c) (length bytes) c.latches [] lines ≡ Ok (latches, l1) → read_lines (root_in c) (length bytes) c.outputs [] l1 ≡ Ok (outputs, l2) →
    read_lines (root_in c) (length bytes) c.bads [] l2 ≡ Ok (bads, lines_at (length bytes) rest) → length rest ≤ length bytes → rest ≡ drop (length bytes - length rest) bytes →
    LinesRead c bytes lines latches outputs bads rest
lines-read c bytes lines latches outputs bads l1 l2 rest e1 e2 e3 short last = record {
  is =
      binary-behind c bytes lines latches outputs bads l1 l2 (lines_at (length bytes) rest) e1 e2 e3
      ∙ ap (binary_end c (length bytes) latches outputs bads) (last-bytes bytes rest short last);
}

end-gates : (c : Counts) (end : ℕ) (latches : List read.LatchLine) (outputs bads : List RootLine) (rest : List ℕ) (f : Fault) →
    binary_gates end c.gates (2 * (1 + c.inputs + c.latches)) [] rest ≡ Err f → binary_end c end latches outputs bads rest ≡ Err f
unfolding binary_end
end-gates c end latches outputs bads rest f e = rw e refl

end-symbols : (c : Counts) (end : ℕ) (latches : List read.LatchLine) (outputs bads : List RootLine) (rest behind : List ℕ) (gates : List Gate) (f : Fault) →
    binary_gates end c.gates (2 * (1 + c.inputs + c.latches)) [] rest ≡ Ok (gates, behind) → symbols_read c end (lines_at end behind) ≡ Err f → binary_end c end latches outputs bads rest ≡ Err f
unfolding binary_end
end-symbols c end latches outputs bads rest behind gates f e h = rw (e, h) refl

end-all : (c : Counts) (end : ℕ) (latches : List read.LatchLine) (outputs bads : List RootLine) (rest behind : List ℕ) (gates : List Gate) (symbols : List Symbol) (l : List TextLine) →
    binary_gates end c.gates (2 * (1 + c.inputs + c.latches)) [] rest ≡ Ok (gates, behind) → symbols_read c end (lines_at end behind) ≡ Ok (symbols, l) →
    binary_end c end latches outputs bads rest ≡ Ok (binary_file c latches outputs bads gates symbols)
unfolding binary_end
end-all c end latches outputs bads rest behind gates symbols l e h = rw (e, h) refl

pub binary-gates : (c : Counts) (bytes : List ℕ) (lines : List TextLine) (latches : List read.LatchLine) (outputs bads : List RootLine) (rest : List ℕ) (f : Fault) → LinesRead c bytes lines latches outputs bads rest →
    binary_gates (length bytes) c.gates (2 * (1 + c.inputs + c.latches)) [] rest ≡ Err f → binary_in c bytes lines ≡ Err f
binary-gates c bytes lines latches outputs bads rest f h e = h.is ∙ end-gates c (length bytes) latches outputs bads rest f e

pub binary-symbols : (c : Counts) (bytes : List ℕ) (lines : List TextLine) (latches : List read.LatchLine) (outputs bads : List RootLine) (rest behind : List ℕ) (gates : List Gate) (f : Fault) →
    LinesRead c bytes lines latches outputs bads rest → binary_gates (length bytes) c.gates (2 * (1 + c.inputs + c.latches)) [] rest ≡ Ok (gates, behind) →
    symbols_read c (length bytes) (lines_at (length bytes) behind) ≡ Err f → binary_in c bytes lines ≡ Err f
binary-symbols c bytes lines latches outputs bads rest behind gates f h e1 e = h.is ∙ end-symbols c (length bytes) latches outputs bads rest behind gates f e1 e

-- the names of the things that have lines
latches-part : (symbols : List Symbol) (count : ℕ) (ls : List LatchLine) (names : List (Option (List ℕ))) → length (map as_latch ls) ≡ count → names ≡ map (name_of symbols 108) (range_with_len 0 count) →
    named_latches (λ l. l) symbols 0 (map as_latch ls) ≡ latches_with (λ l. l) ls (map (λ (l : LatchLine). l.next) ls) names
latches-part symbols count ls names long named =
    sym (latches-named (λ l. l) (λ l. l) (λ l. l) symbols 0 ls (λ k d low. refl))
    ∙ ap (latches_with (λ l. l) ls (map (λ (l : LatchLine). l.next) ls)) (ap (λ z. map (name_of symbols 108) (range_with_len 0 z)) long ∙ sym named)

roots-part : (symbols : List Symbol) (letter count : ℕ) (rs : List kept_root.RootLine) (names : List (Option (List ℕ))) → length (map as_root rs) ≡ count → names ≡ map (name_of symbols letter) (range_with_len 0 count) →
    named_roots (λ l. l) symbols letter 0 (map as_root rs) ≡ roots_with (λ l. l) (map (λ (r : kept_root.RootLine). r.literal) rs) names
roots-part symbols letter count rs names long named =
    sym (roots-named (λ l. l) (λ l. l) (λ l. l) symbols letter 0 rs (λ k d low. refl))
    ∙ ap (roots_with (λ l. l) (map (λ (r : kept_root.RootLine). r.literal) rs)) (ap (λ z. map (name_of symbols letter) (range_with_len 0 z)) long ∙ sym named)

-- as many lines were read as were counted
pub record ArePartsRead (c : Counts) (symbols : List Symbol) (p : BinaryParts) : Type 0 where
  pub latches_long : length (map as_latch p.latches.items) ≡ c.latches
  pub outputs_long : length (map as_root p.outputs.items) ≡ c.outputs
  pub bads_long : length (map as_root p.bads.items) ≡ c.bads
  pub named : HasNames c symbols p.names

-- the file that is read is that of the parts
pub file-parts : (c : Counts) (symbols : List Symbol) (p : BinaryParts) → ArePartsRead c symbols p →
    binary_file c (map as_latch p.latches.items) (map as_root p.outputs.items) (map as_root p.bads.items) (map as_operands p.gates.items) symbols ≡ binary_file_of p
file-parts c symbols p h =
    rw (
      latches-part symbols c.latches p.latches.items p.names.latches.items h.latches_long h.named.latches,
      roots-part symbols 111 c.outputs p.outputs.items p.names.outputs.items h.outputs_long h.named.outputs,
      roots-part symbols 98 c.bads p.bads.items p.names.bads.items h.bads_long h.named.bads,
      ← h.named.inputs,
    ) refl

pub binary-all : (c : Counts) (bytes : List ℕ) (lines : List TextLine) (rest behind : List ℕ) (symbols : List Symbol) (l : List TextLine) (p : BinaryParts) →
    LinesRead c bytes lines (map as_latch p.latches.items) (map as_root p.outputs.items) (map as_root p.bads.items) rest →
    binary_gates (length bytes) c.gates (2 * (1 + c.inputs + c.latches)) [] rest ≡ Ok (map as_operands p.gates.items, behind) →
    symbols_read c (length bytes) (lines_at (length bytes) behind) ≡ Ok (symbols, l) → ArePartsRead c symbols p → binary_in c bytes lines ≡ Ok (binary_file_of p)
binary-all c bytes lines rest behind symbols l p h gates e are =
    h.is ∙ end-all c (length bytes) (map as_latch p.latches.items) (map as_root p.outputs.items) (map as_root p.bads.items) rest behind (map as_operands p.gates.items) symbols l gates e
    ∙ ap (λ (z : AigerFile). Ok z) (file-parts c symbols p are)

pub names-each : (c : Counts) (symbols : List Symbol) (p : BinaryParts) → ArePartsRead c symbols p → HasNameEach p
names-each c symbols p h = record {
  latch_names = omega (arith, h.latches_long, length-map p.latches.items as_latch, ap length h.named.latches, length-map-range_with_len (name_of symbols 108) 0 c.latches);
  output_names = omega (arith, h.outputs_long, length-map p.outputs.items as_root, ap length h.named.outputs, length-map-range_with_len (name_of symbols 111) 0 c.outputs);
  bad_names = omega (arith, h.bads_long, length-map p.bads.items as_root, ap length h.named.bads, length-map-range_with_len (name_of symbols 98) 0 c.bads);
}

-- the whole text: none, one with a first line, and the faults behind it
pub binary-empty : (bytes : List ℕ) → bytes ≡ [] → aig_reading bytes ≡ fault FaultKind.Header 0
unfolding aig_reading
binary-empty bytes e = rw e refl

binary-lines : (bytes line behind : List ℕ) → IsFirstLine bytes line behind → aig_reading bytes ≡ binary_from bytes (record { offset = 0; bytes = line } ∷ lines_at (length bytes) behind)
unfolding aig_reading
binary-lines bytes line behind first =
    let none : length bytes - length bytes ≡ 0 = omega arith in
    ap (binary_from bytes) (whole-lines bytes ∙ first.lines (length bytes) (omega arith) ∙ ap (λ z. record { offset = z; bytes = line } ∷ lines_at (length bytes) behind) none)

pub binary-header : (bytes line behind : List ℕ) (f : Fault) → IsFirstLine bytes line behind → binary_header_in (record { offset = 0; bytes = line }) ≡ Err f → aig_reading bytes ≡ Err f
binary-header bytes line behind f first e = binary-lines bytes line behind first ∙ rw e refl

pub binary-body : (bytes line behind : List ℕ) (counts : Counts) → IsFirstLine bytes line behind → binary_header_in (record { offset = 0; bytes = line }) ≡ Ok counts →
    aig_reading bytes ≡ binary_in counts bytes (lines_at (length bytes) behind)
binary-body bytes line behind counts first e = binary-lines bytes line behind first ∙ rw e refl
