-- The lines that are left of a text.
use Rattle.std.specs.Prelude.{◌≡◌, ℕ, ◌-◌, ◌<◌, ◌≤◌, List, [], ◌∷◌, drop, length, Result}
use Rattle.std.specs.List.{slice_split}
use Rattle.craig_spec.specs.AigerFault.{Fault}
use Rattle.craig_spec.specs.AigerBinary.{binary_latch_in}
use Rattle.craig_spec.specs.AigerReading.{GateLine, LatchLine, RootLine, TextLine, gate_in, input_in, latch_in, placed, read_lines, root_in, without_empty_end}
use Rattle.craig_aiger_read.specs.declared.counts.Counts.{Counts}
use Rattle.craig_aiger_read.specs.Cuts.{is_byte}
use Rattle.craig_aiger_read.specs.ReadViews.{as_counts}

-- the lines of the last bytes of a text that has so many bytes
abbrev pub lines_at : ℕ → List ℕ → List TextLine
lines_at end bytes = placed (end - length bytes) (without_empty_end (slice_split (is_byte 10) bytes))

-- the bytes are a line and what is behind it
pub record IsFirstLine (bytes line behind : List ℕ) : Type 0 where
  -- the lines are this one and those of what is behind it
  pub lines : (end : ℕ) → length bytes ≤ end → lines_at end bytes ≡ record { offset = end - length bytes; bytes = line } ∷ lines_at end behind
  -- what is behind it is shorter
  pub shorter : length behind < length bytes
  -- and is the end of the bytes
  pub last : behind ≡ drop (length bytes - length behind) bytes

-- so many lines of a text that has so many bytes, each read so, and the lines after them
abbrev pub section : {A : Type 0} → (List A → TextLine → Result A Fault) → ℕ → ℕ → List ℕ → Result (List A × List TextLine) Fault
section each end count bytes = read_lines each end count [] (lines_at end bytes)

-- the lines of the inputs, and the lines after them
abbrev pub inputs_at : Counts → ℕ → List ℕ → Result (List ℕ × List TextLine) Fault
inputs_at c end bytes = section (input_in (as_counts c)) end c.inputs bytes

-- the lines of the latches, where these variables are defined, and the lines after them
abbrev pub latches_at : Counts → List ℕ → ℕ → List ℕ → Result (List LatchLine × List TextLine) Fault
latches_at c known end bytes = section (latch_in (as_counts c) known) end c.latches bytes

-- the lines of the latches of a binary text, and the lines after them
abbrev pub binary_latches_at : Counts → ℕ → List ℕ → Result (List LatchLine × List TextLine) Fault
binary_latches_at c end bytes = section (binary_latch_in (as_counts c)) end c.latches bytes

-- so many lines of outputs or bad literals, and the lines after them
abbrev pub roots_at : Counts → ℕ → ℕ → List ℕ → Result (List RootLine × List TextLine) Fault
roots_at c count end bytes = section (root_in (as_counts c)) end count bytes

-- the lines of the gates, where these variables are defined, and the lines after them
abbrev pub gates_at : Counts → List ℕ → ℕ → List ℕ → Result (List GateLine × List TextLine) Fault
gates_at c known end bytes = section (gate_in (as_counts c) known) end c.gates bytes
