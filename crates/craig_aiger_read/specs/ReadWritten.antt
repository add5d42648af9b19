-- The definitions of a text as they are kept.
use Rattle.std.specs.Prelude.{◌≡◌, length, map, Result, Ok}
use Rattle.craig_spec.specs.AigerFault.{Fault}
use Rattle.craig_spec.specs.AigerReading as read
use Rattle.craig_aiger_read.specs.declared.written.Written.{Written}
use Rattle.craig_aiger_read.specs.ReadViews.{as_gate, as_latch, as_root}

-- these definitions are kept so
pub record KeepsWritten (w : read.Written) (kept : Written) : Type 0 where
  -- the variables that are defined are kept
  pub variables : kept.variables.keys ≡ read.variables_of w
  -- the lines of the latches are kept
  pub latches : map as_latch kept.latches.items ≡ w.latches
  -- those of the outputs
  pub outputs : map as_root kept.outputs.items ≡ w.outputs
  -- those of the bad literals
  pub bads : map as_root kept.bads.items ≡ w.bads
  -- those of the gates
  pub gates : map as_gate kept.gates.items ≡ w.gates
  -- the names of the inputs are those that the symbols give
  pub input_names : kept.names.inputs.items ≡ read.names_of w.symbols 105 (length w.inputs)
  -- and those of the latches
  pub latch_names : kept.names.latches.items ≡ read.names_of w.symbols 108 (length w.latches)
  -- and those of the outputs
  pub output_names : kept.names.outputs.items ≡ read.names_of w.symbols 111 (length w.outputs)
  -- and those of the bad literals
  pub bad_names : kept.names.bads.items ≡ read.names_of w.symbols 98 (length w.bads)

-- what is read is kept so
abbrev pub IsKeptRead : Result read.Written Fault → Written → Type 0
IsKeptRead found kept = (w : read.Written) × (found ≡ Ok w) × KeepsWritten w kept
