-- What the lines of a text are seen as.
use Rattle.std.specs.Prelude.{ℕ, List, ◌∷◌, map, Result, Ok}
use Rattle.craig_spec.specs.AigerFault.{Fault}
use Rattle.craig_spec.specs.AigerReading.{TextLine, ◌>>=◌}
use Rattle.craig_spec.specs.AigerReading as read
use Rattle.craig_spec.specs.Circuit as circuit
use Rattle.craig_spec.specs.AigerReading.Reset.{Zero as AsFalse, One as AsTrue, Open as AsEither}
use Rattle.craig_aiger_read.specs.declared.counts.Counts.{Counts}
use Rattle.craig_aiger_read.specs.declared.gate.Gate.{Gate}
use Rattle.craig_aiger_read.specs.declared.gate_line.GateLine.{GateLine}
use Rattle.craig_aiger_read.specs.declared.latch_line.LatchLine.{LatchLine}
use Rattle.craig_aiger_read.specs.declared.reset.Reset.{Reset}
use Rattle.craig_aiger_read.specs.declared.reset.Reset.TheVariants.{Zero, One, Open}
use Rattle.craig_aiger_read.specs.declared.root_line.RootLine.{RootLine}

-- the counts of a header
abbrev pub as_counts : Counts → read.Counts
as_counts c = record { greatest = c.greatest; inputs = c.inputs; latches = c.latches; outputs = c.outputs; gates = c.gates; bads = c.bads }

-- the variables that were read, behind the constant's
abbrev pub behind_constant : Result (List ℕ × List TextLine) Fault → Result (List ℕ × List TextLine) Fault
behind_constant found = found >>= λ x. Ok (0 ∷ x.0, x.1)

-- how a latch starts
abbrev pub as_reset : Reset → read.Reset
as_reset Zero = AsFalse
as_reset One = AsTrue
as_reset Open = AsEither

-- the line of a latch
abbrev pub as_latch : LatchLine → read.LatchLine
as_latch l = record { offset = l.offset; variable = l.variable; next = l.next; reset = as_reset l.reset }

-- the line of an output or a bad literal
abbrev pub as_root : RootLine → read.RootLine
as_root r = record { offset = r.offset; literal = r.literal }

-- the line of a gate
abbrev pub as_gate : GateLine → read.GateLine
as_gate g = record { offset = g.offset; variable = g.variable; left = g.left; right = g.right }

-- the operands of a gate
abbrev pub as_operands : Gate → circuit.Gate
as_operands g = record { left = g.left; right = g.right }

-- the variables that lines of latches define
abbrev pub latch_variables : List read.LatchLine → List ℕ
latch_variables ls = map (λ (l : read.LatchLine). l.variable) ls

-- the variables that lines of gates define
abbrev pub gate_variables : List read.GateLine → List ℕ
gate_variables gs = map (λ (g : read.GateLine). g.variable) gs
