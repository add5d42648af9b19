-- What is wrong with a text that is no AIGER text, in the order in which the faults of a line are tested.
use Rattle.std.specs.Prelude.{ℕ}

-- the kinds of faults
pub data FaultKind : Type 0 where
  -- the first line is not a header, or there is no byte
  Header : FaultKind
  -- the greatest variable is less than the number of inputs, latches and gates, or in a binary text another number
  Count : FaultKind
  -- the header counts constraints, or justice or fairness properties
  Unsupported : FaultKind
  -- the bytes end before the lines or the binary numbers that the header counts
  Truncated : FaultKind
  -- the line of an input, a latch, an output, a bad literal or a gate is not in its form
  Line : FaultKind
  -- a literal other than a reset is of a variable above the greatest, or one that is defined is odd or constant
  Literal : FaultKind
  -- a variable is defined a second time
  Twice : FaultKind
  -- the reset of a latch is not 0, 1 or the latch's own literal
  Reset : FaultKind
  -- a binary number has more than nine groups, or the first of a gate is 0 or above the gate's literal, or the second is above the first operand
  Delta : FaultKind
  -- a line after the gates is neither a symbol nor the first of the comments, there is nothing at its position, or what is there has a name already
  Symbol : FaultKind
  -- a line uses a literal whose variable is defined nowhere
  Undefined : FaultKind
  -- a gate depends on itself, or on one that does
  Cycle : FaultKind

-- what is wrong, and where
pub record Fault : Type 0 where
  -- what is wrong
  pub kind : FaultKind
  -- the number of bytes before it
  pub offset : ℕ
