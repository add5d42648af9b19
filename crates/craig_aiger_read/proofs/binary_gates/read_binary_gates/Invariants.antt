use Rattle.std.proofs.Common.{◌+◌, ◌*◌, map}
use Rattle.craig_aiger_read.specs.ReadViews.{as_operands}
use Rattle.craig_aiger_read.proofs.BinaryGateLemmas.{GatesRead}
use Rattle.craig_aiger_read.proofs.binary_gates.read_binary_gates.Given as goal

abbrev pub invariant-loop : goal.invariant-loop
invariant-loop l = GatesRead l.fn.end l.counts.gates (2 * (1 + l.counts.inputs + l.counts.latches)) l.own l.counter (map as_operands l.gates.items) l.text l.rest
