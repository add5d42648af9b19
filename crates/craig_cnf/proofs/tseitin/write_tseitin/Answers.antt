use Rattle.std.proofs.Common.{arith}
use Rattle.craig_cnf.proofs.LayoutCircuitLemmas.{layout_is_circuit, layout_read}
use Rattle.craig_cnf.proofs.tseitin.write_tseitin.Goals as goal

pub returns-then-is_err-clause-reads_back : goal.returns-then-is_err-clause-reads_back
returns-then-is_err-clause-reads_back c = layout_read c.args.top c.args.layout.now c.outputs.ensures.is_writable c.requires (omega (arith, c.ranges.top.fits))

pub returns-else-is_err-clause-reads_back : goal.returns-else-is_err-clause-reads_back
returns-else-is_err-clause-reads_back c = layout_read c.args.top c.args.layout.now c.outputs.ensures.is_writable c.requires (omega (arith, c.ranges.top.fits))

pub returns-then-is_err-clause-is_circuit : goal.returns-then-is_err-clause-is_circuit
returns-then-is_err-clause-is_circuit c = layout_is_circuit c.args.top c.args.layout.now c.outputs.ensures.is_writable c.requires

pub returns-else-is_err-clause-is_circuit : goal.returns-else-is_err-clause-is_circuit
returns-else-is_err-clause-is_circuit c = layout_is_circuit c.args.top c.args.layout.now c.outputs.ensures.is_writable c.requires
