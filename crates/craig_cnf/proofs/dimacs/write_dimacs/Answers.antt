use Rattle.std.proofs.Common.{arith}
use Rattle.craig_cnf.proofs.DimacsRoundTripLemmas.{dimacs_reads_back}
use Rattle.craig_cnf.proofs.dimacs.write_dimacs.Goals as goal

pub returns-then-is_err-clause-reads_back : goal.returns-then-is_err-clause-reads_back
returns-then-is_err-clause-reads_back c = dimacs_reads_back c.args.names.now c.args.clauses.now c.len.ensures.are_names c.requires.normal c.requires.named (omega arith)

pub returns-else-is_err-clause-reads_back : goal.returns-else-is_err-clause-reads_back
returns-else-is_err-clause-reads_back c = dimacs_reads_back c.args.names.now c.args.clauses.now c.len.ensures.are_names c.requires.normal c.requires.named (omega arith)
