use Rattle.craig_aiger.specs.Layouts.{circuit_of}
use Rattle.craig_top.proofs.FormatLemmas.{same_as_itself}
use Rattle.craig_top.proofs.ResultLemmas.{always}
use Rattle.craig_top.proofs.reply.append_cnf.Goals as goal

pub returns-clause-reads_back : goal.returns-clause-reads_back
returns-clause-reads_back c =
    always c.extend_from_slice.result _ (circuit_of c.args.circuit.now, c.write_tseitin.ensures.reads_back, same_as_itself c.args.circuit.now c.write_tseitin.ensures.is_circuit)
