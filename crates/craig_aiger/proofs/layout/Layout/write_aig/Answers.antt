use Rattle.std.proofs.lemmas.Result.{IfOk-from_err}
use Rattle.craig_aiger.proofs.BinaryRoundTripLemmas.{reads_as_binary}
use Rattle.craig_aiger.proofs.layout.Layout.write_aig.Goals as goal

pub returns-in_err-reserve-clause-reads_back : goal.returns-in_err-reserve-clause-reads_back
returns-in_err-reserve-clause-reads_back c = reads_as_binary c.args.self.now c.size_of.ensures.is_writable

pub returns-clause-reads_back : goal.returns-clause-reads_back
returns-clause-reads_back c = reads_as_binary c.args.self.now c.size_of.ensures.is_writable

pub returns-in_err-reserve-clause-text : goal.returns-in_err-reserve-clause-text
returns-in_err-reserve-clause-text c = IfOk-from_err _ _ c.from_residual.ensures.0
