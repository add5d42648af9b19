use Rattle.craig_top.proofs.NothingLeftLemmas.{sequence_refutes}
use Rattle.craig_top.proofs.laws.cuts.nothing_left.Goals as goal

pub returns : goal.returns
returns c = sequence_refutes
