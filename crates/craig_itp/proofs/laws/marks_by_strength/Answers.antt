use Rattle.craig_itp.proofs.CutsLemmas.{marks-implied}
use Rattle.craig_itp.proofs.laws.marks_by_strength.Goals as goal

pub returns : goal.returns
returns c = marks-implied
