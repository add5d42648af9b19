use Rattle.craig_spec.proofs.AigerBinaryLemmas.{IsDefinedFile-reading}
use Rattle.craig_aiger_read.proofs.laws.files_are_defined.Goals as goal

pub returns : goal.returns
returns c = IsDefinedFile-reading
