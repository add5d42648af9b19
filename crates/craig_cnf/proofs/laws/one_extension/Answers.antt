use Rattle.craig_cnf.proofs.ExtensionLemmas.{texts_have_one_extension}
use Rattle.craig_cnf.proofs.laws.one_extension.Goals as goal

pub returns : goal.returns
returns c = texts_have_one_extension
