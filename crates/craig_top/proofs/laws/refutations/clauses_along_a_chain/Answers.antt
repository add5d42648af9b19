use Rattle.craig_top.proofs.DrawnStepsLemmas.{chain_along}
use Rattle.craig_top.proofs.laws.refutations.clauses_along_a_chain.Goals as goal

pub returns : goal.returns
returns c = chain_along
