use Rattle.craig_proof.proofs.ChainGrowthLemmas.{ChainOk-given, ChainOk-literal, ChainOk-variable}
use Rattle.craig_proof.proofs.laws.chain_variables.Goals as goal

pub returns-clause-given : goal.returns-clause-given
returns-clause-given c = ChainOk-given

pub returns-clause-literals : goal.returns-clause-literals
returns-clause-literals c = ChainOk-literal

pub returns-clause-variables : goal.returns-clause-variables
returns-clause-variables c = ChainOk-variable
