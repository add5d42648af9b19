use Rattle.craig_proof.proofs.ReclaimLemmas.{IsTold-reclaims}
use Rattle.craig_proof.proofs.ToldLemmas.{IsTold-nothing, IsTold-with_step, IsTold-without_id}
use Rattle.craig_proof.proofs.laws.told_steps_stand.Goals as goal

pub returns-clause-nothing : goal.returns-clause-nothing
returns-clause-nothing c = IsTold-nothing

pub returns-clause-told : goal.returns-clause-told
returns-clause-told c = IsTold-with_step

pub returns-clause-forgotten : goal.returns-clause-forgotten
returns-clause-forgotten c = IsTold-without_id

pub returns-clause-reclaimed : goal.returns-clause-reclaimed
returns-clause-reclaimed c = IsTold-reclaims
