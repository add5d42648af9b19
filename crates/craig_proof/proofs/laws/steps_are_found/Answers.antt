use Rattle.craig_spec.proofs.ToldLemmas.{clause_told-find}
use Rattle.craig_proof.proofs.PartLemmas.{clause_told-found, one_step, unforgotten_step, IsUnforgotten-step}
use Rattle.craig_proof.proofs.laws.steps_are_found.Goals as goal

pub returns-clause-found : goal.returns-clause-found
returns-clause-found c = clause_told-found

pub returns-clause-one : goal.returns-clause-one
returns-clause-one c = one_step

pub returns-clause-step : goal.returns-clause-step
returns-clause-step c = clause_told-find

pub returns-clause-unforgotten : goal.returns-clause-unforgotten
returns-clause-unforgotten c = unforgotten_step

pub returns-clause-kept : goal.returns-clause-kept
returns-clause-kept c = IsUnforgotten-step
