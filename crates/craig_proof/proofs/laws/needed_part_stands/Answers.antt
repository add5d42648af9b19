use Rattle.craig_proof.proofs.PartLemmas.{NeededPart-told, NeededPart-steps, NeededPart-has, NeededPart-clause, NeededPart-root, NeededPart-unforgotten}
use Rattle.craig_proof.proofs.laws.needed_part_stands.Goals as goal

pub returns-clause-told : goal.returns-clause-told
returns-clause-told c = NeededPart-told

pub returns-clause-steps : goal.returns-clause-steps
returns-clause-steps c = NeededPart-steps

pub returns-clause-has : goal.returns-clause-has
returns-clause-has c = NeededPart-has

pub returns-clause-clause : goal.returns-clause-clause
returns-clause-clause c = NeededPart-clause

pub returns-clause-root : goal.returns-clause-root
returns-clause-root c = NeededPart-root

pub returns-clause-unforgotten : goal.returns-clause-unforgotten
returns-clause-unforgotten c = NeededPart-unforgotten
