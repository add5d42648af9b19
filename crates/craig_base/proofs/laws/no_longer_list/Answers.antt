use Rattle.craig_base.proofs.BoundLemmas.{clauses-few, lemmas-few, repeated-few}
use Rattle.craig_base.proofs.laws.no_longer_list.Goals as goal

pub returns-clause-once : goal.returns-clause-once
returns-clause-once c = clauses-few

pub returns-clause-twice : goal.returns-clause-twice
returns-clause-twice c = repeated-few

pub returns-clause-lemmas : goal.returns-clause-lemmas
returns-clause-lemmas c = lemmas-few
