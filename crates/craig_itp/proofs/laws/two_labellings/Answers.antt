use Rattle.craig_itp.proofs.CutsLemmas.{highest-false, lowest-true}
use Rattle.craig_itp.proofs.TwoLabellingsLemmas.{two_labellings-implied, root-implied}
use Rattle.craig_itp.proofs.laws.two_labellings.Goals as goal

pub returns-clause-imply : goal.returns-clause-imply
returns-clause-imply c = record {
  clause = two_labellings-implied;
  empty = root-implied;
}

pub returns-clause-outermost : goal.returns-clause-outermost
returns-clause-outermost c = record {
  lowest = λ t told q here s. lowest-true s t told q here;
  highest = λ t told q here s. highest-false s t told q here;
}
