use Rattle.craig_top.proofs.AssumptionLemmas.{NamesFailed-written}
use Rattle.craig_top.proofs.OriginalLemmas.{IsAcceptedStep-original, IsOriginalOf-accepted}
use Rattle.craig_top.proofs.laws.solver_words.words_of_the_solver.Goals as goal

pub returns-clause-failed : goal.returns-clause-failed
returns-clause-failed c assumptions places are = NamesFailed-written (λ a. record { part = a.0.0; literal = a.1 }) assumptions (λ a b one other same. same) places are

pub returns-clause-originals : goal.returns-clause-originals
returns-clause-originals c accepted s = (IsOriginalOf-accepted accepted s, IsAcceptedStep-original accepted s)
