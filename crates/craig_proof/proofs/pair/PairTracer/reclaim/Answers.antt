use Rattle.craig_spec.proofs.ToldLemmas.{Reclaims-nothing}
use Rattle.craig_proof.proofs.pair.PairTracer.reclaim.Goals as goal

pub returns-clause-told : goal.returns-clause-told
returns-clause-told g c = λ t e. (t, e, Reclaims-nothing t)
