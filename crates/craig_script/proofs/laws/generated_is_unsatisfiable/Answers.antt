use Rattle.craig_script.proofs.CounterLemmas.{generated-unsatisfiable}
use Rattle.craig_script.proofs.laws.generated_is_unsatisfiable.Goals as goal

pub returns : goal.returns
returns c = generated-unsatisfiable
