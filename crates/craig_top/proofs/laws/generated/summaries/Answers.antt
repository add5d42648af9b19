use Rattle.craig_top.proofs.PutGeneratedLemmas.{is_summary}
use Rattle.craig_top.proofs.laws.generated.summaries.Goals as goal

pub returns : goal.returns
returns c = λ settings n some few. is_summary settings n (λ d v here named. (c.generated_scripts.ensures.variables n d v here named).1) (c.generated_scripts.ensures.greatest n some)
