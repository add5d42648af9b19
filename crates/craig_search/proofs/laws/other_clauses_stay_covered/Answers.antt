use Rattle.craig_search.proofs.LawLemmas.{stay-covered}
use Rattle.craig_search.proofs.laws.other_clauses_stay_covered.Goals as goal

pub returns : goal.returns
returns c = stay-covered
