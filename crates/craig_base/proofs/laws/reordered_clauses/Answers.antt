use Rattle.craig_base.proofs.ReorderLemmas.{OnlyReorders-refl, OnlyReorders-trans, GivesSame-reordered, GivesSame-before}
use Rattle.craig_base.proofs.laws.reordered_clauses.Goals as goal

pub returns-clause-same : goal.returns-clause-same
returns-clause-same c = OnlyReorders-refl

pub returns-clause-twice : goal.returns-clause-twice
returns-clause-twice c = OnlyReorders-trans

pub returns-clause-literals : goal.returns-clause-literals
returns-clause-literals c = GivesSame-reordered

pub returns-clause-before : goal.returns-clause-before
returns-clause-before c = GivesSame-before
