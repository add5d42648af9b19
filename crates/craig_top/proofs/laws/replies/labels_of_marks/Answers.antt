use Rattle.craig_top.proofs.MarkLemmas.{other_label, own_label}
use Rattle.craig_spec.specs.PartialInterpolant.{AB}
use Rattle.craig_top.proofs.laws.replies.labels_of_marks.Goals as goal

pub returns-clause-last : goal.returns-clause-last
returns-clause-last c = λ marks x label. (own_label AB marks x label, λ y other. other_label AB marks x label y other)
