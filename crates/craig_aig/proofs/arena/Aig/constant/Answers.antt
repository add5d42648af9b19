use Rattle.craig_aig.proofs.ConjunctionLemmas.{edge_value-constant, cone-constant}
use Rattle.craig_aig.proofs.arena.Aig.constant.Goals as goal

pub returns-clause-computes : goal.returns-clause-computes
returns-clause-computes c = λ s nodes h. rw c.new.ensures (edge_value-constant s nodes c.args.value h)

pub returns-clause-cone : goal.returns-clause-cone
returns-clause-cone c = λ nodes h. rw c.new.ensures (cone-constant nodes c.args.value h)
