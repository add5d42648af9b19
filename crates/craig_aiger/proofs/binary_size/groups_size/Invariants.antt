use Rattle.craig_aiger.proofs.GroupsLemmas.{GroupsCounted}
use Rattle.craig_aiger.proofs.binary_size.groups_size.Given as goal

abbrev pub invariant-loop-rest : goal.invariant-loop-rest
invariant-loop-rest l = GroupsCounted l.number l.rest l.size

abbrev pub decreases-loop-rest : goal.decreases-loop-rest
decreases-loop-rest l = l.rest
