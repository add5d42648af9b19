use Rattle.craig_aiger.proofs.GroupsLemmas.{GroupsLeft}
use Rattle.craig_aiger.proofs.binary_writing.append_groups.Given as goal

abbrev pub invariant-loop-rest : goal.invariant-loop-rest
invariant-loop-rest l = GroupsLeft l.initial.out l.out l.number l.rest

abbrev pub decreases-loop-rest : goal.decreases-loop-rest
decreases-loop-rest l = l.rest
