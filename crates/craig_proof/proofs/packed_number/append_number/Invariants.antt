use Rattle.craig_proof.proofs.PackedLemmas.{NumberLeft}
use Rattle.craig_proof.proofs.packed_number.append_number.Given as goal

abbrev pub invariant-loop-rest : goal.invariant-loop-rest
invariant-loop-rest l = NumberLeft l.initial.out.items l.out.items l.number l.rest

abbrev pub decreases-loop-rest : goal.decreases-loop-rest
decreases-loop-rest l = l.rest
