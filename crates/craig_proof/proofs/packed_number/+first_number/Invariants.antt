use Rattle.std.proofs.Common.{length}
use Rattle.craig_proof.proofs.packed_number.+first_number.Given as goal

abbrev pub decreases-first_number : goal.decreases-first_number
decreases-first_number l = length l.bytes.now
