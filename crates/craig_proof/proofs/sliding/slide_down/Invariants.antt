use Rattle.std.proofs.Common.{◌≡◌}
use Rattle.craig_proof.specs.Reclaiming.{IsSliding, left_from}
use Rattle.craig_proof.proofs.sliding.slide_down.Given as goal

abbrev pub invariant-loop-place : goal.invariant-loop-place
invariant-loop-place l = record {
  sliding : IsSliding l.rows l.literals l.bytes l.place l.filled;
  left : left_from l.rows l.literals l.bytes l.place l.filled ≡ left_from l.fn.rows l.fn.literals l.fn.bytes 0 (record { rows = 0; literals = 0; bytes = 0 });
}
