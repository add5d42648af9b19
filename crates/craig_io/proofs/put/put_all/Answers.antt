use Rattle.std.proofs.Common.{arith}
use Rattle.std.proofs.lemmas.Grind.{common_steps}
use Rattle.craig_io.proofs.SinkLemmas.{HasWritten-more}
use Rattle.craig_io.proofs.put.put_all.Goals as goal

pub loop-rest-preserved : goal.loop-rest-preserved
loop-rest-preserved g c = record {
  written = HasWritten-more _ _ _ _ _ _ c.loop-rest.invariant.written c.in_ok-rest.ensures.written;
  quiet = grind (arith, common_steps);
  count = omega arith;
  count_fits = λ h. c.put_some.ensures.count_fits;
  unused = grind (arith, common_steps);
}
