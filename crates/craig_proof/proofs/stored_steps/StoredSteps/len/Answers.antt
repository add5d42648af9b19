use Rattle.std.proofs.Common.{arith}
use Rattle.craig_proof.proofs.RowLemmas.{length-rows}
use Rattle.craig_proof.proofs.stored_steps.StoredSteps.len.Goals as goal

pub returns : goal.returns
returns c = rw (← c.self.view_is, length-rows) (omega (arith, c.len.ensures, c.self.inside.rows.ok.0))
