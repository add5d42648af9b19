use Rattle.craig_itp.proofs.CutTracerLemmas.{IsCutTracer-forgotten}
use Rattle.craig_itp.proofs.cut_tracer.CutTracerTracer.forget.Goals as goal

pub invariant_of-self : goal.invariant_of-self
invariant_of-self g c = IsCutTracer-forgotten _ _ _ c.args.id.0 _ _ _ _ _ c.self.invariant c.forget.ensures.told
