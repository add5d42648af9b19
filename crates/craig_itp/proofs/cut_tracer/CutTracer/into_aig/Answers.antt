use Rattle.craig_aig.proofs.GrowthLemmas.{ArenaGrows-Extends, Extends-take}
use Rattle.craig_itp.proofs.cut_tracer.CutTracer.into_aig.Goals as goal

pub returns-clause-grows : goal.returns-clause-grows
returns-clause-grows g c = rw (← c.self.view_is) (ArenaGrows-Extends _ _ (Extends-take c.self.inside.older c.self.inside.aig) c.self.invariant.edges_are.is_arena)
