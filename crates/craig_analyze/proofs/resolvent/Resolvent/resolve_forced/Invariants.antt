use Rattle.std.proofs.Common.{heap_items}
use Rattle.craig_proof.specs.Tracer.{chain_of}
use Rattle.craig_proof.specs.NeededSteps.{bound_of}
use Rattle.craig_analyze.specs.Resolvent.{IsForcing, view_of}
use Rattle.craig_analyze.proofs.resolvent.Resolvent.resolve_forced.Given as goal

-- the chain leads to what is pending and to the literals that stay
abbrev pub invariant-loop-staying : goal.invariant-loop-staying
invariant-loop-staying l = IsForcing l.staying l.held (chain_of l.fn.steps) (chain_of l.steps) (view_of l.fn.self) (view_of l.self)

abbrev pub decreases-loop-staying : goal.decreases-loop-staying
decreases-loop-staying l = bound_of (heap_items l.self.pending)
