use Rattle.std.proofs.Common.{heap_items}
use Rattle.craig_proof.specs.Tracer.{chain_of}
use Rattle.craig_proof.specs.NeededSteps.{bound_of}
use Rattle.craig_analyze.specs.Resolvent.{IsEnding, view_of}
use Rattle.craig_analyze.proofs.resolvent.Resolvent.resolve_root.Given as goal

-- the chain leads to what is pending and to the lower literals
abbrev pub invariant-loop-self : goal.invariant-loop-self
invariant-loop-self l = IsEnding l.held (chain_of l.fn.steps) (chain_of l.steps) (view_of l.fn.self) (view_of l.self)

abbrev pub decreases-loop-self : goal.decreases-loop-self
decreases-loop-self l = bound_of (heap_items l.self.pending)
