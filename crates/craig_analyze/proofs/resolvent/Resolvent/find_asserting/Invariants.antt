use Rattle.craig_proof.specs.Tracer.{chain_of}
use Rattle.craig_analyze.specs.Resolvent.{IsWalking, view_of}
use Rattle.craig_analyze.proofs.resolvent.Resolvent.find_asserting.Given as goal

-- the chain leads to the literal of the place and the rest
abbrev pub invariant-loop-self : goal.invariant-loop-self
invariant-loop-self l = IsWalking l.held l.place (chain_of l.fn.steps) (chain_of l.steps) (view_of l.fn.self) (view_of l.self)

abbrev pub decreases-loop-self : goal.decreases-loop-self
decreases-loop-self l = l.place
