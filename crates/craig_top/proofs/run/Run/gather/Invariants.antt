use Rattle.std.proofs.Common.{length}
use Rattle.craig_top.specs.Gathered.{Gathers}
use Rattle.craig_top.proofs.run.Run.gather.Given as goal

-- some of the lines are answered, and the others still wait
abbrev pub invariant-loop-self : goal.invariant-loop-self
invariant-loop-self l = Gathers l.fn.self.session.state l.self.session.state l.fn.self.lines l.self.lines l.self.replies.items

abbrev pub decreases-loop-self : goal.decreases-loop-self
decreases-loop-self l = length l.self.lines.ready
