use Rattle.std.proofs.Common.{take}
use Rattle.craig_analyze.specs.Resolvent.{Meets, view_of}
use Rattle.craig_analyze.proofs.resolvent.Resolvent.meet.Given as goal

-- the literals so far came in
abbrev pub invariant-loop-lit : goal.invariant-loop-lit
invariant-loop-lit l = Meets l.staying l.held (take l.lit-index l.lit-items) (view_of l.initial.self) (view_of l.self)
