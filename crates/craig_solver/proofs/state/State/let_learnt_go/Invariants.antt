use Rattle.std.proofs.Common.{◌≡◌}
use Rattle.std.specs.Option.{is_some}
use Rattle.craig_solver.specs.State.{IsState, LetsLearntGo, state_with}
use Rattle.craig_solver.proofs.state.State.let_learnt_go.Given as goal

-- learnt clauses were let go so far
abbrev pub invariant-loop-number : goal.invariant-loop-number
invariant-loop-number g l = record {
  state : IsState (state_with (g.T.Tracer.told l.self.tracer) l.self);
  lets_go : LetsLearntGo (state_with (g.T.Tracer.told l.initial.self.tracer) l.initial.self) (state_with (g.T.Tracer.told l.self.tracer) l.self);
  tells : is_some (g.T.Tracer.told l.self.tracer) ≡ is_some (g.T.Tracer.told l.initial.self.tracer);
  kept : g.T.Tracer.kept l.self.tracer ≡ g.T.Tracer.kept l.initial.self.tracer;
}
