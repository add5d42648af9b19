use Rattle.std.proofs.Common.{◌≡◌, Some}
use Rattle.std.specs.Option.{is_some}
use Rattle.craig_solver.specs.State.{ForgetsUnits, IsState, state_with}
use Rattle.craig_solver.proofs.state.State.forget_units.Given as goal

abbrev pub invariant-loop-self : goal.invariant-loop-self
invariant-loop-self g l = record {
  root : l.self.root ≡ Some l.root;
  state : IsState (state_with (g.T.Tracer.told l.self.tracer) l.self);
  forgets : ForgetsUnits (state_with (g.T.Tracer.told l.initial.self.tracer) l.initial.self) (state_with (g.T.Tracer.told l.self.tracer) l.self);
  tells : is_some (g.T.Tracer.told l.self.tracer) ≡ is_some (g.T.Tracer.told l.initial.self.tracer);
  kept : g.T.Tracer.kept l.self.tracer ≡ g.T.Tracer.kept l.initial.self.tracer;
}

abbrev pub decreases-loop-self : goal.decreases-loop-self
decreases-loop-self g l = l.self.units
