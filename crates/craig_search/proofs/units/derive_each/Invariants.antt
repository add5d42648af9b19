use Rattle.std.proofs.Common.{◌≡◌}
use Rattle.std.specs.Option.{is_some}
use Rattle.craig_watch.specs.Held.{IsConsistent, held_clause}
use Rattle.craig_proof.specs.Covers.{IsCovering}
use Rattle.craig_search.specs.Units.{DerivesUnits}
use Rattle.craig_search.proofs.units.derive_each.Given as goal

abbrev pub invariant-loop-place : goal.invariant-loop-place
invariant-loop-place g l = record {
  derives : DerivesUnits l.initial.held l.held (g.T.Tracer.told l.initial.tracer) (g.T.Tracer.told l.tracer);
  consistent : IsConsistent l.held;
  covers : IsCovering (g.T.Tracer.told l.tracer) (held_clause l.held.arena) l.held.arena.given;
  tells : is_some (g.T.Tracer.told l.tracer) ≡ is_some (g.T.Tracer.told l.initial.tracer);
  kept : g.T.Tracer.kept l.tracer ≡ g.T.Tracer.kept l.initial.tracer;
}
