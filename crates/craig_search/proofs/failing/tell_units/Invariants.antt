use Rattle.std.proofs.Common.{◌≡◌, ◌++◌, is_some, take}
use Rattle.std.specs.Option.{option_map}
use Rattle.craig_proof.specs.Covers.{IsCovering}
use Rattle.craig_watch.specs.Held.{held_clause}
use Rattle.craig_search.specs.Failing.{look_up, unit_chain, with_ids, with_units_told}
use Rattle.craig_search.specs.Verdict.{at_places}
use Rattle.craig_search.proofs.failing.tell_units.Given as goal

-- the units so far were told, and the steps with them stand behind those from before
abbrev pub invariant-loop-place : goal.invariant-loop-place
invariant-loop-place g l = record {
  numbered : l.held ≡ with_ids l.initial.held l.place-index;
  steps : l.steps ≡ l.initial.steps ++ unit_chain l.initial.held.arena.given (at_places l.assumptions (take l.place-index l.places));
  units : g.T.Tracer.told l.tracer ≡ option_map (with_units_told l.initial.held.arena.given (at_places l.assumptions (take l.place-index l.places))) (g.T.Tracer.told l.initial.tracer);
  covers : IsCovering (g.T.Tracer.told l.tracer) (look_up (held_clause l.initial.held.arena) l.initial.held.arena.given (at_places l.assumptions (take l.place-index l.places))) l.held.arena.given;
  tells : is_some (g.T.Tracer.told l.tracer) ≡ is_some (g.T.Tracer.told l.initial.tracer);
  kept : g.T.Tracer.kept l.tracer ≡ g.T.Tracer.kept l.initial.tracer;
}
