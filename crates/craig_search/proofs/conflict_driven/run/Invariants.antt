use Rattle.std.proofs.Common.{◌≡◌, ◌≤◌, length}
use Rattle.std.specs.Option.{is_some}
use Rattle.craig_watch.specs.Held.{held_clause}
use Rattle.craig_proof.specs.Covers.{IsCovering}
use Rattle.craig_search.specs.Assuming.{AreDecided, AreTrueBefore}
use Rattle.craig_search.specs.Journal.{AreBelow}
use Rattle.craig_search.specs.Leaves.{IsReady}
use Rattle.craig_search.specs.Searching.{IsJournal, IsSearching}
use Rattle.craig_search.proofs.MeasureLemmas.{turns_with}
use Rattle.craig_search.proofs.conflict_driven.run.Given as goal

abbrev pub invariant-turns : goal.invariant-turns
invariant-turns g l = record {
  searching : IsSearching l.initial.held l.held (g.T.Tracer.told l.initial.tracer) (g.T.Tracer.told l.tracer);
  ready : IsReady l.held l.order;
  covers : IsCovering (g.T.Tracer.told l.tracer) (held_clause l.held.arena) l.held.arena.given;
  order : l.order.dead ≡ l.initial.order.dead;
  tells : is_some (g.T.Tracer.told l.tracer) ≡ is_some (g.T.Tracer.told l.initial.tracer);
  kept : g.T.Tracer.kept l.tracer ≡ g.T.Tracer.kept l.initial.tracer;
  within : l.place ≤ length l.assumptions;
  decided : AreDecided l.assumptions l.held.trail;
  before : AreTrueBefore l.held.trail l.assumptions l.place;
  listed : AreBelow l.limit l.initial.held.arena l.held.arena l.journal;
  journal : IsJournal l.reductions.since l.held.arena;
  first : l.reductions.first ≡ l.initial.held.arena.given;
  later : l.initial.held.arena.given ≤ l.reductions.since;
  given : l.reductions.since ≤ l.held.arena.given;
}

abbrev pub decreases-turns : goal.decreases-turns
decreases-turns g l = turns_with l.reductions.left l.reductions.since l.held
