use Rattle.std.proofs.Common.{◌≡◌}
use Rattle.craig_proof.specs.Lent.{steps_at}
use Rattle.craig_proof.proofs.ReplayLemmas.{IsTellingUpTo}
use Rattle.craig_proof.proofs.replay.tell_all.Given as goal

abbrev pub invariant-loop-place : goal.invariant-loop-place
invariant-loop-place g l = record {
  telling : IsTellingUpTo (steps_at l.steps l.places) l.place-index (g.T.Tracer.told l.initial.into) (g.T.Tracer.told l.into);
  kept : g.T.Tracer.kept l.into ≡ g.T.Tracer.kept l.initial.into;
}
