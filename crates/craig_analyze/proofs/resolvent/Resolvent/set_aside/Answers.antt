use Rattle.craig_analyze.specs.Resolvent.{view_of}
use Rattle.craig_analyze.proofs.MinimizingLemmas.{IsSetAside-both, still-false}
use Rattle.craig_analyze.proofs.resolvent.Resolvent.set_aside.Goals as goal

pub set_aside_at-requires-clause-falsified : goal.set_aside_at-requires-clause-falsified
set_aside_at-requires-clause-falsified c =
    still-false c.args.held.now (view_of c.args.self.now) (view_of c.loop-place.self) c.loop-place.invariant.aside c.requires.falsified

pub loop-place-preserved : goal.loop-place-preserved
loop-place-preserved c = record {
  aside = IsSetAside-both c.args.held.now (view_of c.args.self.now) (view_of c.loop-place.self) (view_of c.set_aside_at.new.self) c.loop-place.invariant.aside c.in_ok-set_aside_at.ensures.aside;
  within = c.in_ok-set_aside_at.ensures.within;
}
