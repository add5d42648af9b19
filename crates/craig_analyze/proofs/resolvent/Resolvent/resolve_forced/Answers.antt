use Rattle.craig_proof.specs.Tracer.{chain_of}
use Rattle.craig_analyze.specs.Resolvent.{view_of}
use Rattle.craig_analyze.proofs.ForcingLemmas.{forcing-first, forcing-resolvable, forcing-next}
use Rattle.craig_analyze.proofs.resolvent.Resolvent.resolve_forced.Goals as goal

pub loop-staying-init : goal.loop-staying-init
loop-staying-init c =
    forcing-first c.args.staying c.args.held.now c.requires.unresolved.0 (chain_of c.args.steps.now) (view_of c.args.self.now) c.requires.unresolved.1

pub resolve_on-requires : goal.resolve_on-requires
resolve_on-requires c =
    forcing-resolvable c.args.staying c.args.held.now c.take_greatest-place.result (chain_of c.args.steps.now) (chain_of c.loop-staying.steps) (view_of c.args.self.now) (view_of c.loop-staying.self) (view_of c.take_greatest-place.new.self) c.requires.consistent c.requires.forced c.loop-staying.invariant c.take_greatest-place.ensures

pub loop-staying-smaller : goal.loop-staying-smaller
loop-staying-smaller c =
    (forcing-next c.args.staying c.args.held.now c.take_greatest-place.result (chain_of c.args.steps.now) (chain_of c.loop-staying.steps) (chain_of c.resolve_on.new.steps) (view_of c.args.self.now) (view_of c.loop-staying.self) (view_of c.take_greatest-place.new.self) (view_of c.resolve_on.new.self) c.requires.consistent c.loop-staying.invariant c.take_greatest-place.ensures c.in_ok-resolve_on.ensures).1

pub loop-staying-preserved : goal.loop-staying-preserved
loop-staying-preserved c =
    (forcing-next c.args.staying c.args.held.now c.take_greatest-place.result (chain_of c.args.steps.now) (chain_of c.loop-staying.steps) (chain_of c.resolve_on.new.steps) (view_of c.args.self.now) (view_of c.loop-staying.self) (view_of c.take_greatest-place.new.self) (view_of c.resolve_on.new.self) c.requires.consistent c.loop-staying.invariant c.take_greatest-place.ensures c.in_ok-resolve_on.ensures).0
