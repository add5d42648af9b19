use Rattle.std.proofs.lemmas.Result.{on_ok_weaker}
use Rattle.craig_proof.specs.Tracer.{chain_of}
use Rattle.craig_analyze.specs.Resolvent.{view_of}
use Rattle.craig_analyze.proofs.MinimizingLemmas.{HasMinimized-forced, aside-unresolved}
use Rattle.craig_analyze.proofs.resolvent.Resolvent.minimize.Goals as goal

pub resolve_forced-requires-clause-unresolved : goal.resolve_forced-requires-clause-unresolved
resolve_forced-requires-clause-unresolved c =
    let found = c.requires.found in
    (found.2.place, aside-unresolved c.args.held.now c.args.first found.0 (chain_of c.args.steps.now) found.1 (view_of c.args.self.now) c.requires.consistent c.requires.level found.2 (chain_of c.args.steps.now) (view_of c.set_aside.new.self) (view_of c.set_aside.new.self) c.in_ok-set_aside.ensures)

pub returns : goal.returns
returns c =
    let found = c.requires.found in
    on_ok_weaker c.resolve_forced.result (HasMinimized-forced c.args.held.now c.args.first found.0 (chain_of c.args.steps.now) found.1 (view_of c.args.self.now) c.requires.consistent c.requires.level found.2 (chain_of c.resolve_forced.new.steps) (view_of c.set_aside.new.self) (view_of c.resolve_forced.new.self) c.in_ok-set_aside.ensures) c.resolve_forced.ensures
