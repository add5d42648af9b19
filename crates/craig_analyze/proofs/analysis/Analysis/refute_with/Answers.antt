use Rattle.std.proofs.Common.{refl, length, ap}
use Rattle.craig_proof.specs.Tracer.{chain_of}
use Rattle.craig_analyze.specs.Resolvent.{view_of}
use Rattle.craig_analyze.proofs.LearntLemmas.{begun-root, refuted-derived}
use Rattle.craig_analyze.proofs.analysis.Analysis.refute_with.Goals as goal

pub resolve_root-requires : goal.resolve_root-requires
resolve_root-requires c =
    let h = c.args.held.now in
    let begun = c.in_ok-begin.ensures.begun in
    record {
      consistent = c.begin.ensures.consistent;
      unresolved = (length h.trail, begun.unresolved);
      root = begun-root h c.args.conflict.0 (view_of c.begin.new.self) c.requires.level begun;
    }

pub returns-clause-derived : goal.returns-clause-derived
returns-clause-derived c =
    refuted-derived c.args.held.now c.args.conflict.0 _ (chain_of c.resolve_root.new.steps) (view_of c.begin.new.self) (view_of c.resolve_root.new.self) _ c.requires.level c.in_ok-begin.ensures.begun c.in_ok-resolve_root.ensures c.new.ensures refl refl (ap chain_of c.new-rest.ensures)
