use Rattle.std.proofs.Common.{ℕ, get_or, refl}
use Rattle.craig_aig.proofs.GrowthLemmas.{ArenaGrows-trans}
use Rattle.craig_itp.proofs.SequenceLemmas.{AreOutputs-pushed, length-pushed}
use Rattle.craig_itp.proofs.interpolation.outputs.Goals as goal

pub returns-in_err-edge-clause-grows : goal.returns-in_err-edge-clause-grows
returns-in_err-edge-clause-grows g c = ArenaGrows-trans c.args.aig.now c.loop-cut.aig c.output.new.aig c.loop-cut.invariant.grows c.output.ensures.grows

pub returns-in_err-push-clause-grows : goal.returns-in_err-push-clause-grows
returns-in_err-push-clause-grows g c = ArenaGrows-trans c.args.aig.now c.loop-cut.aig c.output.new.aig c.loop-cut.invariant.grows c.output.ensures.grows

pub loop-cut-preserved : goal.loop-cut-preserved
loop-cut-preserved g c =
    let marks = g.S.System.marks c.args.system.now in
    let steps = c.args.needed.now in
    let now : ℕ = get_or c.args.cuts.now c.loop-cut.cut-index 0 in
    let edge = c.in_ok-edge.edge in
    let more = c.push.new.self in
    record {
      count = length-pushed c.loop-cut.edges more edge c.loop-cut.cut-index c.loop-cut.invariant.count c.in_ok-push.ensures.pushed;
      each = AreOutputs-pushed c.args.sides.now marks steps c.args.root.0 c.args.cuts.now c.loop-cut.aig c.output.new.aig c.loop-cut.edges more edge c.loop-cut.cut-index now 0 c.loop-cut.invariant.count
          c.output.ensures.grows c.loop-cut.invariant.each refl c.loop-cut-test.true c.in_ok-edge.ensures.output c.in_ok-push.ensures.pushed;
      grows = ArenaGrows-trans c.args.aig.now c.loop-cut.aig c.output.new.aig c.loop-cut.invariant.grows c.output.ensures.grows;
    }
