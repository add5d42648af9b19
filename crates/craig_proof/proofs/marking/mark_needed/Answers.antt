use Rattle.std.proofs.Common.{◌≡◌, ◌-◌, ◌+◌, ◌∙◌, sym, subst, arith}
use Rattle.craig_proof.specs.Reclaiming.{AreMarkedFrom, AreSameRows}
use Rattle.craig_proof.proofs.MarkingLemmas.{AreSameRows-first, HaveChains-same, length-same, marked_last}
use Rattle.craig_proof.proofs.marking.mark_needed.Goals as goal

pub loop-place-init : goal.loop-place-init
loop-place-init c =
    let same : AreSameRows c.args.rows.now c.mark_unforgotten.new.rows = subst (AreSameRows c.args.rows.now) (sym c.mark_unforgotten.ensures) (AreSameRows-first c.args.rows.now) in
    record {
      within = omega (arith, length-same c.args.rows.now c.mark_unforgotten.new.rows same);
      same = same;
      marked = λ steps chains. marked_last c.args.rows.now c.mark_unforgotten.new.rows c.args.bytes.now steps c.mark_unforgotten.ensures chains;
    }

pub mark_before-requires-clause-chains : goal.mark_before-requires-clause-chains
mark_before-requires-clause-chains c =
    (c.requires.0, HaveChains-same c.args.rows.now c.loop-place.rows c.args.bytes.now c.requires.0 c.loop-place.invariant.same c.requires.1)

pub loop-place-preserved : goal.loop-place-preserved
loop-place-preserved c = record {
  within = omega (arith, c.loop-place.invariant.within);
  same = c.mark_before.ensures.same ∙ c.loop-place.invariant.same;
  marked = λ steps chains.
      let next : c.loop-place.place ≡ c.loop-place.place - 1 + 1 = omega (arith, c.loop-place-test.true) in
      c.mark_before.ensures.marked steps (HaveChains-same c.args.rows.now c.loop-place.rows c.args.bytes.now steps c.loop-place.invariant.same chains) (subst (AreMarkedFrom steps c.loop-place.rows) next (c.loop-place.invariant.marked steps chains));
}
