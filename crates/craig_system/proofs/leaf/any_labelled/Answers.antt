use Rattle.std.proofs.Common.{◌≡◌, true, false, ◌∙◌, ap}
use Rattle.craig_label.specs.Marks.{label_of}
use Rattle.craig_system.specs.Building.{is_label}
use Rattle.craig_system.specs.Rules.{labelling}
use Rattle.craig_aig.proofs.GrowthLemmas.{ArenaGrows-trans}
use Rattle.craig_system.proofs.LeafLemmas.{IsAny-more, IsAny-more_other, is_label-marks}
use Rattle.craig_system.proofs.leaf.any_labelled.Goals as goal
use Rattle.craig_system.proofs.leaf.any_labelled.Goals.{then-eq+in_ok-edge, else-eq}

pub returns-in_err-edge-clause-grows : goal.returns-in_err-edge-clause-grows
returns-in_err-edge-clause-grows g c =
    ArenaGrows-trans c.args.aig.now c.loop-lit.aig c.or_literal.new.aig c.loop-lit.invariant.grows c.or_literal.ensures.grows

pub loop-lit-preserved : goal.loop-lit-preserved
loop-lit-preserved g c =
    let label = (labelling c.args.sides.now c.args.cut (g.S.System.marks c.args.system.now)).label in
    let i = c.loop-lit.lit-index in
    let lit = c.lit-item.result in
    let before = c.loop-lit.edge in
    let old = c.loop-lit.aig in
    let is : label_of c.label.result ≡ label lit.var = c.label.ensures ∙ ap label c.var.ensures.value in
    elim c.if-eq.branch [
      | then-eq+in_ok-edge w ↦
          let new = w.or_literal.new.aig in
          let edge = w.in_ok-edge.edge in
          let here : is_label (label_of c.args.label) (label lit.var) ≡ true = is_label-marks c.label.result c.args.label (label lit.var) c.eq.result true is c.eq.ensures w.if-eq.true in
          rw (w.aig-is, w.edge-is) (record {
            within = w.in_ok-edge.ensures.within;
            any = IsAny-more label (label_of c.args.label) c.args.lits.now i lit old before new edge c.loop-lit-test.true c.lit-item.is here c.loop-lit.invariant.any w.in_ok-edge.ensures.more;
            grows = ArenaGrows-trans c.args.aig.now old new c.loop-lit.invariant.grows w.or_literal.ensures.grows;
          })
      | else-eq w ↦
          let other : is_label (label_of c.args.label) (label lit.var) ≡ false = is_label-marks c.label.result c.args.label (label lit.var) c.eq.result false is c.eq.ensures w.if-eq.false in
          rw (w.aig-is, w.edge-is) (record {
            within = c.loop-lit.invariant.within;
            any = IsAny-more_other label (label_of c.args.label) c.args.lits.now i lit old before c.loop-lit-test.true c.lit-item.is other c.loop-lit.invariant.any;
            grows = c.loop-lit.invariant.grows;
          })
    ]
