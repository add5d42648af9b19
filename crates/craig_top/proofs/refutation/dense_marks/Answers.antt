use Rattle.craig_system.specs.Marking.{labels_in}
use Rattle.craig_top.proofs.MarkLemmas.{HasMarks-all, HasMarks-more, HasMarks-new, HasMarks-passed}
use Rattle.craig_top.proofs.NamedChainLemmas.{AreDifferent-from_IsDistinct}
use Rattle.craig_top.proofs.refutation.dense_marks.Goals as goal
use Rattle.craig_top.proofs.refutation.dense_marks.Goals.{in-Some+in_ok-set, in_default}

pub loop-mark-init : goal.loop-mark-init
loop-mark-init c = HasMarks-new c.args.names.now c.new-marked.result c.new-marked.ensures

pub loop-mark-preserved : goal.loop-mark-preserved
loop-mark-preserved c =
    let names = c.args.names.now in
    let marks = c.args.marks.now in
    let i = c.loop-mark.mark-index in
    let different = AreDifferent-from_IsDistinct names c.find.ensures.are_names.distinct in
    elim c.match-find.branch [
      | in-Some+in_ok-set w ↦
          rw w.marked-is (HasMarks-more names marks i _ (labels_in c.loop-mark.marked) c.loop-mark-test.true c.loop-mark.invariant different w.in-Some.var.0 _ w.in-Some.ensures.place w.in_ok-set.ensures.set)
      | in_default w ↦
          rw w.marked-is (HasMarks-passed names marks i _ (labels_in c.loop-mark.marked) c.loop-mark-test.true c.loop-mark.invariant c.find.result c.find.ensures.absent.0 w.in_default.is)
    ]

pub returns : goal.returns
returns c = HasMarks-all c.args.names.now c.args.marks.now c.loop-mark.mark-index (labels_in c.loop-mark.marked) c.loop-mark-test.false c.loop-mark.invariant
