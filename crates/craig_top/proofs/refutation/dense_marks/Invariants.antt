use Rattle.std.proofs.Common.{take}
use Rattle.craig_system.specs.Marking.{labels_in}
use Rattle.craig_top.specs.Stored.{labels}
use Rattle.craig_top.specs.WrittenOutputs.{HasMarks}
use Rattle.craig_top.proofs.refutation.dense_marks.Given as goal

-- the marks so far count
abbrev pub invariant-loop-mark : goal.invariant-loop-mark
invariant-loop-mark l = HasMarks l.names (labels (take l.mark-index l.marks)) (labels_in l.marked)
