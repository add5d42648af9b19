use Rattle.std.proofs.Common.{vec_len}
use Rattle.craig_analyze.specs.Marks.{AreMarks}
use Rattle.craig_analyze.proofs.marks.Marks.clear.Given as goal

-- the flags fit the numbers that are left
abbrev pub invariant-loop-number : goal.invariant-loop-number
invariant-loop-number l = AreMarks l.self-inside.flags.items l.self-inside.marked.items

abbrev pub decreases-loop-number : goal.decreases-loop-number
decreases-loop-number l = vec_len l.self-inside.marked
