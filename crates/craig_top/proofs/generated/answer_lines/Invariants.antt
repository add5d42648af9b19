use Rattle.std.proofs.Common.{◌≡◌, ◌++◌, [], List, length, ◌⊎◌}
use Rattle.craig_script.specs.declared.line.Line.{Line}
use Rattle.craig_top.specs.GeneratedRun.{RepliesToLast}
use Rattle.craig_top.specs.GivenState.{after}
use Rattle.craig_top.proofs.generated.answer_lines.Given as goal

-- some of the lines are answered, the others still wait, and where there was one the reply to the last of them is there
abbrev pub invariant-loop-line : goal.invariant-loop-line
invariant-loop-line l = record {
  answered : List Line;
  ready : l.fn.lines.ready ≡ answered ++ l.lines.ready;
  session : l.session.state ≡ after l.fn.session.state answered;
  reply : (answered ≡ []) ⊎ RepliesToLast l.fn.session.state answered l.reply.items;
}

abbrev pub decreases-loop-line : goal.decreases-loop-line
decreases-loop-line l = length l.lines.ready
