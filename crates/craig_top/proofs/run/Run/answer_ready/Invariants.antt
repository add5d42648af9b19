use Rattle.std.proofs.Common.{◌≡◌, length}
use Rattle.craig_top.specs.Gathered.{AnswersAndPuts}
use Rattle.craig_top.proofs.run.Run.answer_ready.Given as goal

-- some of the lines are answered, with their replies put, and the others still wait
abbrev pub invariant-loop-enough : goal.invariant-loop-enough
invariant-loop-enough g l = record {
  put : AnswersAndPuts l.fn.self.session.state l.self.session.state l.fn.self.lines l.self.lines (g.W.Sink.contents l.fn.sink) (g.W.Sink.contents l.sink);
  quiet : g.W.Sink.faults l.sink ≡ g.W.Sink.faults l.fn.sink;
}

abbrev pub decreases-loop-enough : goal.decreases-loop-enough
decreases-loop-enough g l = length l.self.lines.ready
