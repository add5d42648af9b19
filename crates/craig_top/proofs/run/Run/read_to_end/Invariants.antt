use Rattle.std.proofs.Common.{◌≡◌, ◌≤◌, ◌+◌, ℕ, List, [], length, false, Option}
use Rattle.craig_top.specs.declared.settings.Settings.{Settings}
use Rattle.craig_top.specs.Progress.{Progress}
use Rattle.craig_top.proofs.run.Run.read_to_end.Given as goal

-- as many bytes were taken as are gone of the bound, and the lines whose newline was taken are answered
abbrev pub invariant-loop-left : goal.invariant-loop-left
invariant-loop-left g l = record {
  taken : List ℕ;
  bound : length taken + l.left ≡ l.fn.bound;
  open_ended : l.self.lines.finished ≡ false;
  progress : (settings : Settings) (left held : Option (List ℕ)) → Progress settings left held (g.R.Source.remaining l.fn.source) (g.W.Sink.contents l.fn.sink) l.fn.self.session.state l.fn.self.lines []
      → Progress settings left held (g.R.Source.remaining l.source) (g.W.Sink.contents l.sink) l.self.session.state l.self.lines taken;
  read_quiet : g.R.Source.faults l.source ≡ g.R.Source.faults l.fn.source;
  write_quiet : g.W.Sink.faults l.sink ≡ g.W.Sink.faults l.fn.sink;
  size : length l.buffer ≤ 65536;
}

abbrev pub decreases-loop-left : goal.decreases-loop-left
decreases-loop-left g l = l.left
