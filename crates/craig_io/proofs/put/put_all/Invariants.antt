use Rattle.std.proofs.Common.{◌≡◌, ◌<◌, ◌≤◌, ◌^◌, length}
use Rattle.craig_io.specs.Sink.{HasWritten}
use Rattle.craig_io.proofs.put.put_all.Given as goal

abbrev pub invariant-loop-rest : goal.invariant-loop-rest
invariant-loop-rest g l = record {
  written : HasWritten l.bytes l.rest (g.W.Sink.contents l.initial.sink) (g.W.Sink.contents l.sink);
  quiet : g.W.Sink.faults l.sink ≡ g.W.Sink.faults l.initial.sink;
  count : g.W.Sink.faults l.initial.sink ≤ g.W.Sink.faults l.sink;
  count_fits : g.W.Sink.faults l.initial.sink < 2 ^ 64 → g.W.Sink.faults l.sink < 2 ^ 64;
  unused : length l.bytes ≡ 0 → l.sink ≡ l.initial.sink;
}

abbrev pub decreases-loop-rest : goal.decreases-loop-rest
decreases-loop-rest g l = length l.rest
