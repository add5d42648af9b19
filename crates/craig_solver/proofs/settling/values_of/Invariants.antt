use Rattle.std.proofs.Common.{◌≡◌, ℕ, ◌<◌, false, length, get_or}
use Rattle.craig_watch.specs.Trail.{value_under}
use Rattle.craig_solver.proofs.ValueLemmas.{is_true}
use Rattle.craig_solver.proofs.settling.values_of.Given as goal

abbrev pub invariant-loop-var : goal.invariant-loop-var
invariant-loop-var l = record {
  many : length l.values ≡ l.vars;
  set : (v : ℕ) → v < l.var → get_or l.values v false ≡ is_true (value_under l.held.trail (record { var = v; negated = false }));
}
