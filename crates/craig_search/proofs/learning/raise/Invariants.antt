use Rattle.std.proofs.Common.{◌≡◌}
use Rattle.craig_search.proofs.learning.raise.Given as goal

abbrev pub invariant-loop-lit : goal.invariant-loop-lit
invariant-loop-lit l = l.order ≡ l.initial.order

abbrev pub invariant-loop-step : goal.invariant-loop-step
invariant-loop-step l = l.order ≡ l.initial.order
