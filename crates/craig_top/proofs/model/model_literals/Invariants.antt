use Rattle.std.proofs.Common.{◌≡◌}
use Rattle.craig_top.specs.Naming.{model_below}
use Rattle.craig_top.proofs.model.model_literals.Given as goal

abbrev pub invariant-loop-place : goal.invariant-loop-place
invariant-loop-place l = l.literals.items ≡ model_below l.names l.named l.values l.place
