use Rattle.std.proofs.Common.{◌≡◌, ℕ, ◌||◌, eqb, length, map}
use Rattle.std.specs.List.{list_any}
use Rattle.craig_proof.specs.NeededSteps.{waits}
use Rattle.craig_proof.proofs.finding.wait_for_rest.Given as goal

abbrev pub invariant-loop-step : goal.invariant-loop-step
invariant-loop-step l = (x : ℕ) → (list_any (eqb x) (map (λ s. s.antecedent) l.left) || waits l.waiting x) ≡ (list_any (eqb x) (map (λ s. s.antecedent) l.initial.left) || waits l.initial.waiting x)

abbrev pub decreases-loop-step : goal.decreases-loop-step
decreases-loop-step l = length l.left
