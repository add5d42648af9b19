use Rattle.craig_aiger_read.proofs.MovingLemmas.{PlacesFrom}
use Rattle.craig_aiger_read.proofs.moving.new_variables.Given as goal

abbrev pub invariant-loop-place : goal.invariant-loop-place
invariant-loop-place l = PlacesFrom l.first l.order l.place l.variables.items

abbrev pub decreases-loop-place : goal.decreases-loop-place
decreases-loop-place l = l.place
